use Rattle.std.proofs.Common.{subst}
use Rattle.session_pager.specs.Reads.{Becomes, FullReader}
use Rattle.session_pager.specs.Searching.{searched_for}
use Rattle.session_pager.proofs.reader.Reader.search_for.Goals as goal

pub returns-clause-moved : goal.returns-clause-moved
returns-clause-moved c =
    subst (λ (r : FullReader). Becomes (searched_for c.args.expr) r c.search_again.new.self)
    c.self.view_is c.in_ok-search_again.ensures.moved
