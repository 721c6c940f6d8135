use Rattle.std.proofs.Common.{subst, sym}
use Rattle.index_view.specs.View.{IsOf, PlainView}
use Rattle.index_view.proofs.ViewLemmas.{aliased_of}
use Rattle.index_view.proofs.view.View.add_alias.Goals as goal

pub returns-clause-is_of : goal.returns-clause-is_of
returns-clause-is_of c mails of =
    let aliases = c.alias.new.self.aliases in
    subst (λ (w : PlainView). IsOf mails (record w { aliases = aliases })) (sym c.self.view_is)
    (aliased_of mails c.args.self.now aliases of)
