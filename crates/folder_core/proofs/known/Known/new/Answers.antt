use Rattle.std.proofs.Common.{false, rules, subst, sym}
use Rattle.folder_core.specs.Known.{KnownFolder}
use Rattle.folder_core.specs.Right.{Right}
use Rattle.folder_core.proofs.RightLemmas.{right_new}
use Rattle.folder_core.proofs.known.Known.new.Goals as goal

pub returns-clause-right : goal.returns-clause-right
returns-clause-right c mails told =
    subst (λ (k : KnownFolder). Right c.args.kind mails k told) (sym (search rules))
    (right_new c.args.kind c.args.kind mails c.args.path.now false told)
