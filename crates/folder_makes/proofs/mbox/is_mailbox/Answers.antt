use Rattle.std.proofs.Common.{◌<◌, ◌∙◌, ap, arith, is_some, length, sym}
use Rattle.std.proofs.lemmas.Bool.{eqb-true}
use Rattle.std.proofs.lemmas.Bool.Decides.{nat_tests}
use Rattle.folder_core.specs.Mbox.{is_postmark}
use Rattle.mbox_text.proofs.RegionsLemmas.{begins_empty, begins_first}
use Rattle.folder_makes.proofs.mbox.is_mailbox.Goals as goal

pub returns-then-is_empty : goal.returns-then-is_empty
returns-then-is_empty c =
    c.if-is_empty.true
    ∙ sym (begins_empty c.args.bytes.now
    (eqb-true _ _ (sym c.is_empty.ensures ∙ c.if-is_empty.true)))

pub returns-else-is_empty : goal.returns-else-is_empty
returns-else-is_empty c =
    let some : 0 < length c.args.bytes.now = grind (arith, nat_tests) in
    c.is_some.ensures ∙ ap is_some c.read_postmark.ensures.value
    ∙ ap is_postmark c.first_line.ensures.value ∙ sym (begins_first c.args.bytes.now some)
