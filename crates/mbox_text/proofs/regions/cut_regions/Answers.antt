use Rattle.std.proofs.Common.{◌<◌, ◌∙◌, length, sym, ap, arith}
use Rattle.std.proofs.lemmas.Bool.{eqb-true}
use Rattle.std.proofs.lemmas.Bool.Decides.{nat_tests}
use Rattle.folder_core.specs.Mbox.{is_postmark}
use Rattle.folder_core.proofs.Messages.{Cover-same}
use Rattle.mbox_text.proofs.RegionsLemmas.{begins_empty, begins_first, regions_empty}
use Rattle.mbox_text.proofs.regions.cut_regions.Goals as goal

pub returns-then-is_empty-clause-cut : goal.returns-then-is_empty-clause-cut
returns-then-is_empty-clause-cut c =
    c.new.ensures ∙ sym (regions_empty c.args.bytes.now (eqb-true _ _ (sym c.if-is_empty.ensures)))

pub returns-then-is_empty-clause-cover : goal.returns-then-is_empty-clause-cover
returns-then-is_empty-clause-cover c =
    Cover-same c.args.bytes.now _
    (c.new.ensures
    ∙ sym (regions_empty c.args.bytes.now (eqb-true _ _ (sym c.if-is_empty.ensures))))

pub returns-then-is_empty-clause-mailbox : goal.returns-then-is_empty-clause-mailbox
returns-then-is_empty-clause-mailbox c =
    λ ok. begins_empty c.args.bytes.now (eqb-true _ _ (sym c.if-is_empty.ensures))

pub returns-then-not-is_postmark-clause-not_mailbox :
    goal.returns-then-not-is_postmark-clause-not_mailbox
returns-then-not-is_postmark-clause-not_mailbox c = λ err.
    let some : 0 < length c.args.bytes.now = grind (arith, nat_tests) in
    begins_first c.args.bytes.now some ∙ ap is_postmark (sym c.first_line.ensures.value)
    ∙ sym c.if-not-is_postmark.ensures

pub returns-clause-cover : goal.returns-clause-cover
returns-clause-cover c = Cover-same c.args.bytes.now _ c.in_ok-regions_of.ensures
