use Rattle.std.proofs.Common.{◌∙◌, ap, sym, subst}
use Rattle.std.proofs.lemmas.Result.{IfOk-weaker}
use Rattle.mail_base.specs.Flags.{stored}
use Rattle.mail_base.specs.declared.kind.Kind.TheVariants.{Mbox}
use Rattle.mbox_text.specs.WithStatus.{with_status}
use Rattle.folder_drivers.specs.MboxRegion.{item_region}
use Rattle.mbox_items.specs.Appended.{IsOneMessage}
use Rattle.mbox_items.proofs.RegionLemmas.{one_message}
use Rattle.mbox_items.proofs.item_region.item_text.Goals as goal

pub returns-clause-region : goal.returns-clause-region
unfolding item_region
returns-clause-region c =
    let item = c.args.item.now in
    let text =
    ap (λ f. with_status f c.as_slice.result.now) c.stored.ensures
    ∙ ap (with_status (stored Mbox item.flags)) (c.as_slice.ensures ∙ c.in_ok-region.ensures) in
    IfOk-weaker c.with_status.result _ _ (λ t e. e ∙ text) c.with_status.ensures.text

pub returns-clause-message : goal.returns-clause-message
returns-clause-message c =
    let item = c.args.item.now in
    IfOk-weaker c.with_status.result _ _
    (λ t e. subst (IsOneMessage item) (sym e) (one_message item)) (returns-clause-region c)
