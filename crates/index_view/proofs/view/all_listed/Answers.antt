use Rattle.std.proofs.Common.{◌∙◌, ap, length, subst, sym}
use Rattle.std.proofs.lemmas.Simd.{map-map}
use Rattle.mail_base.specs.declared.kind.Id.{Id}
use Rattle.index_items.specs.Items.{PlainItem, plain_items}
use Rattle.index_listed.specs.Heads.{AreWithin}
use Rattle.index_listed.specs.Places.{numbers}
use Rattle.index_view.proofs.view.all_listed.Goals as goal

pub all_listed-requires-clause-within : goal.all_listed-requires-clause-within
all_listed-requires-clause-within c =
    let items = plain_items c.args.items.now in
    subst (AreWithin (length c.args.heads.now))
    (sym (ap numbers (c.deref.ensures.value ∙ c.in_ok-ids.ensures)
    ∙ map-map (λ (id : Id). id.0) (λ (i : PlainItem). i.id) items)) c.requires.within
