use Rattle.std.proofs.Common.{◌≡◌, ◌∙◌, ap, length, subst, sym}
use Rattle.std.proofs.Common.{List}
use Rattle.index_items.specs.Alteration.{alter_at, altered_by}
use Rattle.index_items.specs.Items.{PlainItem, numbers, plain_items}
use Rattle.index_items.specs.declared.alteration.Alteration.{Alteration}
use Rattle.index_items.specs.declared.alteration.Alteration.TheVariants.{Pending}
use Rattle.index_listed.specs.Heads.{AreWithin}
use Rattle.index_view.specs.View.{AreApart, PlainView}
use Rattle.index_view.proofs.ViewLemmas.{altered_apart, altered_within}
use Rattle.index_view.proofs.view.View.alter.Goals as goal

pub put-requires-clause-within : goal.put-requires-clause-within
put-requires-clause-within c =
    let alteration : Alteration = Pending c.args.delta c.args.deleted in
    let items : plain_items c.in_ok-items.items.items
    ≡ alter_at c.args.id (altered_by alteration) c.args.self.now.items = c.in_ok-items.ensures
    ∙ ap (alter_at c.args.id (altered_by alteration))
    (c.as_slice.ensures ∙ ap (λ (v : PlainView). v.items) c.self.view_is) in
    subst (λ (l : List PlainItem). AreWithin (length c.args.self.now.heads) (numbers l))
    (sym items) (altered_within alteration c.args.id c.args.self.now.items
    (length c.args.self.now.heads) c.requires.within)

pub put-requires-clause-apart : goal.put-requires-clause-apart
put-requires-clause-apart c =
    let alteration : Alteration = Pending c.args.delta c.args.deleted in
    let items : plain_items c.in_ok-items.items.items
    ≡ alter_at c.args.id (altered_by alteration) c.args.self.now.items = c.in_ok-items.ensures
    ∙ ap (alter_at c.args.id (altered_by alteration))
    (c.as_slice.ensures ∙ ap (λ (v : PlainView). v.items) c.self.view_is) in
    subst AreApart (sym items)
    (altered_apart alteration c.args.id c.args.self.now.items c.requires.apart)
