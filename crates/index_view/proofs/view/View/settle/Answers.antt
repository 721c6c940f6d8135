use Rattle.std.proofs.Common.{◌<◌, ◌∙◌, List, ap, length, subst, sym}
use Rattle.index_items.specs.Changes.{plain_changes, settled}
use Rattle.index_items.specs.Items.{PlainItem, numbers}
use Rattle.index_listed.specs.Heads.{AreWithin}
use Rattle.index_view.specs.View.{AreApart, PlainView}
use Rattle.index_view.proofs.ItemLemmas.{settled_apart, settled_within}
use Rattle.index_view.proofs.view.View.settle.Goals as goal

pub put-requires-clause-within : goal.put-requires-clause-within
put-requires-clause-within c =
    let changes = plain_changes c.as_slice-changes.result.now in
    let items = c.in_ok-left.ensures ∙ ap (settled c.args.kind changes)
    (c.as_slice-items.ensures ∙ ap (λ (v : PlainView). v.items) c.self.view_is) in
    subst (λ (l : List PlainItem). AreWithin (length c.args.self.now.heads) (numbers l))
    (sym items) (settled_within (λ n. n < length c.args.self.now.heads) c.args.kind changes
    c.args.self.now.items c.requires.is_of.within)

pub put-requires-clause-apart : goal.put-requires-clause-apart
put-requires-clause-apart c =
    let changes = plain_changes c.as_slice-changes.result.now in
    let items = c.in_ok-left.ensures ∙ ap (settled c.args.kind changes)
    (c.as_slice-items.ensures ∙ ap (λ (v : PlainView). v.items) c.self.view_is) in
    subst AreApart (sym items)
    (settled_apart c.args.kind changes c.args.self.now.items c.requires.is_of.apart)
