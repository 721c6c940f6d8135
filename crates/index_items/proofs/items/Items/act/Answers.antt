use Rattle.std.proofs.Common.{◌≡◌, ◌∙◌, ◌<◌, List, ap, arith, length, sym, slice_set}
use Rattle.std.proofs.lemmas.List.{length-map, map-set}
use Rattle.index_items.specs.Acts.{acted}
use Rattle.index_items.specs.Items.{PlainItem, item_at, plain_item, plain_items}
use Rattle.index_items.specs.Tally.{tally_of}
use Rattle.index_items.specs.declared.item.Item.{Item}
use Rattle.index_items.proofs.ItemsLemmas.{plain_at}
use Rattle.index_items.proofs.items.Items.act.Goals as goal

pub invariant_of-self : goal.invariant_of-self
invariant_of-self c =
    let place = c.args.place in
    let item = c.acted-item.result in
    c.tally_with-self-inside.ensures
    ∙ ap (λ (l : List Item). tally_of (slice_set (plain_items l) place (plain_item item)))
    c.deref.ensures.value
    ∙ ap tally_of (sym (map-set plain_item c.self.inside.all.items place item))

pub returns-clause-item : goal.returns-clause-item
returns-clause-item c =
    let place = c.args.place in
    let items : List Item = c.self.inside.all.items in
    let seen : plain_items items ≡ c.args.self.now = c.self.view_is in
    let within : place < length items =
    omega (arith, c.requires, ap length seen, length-map items plain_item) in
    c.acted-item.ensures
    ∙ ap (acted c.args.act) (plain_at items place c.index.result.now within c.index.ensures
    ∙ ap (λ (l : List PlainItem). item_at l place) seen)

pub returns-clause-items : goal.returns-clause-items
returns-clause-items c =
    let place = c.args.place in
    let items : List Item = c.self.inside.all.items in
    let seen : plain_items items ≡ c.args.self.now = c.self.view_is in
    map-set plain_item items place c.acted-item.result
    ∙ ap (slice_set (plain_items items) place) (returns-clause-item c)
    ∙ ap (λ (l : List PlainItem). slice_set l place
    (acted c.args.act (item_at c.args.self.now place))) seen
