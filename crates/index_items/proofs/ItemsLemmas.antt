-- A message at its place in a list, as contracts see it, and its share in the tally.
use Rattle.std.proofs.Common.{◌≡◌, ◌∙◌, ◌<◌, ◌^◌, List, ℕ, ap, arith, length, slice_index_or}
use Rattle.std.proofs.Common.{slice_set, subst, sym}
use Rattle.std.proofs.lemmas.List.{get_or-map, length-map}
use Rattle.index_items.specs.Items.{PlainItem, item_at, no_item, plain_item, plain_items}
use Rattle.index_items.specs.Tally.{Counts, HasRoom, exchanged, tally_of, without_item}
use Rattle.index_items.specs.declared.item.Item.{Item}
use Rattle.index_items.specs.declared.tally.Tally.{Tally}
use Rattle.index_items.proofs.TallyLemmas.{counts_at, exchanged_at, room_without}

module _ (items : List Item) (place : ℕ) (item : Item) (within : place < length items)
    (is : item ≡ slice_index_or items place item) where
  pub plain_at : plain_item item ≡ item_at (plain_items items) place
  plain_at = ap plain_item is ∙ sym (get_or-map plain_item items place item no_item within)

  plain_within : place < length (plain_items items)
  plain_within = omega (arith, within, length-map items plain_item)

  pub is_counted : (t : Tally) → t ≡ tally_of (plain_items items) → Counts t (plain_item item)
  is_counted t tally =
      subst (λ (u : Tally). Counts u (plain_item item)) (sym tally)
      (subst (Counts (tally_of (plain_items items))) (sym plain_at)
      (counts_at (plain_items items) place plain_within))

  pub has_room : (t : Tally) → t ≡ tally_of (plain_items items) → length items < 2 ^ 64
      → HasRoom 1 (without_item t (plain_item item))
  has_room t tally short =
      subst (λ (u : Tally). HasRoom 1 (without_item u (plain_item item))) (sym tally)
      (subst (λ (i : PlainItem). HasRoom 1 (without_item (tally_of (plain_items items)) i))
      (sym plain_at) (room_without (plain_items items) place plain_within
      (omega (arith, short, length-map items plain_item))))

  pub is_exchanged : (t : Tally) (other : PlainItem) → t ≡ tally_of (plain_items items)
      → exchanged t (plain_item item) other
      ≡ tally_of (slice_set (plain_items items) place other)
  is_exchanged t other tally =
      ap (λ (u : Tally). exchanged u (plain_item item) other) tally
      ∙ ap (λ (i : PlainItem). exchanged (tally_of (plain_items items)) i other) plain_at
      ∙ exchanged_at (plain_items items) place plain_within other
