-- Laws of the definitions.
use Rattle.std.specs.Prelude.{◌≡◌, ◌<◌, ℕ, true, false, List, length, Option, Some}
use Rattle.std.specs.Ordering.{is_gt}
use Rattle.index_order.specs.Keys.{PlainKeys, at, key_cmp}
use Rattle.index_order.specs.Order.{greatest, leads_to}
use Rattle.index_order.specs.declared.options.Sort.{Sort}

-- a message is this one or a descendant of it
abbrev pub is_in_tree : List PlainKeys → (ℕ → Option ℕ) → ℕ → ℕ → Type 0
is_in_tree keys parent top p = leads_to parent (length keys) top p ≡ true

-- the greatest of a message and its descendants is one of them, and none of them has a greater key
abbrev pub GreatestIsGreatest : Type 0
GreatestIsGreatest = (sort : Sort) (keys : List PlainKeys) (parent : ℕ → Option ℕ) (top p : ℕ)
    → p < length keys → is_in_tree keys parent top p
    → (g : ℕ) × (greatest sort keys parent top ≡ Some g) × is_in_tree keys parent top g
    × (is_gt (key_cmp sort (at keys p) (at keys g)) ≡ false)
