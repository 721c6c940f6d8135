-- A listing that was sorted stands in the order of the sort.
use Rattle.std.proofs.Common.{◌≡◌, ◌∙◌, ℕ, ◌+◌, ◌<◌, ◌++◌, ◌∷◌, [], Bool, false, List, length, map}
use Rattle.std.proofs.Common.{ap, arith, refl, sym, suc, zero, slice_index_or}
use Rattle.std.proofs.lemmas.List.{get_or-map, get_or_read_under, length-map}
use Rattle.std.proofs.lemmas.List.FromFn.{fill_by_all}
use Rattle.mail_base.specs.declared.kind.Id.{Id}
use Rattle.std.proofs.lemmas.List.Elements.{All-append}
use Rattle.std.proofs.lemmas.Cmp.{on_total}
use Rattle.std.specs.Cmp.{IsTotalOrder}
use Rattle.std.specs.List.{range_with_len}
use Rattle.std.specs.List.Sorted.{IsPermutation, IsSortedBy}
use Rattle.std.specs.Ordering.{is_lt, nat_cmp}
use Rattle.mail_base.proofs.OrderedLemmas.{NeverFalls, in_order_permutation, in_order_same, sorted_falls}
use Rattle.index_order.specs.Inner.{ArePlaced, placed_places, plain_placed}
use Rattle.index_order.specs.Keys.{PlacedKeys, PlainKeys, at, key_cmp, no_keys}
use Rattle.index_order.specs.Order.{id_at, is_before, sort_cmp, sorted, turned}
use Rattle.index_order.specs.declared.keys.Placed.{Placed}
use Rattle.index_order.specs.declared.options.Sort.{Sort}
use Rattle.index_order.proofs.TotalLemmas.{equal_last, equal_numbers, equal_where, sort_total, weak}

-- by the messages at two places
pub places_total : (reverse : Bool) (sort : Sort) (keys : List PlainKeys)
    → IsTotalOrder (λ a b. sort_cmp reverse sort (at keys a) (at keys b))
places_total reverse sort keys = on_total (at keys) (sort_total reverse sort)

same_place : (reverse : Bool) (sort : Sort) (keys : List PlainKeys) (a b : ℕ)
    → is_before reverse sort keys a b ≡ false → is_before reverse sort keys b a ≡ false → a ≡ b
same_place reverse sort keys a b p q = equal_numbers a b
    (equal_last (turned reverse (key_cmp sort (at keys a) (at keys b))) (nat_cmp a b)
    (equal_where (places_total reverse sort keys) a b p q))

-- one message comes before another
abbrev pub placed_before : Bool → Sort → Placed → Placed → Bool
placed_before reverse sort a b = is_lt (sort_cmp reverse sort (plain_placed a) (plain_placed b))

falls_places : (reverse : Bool) (sort : Sort) (keys : List PlainKeys) (placed : List Placed)
    → ArePlaced keys placed → NeverFalls (placed_before reverse sort) placed
    → NeverFalls (is_before reverse sort keys) (placed_places placed)
falls_places reverse sort keys [] all falls = tt
falls_places reverse sort keys (a ∷ []) all falls = tt
falls_places reverse sort keys (a ∷ b ∷ rest) all falls = (
  ap (λ (p : PlacedKeys). is_lt (sort_cmp reverse sort p (at keys a.place)))
      (sym (all 1 a (omega arith)).1)
      ∙ ap (λ (p : PlacedKeys). is_lt (sort_cmp reverse sort (plain_placed b) p))
      (sym (all 0 a (omega arith)).1) ∙ falls.0,
  falls_places reverse sort keys (b ∷ rest) (λ k d lt. all (suc k) d (omega arith)) falls.1,
)

pub sorted_is : (reverse : Bool) (sort : Sort) (keys : List PlainKeys) (placed : List Placed)
    → ArePlaced keys placed → IsSortedBy (placed_before reverse sort) placed
    → IsPermutation (range_with_len 0 (length keys)) (placed_places placed)
    → placed_places placed ≡ sorted reverse sort keys
sorted_is reverse sort keys placed all is_sorted moved =
    sym (in_order_same (is_before reverse sort keys) (placed_places placed)
    (falls_places reverse sort keys placed all
    (sorted_falls (placed_before reverse sort) placed is_sorted)))
    ∙ in_order_permutation (is_before reverse sort keys) (weak (places_total reverse sort keys))
    (same_place reverse sort keys) (range_with_len 0 (length keys)) (placed_places placed) moved

range_push : (a n : ℕ) → range_with_len a (suc n) ≡ range_with_len a n ++ (a + n) ∷ []
range_push a zero = let e : a ≡ a + 0 = omega arith in ap (λ (k : ℕ). k ∷ []) e
range_push a (suc n) = let e : a + 1 + n ≡ a + suc n = omega arith in
    ap (λ (l : List ℕ). a ∷ l) (range_push (a + 1) n)
    ∙ ap (λ (k : ℕ). a ∷ range_with_len (a + 1) n ++ k ∷ []) e

pub range_next : (n : ℕ) → range_with_len 0 (n + 1) ≡ range_with_len 0 n ++ n ∷ []
range_next n = let e : n + 1 ≡ suc n = omega arith in let z : 0 + n ≡ n = omega arith in
    ap (range_with_len 0) e ∙ range_push 0 n ∙ ap (λ (k : ℕ). range_with_len 0 n ++ k ∷ []) z

-- a message that is read stands at its place
pub read_is : (keys : List PlainKeys) (p : ℕ) (x : PlainKeys) → p < length keys
    → x ≡ slice_index_or keys p x → x ≡ (at keys p).keys
read_is keys p x lt e = get_or_read_under keys p (length keys) x no_keys e lt refl

pub placed_next : (keys : List PlainKeys) (placed : List Placed) (next : Placed)
    → ArePlaced keys placed → next.place < length keys
    → next.keys.now ≡ (at keys next.place).keys → ArePlaced keys (placed ++ next ∷ [])
placed_next keys placed next all lt is = All-append
    (λ (p : Placed). (p.place < length keys) × (plain_placed p ≡ at keys p.place))
    placed (next ∷ []) all (one is)
  where
    one : next.keys.now ≡ (at keys next.place).keys → ArePlaced keys (next ∷ [])
    one e zero d low = (lt, ap (λ (k : PlainKeys). record { place = next.place; keys = k }) e)
    one e (suc k) d low = absurd (omega arith)

-- the ids of messages at their places
pub placed_ids : (keys : List PlainKeys) (placed : List Placed) → ArePlaced keys placed
    → map (λ p. p.keys.now.id) placed ≡ map (id_at keys) (placed_places placed)
placed_ids keys [] all = refl
placed_ids keys (p ∷ rest) all =
    ap (λ (k : PlacedKeys). k.keys.id ∷ map (λ (q : Placed). q.keys.now.id) rest)
    (all 0 p (omega arith)).1
    ∙ ap (λ (l : List Id). id_at keys p.place ∷ l)
    (placed_ids keys rest (λ k d lt. all (suc k) d (omega arith)))

-- the ids of a listing by its places
pub all_ids : (keys : List PlainKeys)
    → map (λ k. k.id) keys ≡ map (id_at keys) (range_with_len 0 (length keys))
all_ids keys = fill_by_all (id_at keys) (map (λ (k : PlainKeys). k.id) keys) (length keys)
    no_keys.id (length-map keys (λ (k : PlainKeys). k.id))
    (λ k lt. get_or-map (λ (m : PlainKeys). m.id) keys k no_keys no_keys.id lt)
