-- A sorted list is the one that puts each element before the first that does not stand before it.
use Rattle.std.proofs.Common.{◌≡◌, ◌+◌, ◌<◌, ◌≤◌, ℕ, zero, suc, Bool, true, false, List, [], ◌∷◌}
use Rattle.std.proofs.Common.{length, map, refl, sym, ◌∙◌}
use Rattle.std.proofs.Common.{ap, subst, arith, if◌then◌else◌}
use Rattle.std.proofs.lemmas.List.Sorted.{IsPermutation-map, All-permutation}
use Rattle.std.specs.Cmp.{IsStrictWeakOrder}
use Rattle.std.specs.List.{filter, range_with_len}
use Rattle.std.specs.List.Sorted.{IsPermutation, IsSortedBy}
use Rattle.threads.specs.Order.{IsStrictOrder, by_id, id_at}
use Rattle.mail_base.proofs.OrderedLemmas.{NeverFalls, in_order_permutation, in_order_same}
use Rattle.mail_base.proofs.OrderedLemmas.{sorted_falls}
use Rattle.mail_base.specs.Ordered.{in_order_by, put_by}
use Rattle.mail_base.specs.declared.kind.Id.{Id}
use Rattle.threads.specs.Families.{AreEntries, entries, entry_at, places}
use Rattle.threads.specs.Found.{AreDistinct}
use Rattle.threads.specs.Message.{PlainMessage}
use Rattle.threads.specs.Walk.{Each}
use Rattle.threads.specs.declared.order.Entry.{Entry}
use Rattle.threads.proofs.OrderLemmas.{same_id}

-- A part of a list in order is in order.

module _ {X : Type 0} (before : X → X → Bool) (o : IsStrictWeakOrder before) where
  put_falls : (x : X) (ys : List X) → NeverFalls before ys → NeverFalls before (put_by before x ys)
  put_falls x [] falls = tt
  put_falls x (y ∷ ys) falls =
      by_test (before y x) refl (put_falls x ys (tail_falls ys falls))
    where
      behind : (zs : List X) → NeverFalls before (y ∷ zs) → before y x ≡ true
          → NeverFalls before (put_by before x zs) → NeverFalls before (y ∷ put_by before x zs)
      behind [] falls is rest = (o.one_way y x is, tt)
      behind (z ∷ zs) falls is rest = by_next (before z x) rest
        where
          by_next : (b : Bool)
              → NeverFalls before (if b then z ∷ put_by before x zs else x ∷ z ∷ zs)
              → NeverFalls before (y ∷ (if b then z ∷ put_by before x zs else x ∷ z ∷ zs))
          by_next true rest = (falls.0, rest)
          by_next false rest = (o.one_way y x is, rest)

      tail_falls : (zs : List X) → NeverFalls before (y ∷ zs) → NeverFalls before zs
      tail_falls [] falls = tt
      tail_falls (z ∷ zs) falls = falls.1

      by_test : (b : Bool) → before y x ≡ b → NeverFalls before (put_by before x ys)
          → NeverFalls before (if b then y ∷ put_by before x ys else x ∷ y ∷ ys)
      by_test true is more = behind ys falls is more
      by_test false is more = (is, falls)

  in_order_falls : (xs : List X) → NeverFalls before (in_order_by before xs)
  in_order_falls [] = tt
  in_order_falls (x ∷ xs) = put_falls x (in_order_by before xs) (in_order_falls xs)

  -- what is not above the first goes before all that pass
  put_front : (p : X → Bool) (x y : X) (ys : List X) → NeverFalls before (y ∷ ys)
      → before y x ≡ false
      → put_by before x (filter p (y ∷ ys)) ≡ x ∷ filter p (y ∷ ys)
  put_front p x y [] falls is = by_test (p y)
    where
      by_test : (b : Bool) → put_by before x (if b then y ∷ [] else [])
          ≡ x ∷ (if b then y ∷ [] else [])
      by_test true = ap (λ (t : Bool). if t then y ∷ x ∷ [] else x ∷ y ∷ []) is
      by_test false = refl
  put_front p x y (z ∷ zs) falls is =
      by_test (p y) (put_front p x z zs falls.1 (o.chain z y x falls.0 is))
    where
      by_test : (b : Bool)
          → put_by before x (filter p (z ∷ zs)) ≡ x ∷ filter p (z ∷ zs)
          → put_by before x (if b then y ∷ filter p (z ∷ zs) else filter p (z ∷ zs))
          ≡ x ∷ (if b then y ∷ filter p (z ∷ zs) else filter p (z ∷ zs))
      by_test true more = ap (λ (t : Bool).
          if t then y ∷ put_by before x (filter p (z ∷ zs)) else x ∷ y ∷ filter p (z ∷ zs)) is
      by_test false more = more

  put_filter : (p : X → Bool) (x : X) (ys : List X) → NeverFalls before ys
      → filter p (put_by before x ys)
      ≡ (if p x then put_by before x (filter p ys) else filter p ys)
  put_filter p x [] falls = refl
  put_filter p x (y ∷ ys) falls =
      by_test (before y x) refl (put_filter p x ys (tail_falls ys falls))
    where
      tail_falls : (zs : List X) → NeverFalls before (y ∷ zs) → NeverFalls before zs
      tail_falls [] falls = tt
      tail_falls (z ∷ zs) falls = falls.1

      at_pass : (b c : Bool) → before y x ≡ true
          → (if b then y ∷ (if c then put_by before x (filter p ys) else filter p ys)
          else (if c then put_by before x (filter p ys) else filter p ys))
          ≡ (if c then put_by before x (if b then y ∷ filter p ys else filter p ys)
          else (if b then y ∷ filter p ys else filter p ys))
      at_pass true true is = sym (ap (λ (t : Bool).
          if t then y ∷ put_by before x (filter p ys) else x ∷ y ∷ filter p ys) is)
      at_pass true false is = refl
      at_pass false true is = refl
      at_pass false false is = refl

      at_front : (c : Bool) → before y x ≡ false
          → (if c then x ∷ filter p (y ∷ ys) else filter p (y ∷ ys))
          ≡ (if c then put_by before x (filter p (y ∷ ys)) else filter p (y ∷ ys))
      at_front true is = sym (put_front p x y ys falls is)
      at_front false is = refl

      by_test : (b : Bool) → before y x ≡ b → filter p (put_by before x ys)
          ≡ (if p x then put_by before x (filter p ys) else filter p ys)
          → filter p (if b then y ∷ put_by before x ys else x ∷ y ∷ ys)
          ≡ (if p x then put_by before x (filter p (y ∷ ys)) else filter p (y ∷ ys))
      by_test true is more =
          ap (λ (l : List X). if p y then y ∷ l else l) more ∙ at_pass (p y) (p x) is
      by_test false is more = at_front (p x) is

  pub in_order_filter : (p : X → Bool) (xs : List X)
      → filter p (in_order_by before xs) ≡ in_order_by before (filter p xs)
  in_order_filter p [] = refl
  in_order_filter p (x ∷ xs) =
      put_filter p x (in_order_by before xs) (in_order_falls xs)
      ∙ ap (λ (l : List X). if p x then put_by before x l else l) (in_order_filter p xs)
      ∙ by_test (p x)
    where
      by_test : (b : Bool) → (if b then put_by before x (in_order_by before (filter p xs))
          else in_order_by before (filter p xs))
          ≡ in_order_by before (if b then x ∷ filter p xs else filter p xs)
      by_test true = refl
      by_test false = refl

-- Lists in order by what a function gives.

module _ {X Y : Type 0} (f : X → Y) (before : Y → Y → Bool) where
  map_put : (x : X) (ys : List X) → map f (put_by (λ a b. before (f a) (f b)) x ys)
      ≡ put_by before (f x) (map f ys)
  map_put x [] = refl
  map_put x (y ∷ ys) = by_test (before (f y) (f x)) (map_put x ys)
    where
      by_test : (b : Bool)
          → map f (put_by (λ a b. before (f a) (f b)) x ys) ≡ put_by before (f x) (map f ys)
          → map f (if b then y ∷ put_by (λ a b. before (f a) (f b)) x ys else x ∷ y ∷ ys)
          ≡ (if b then f y ∷ put_by before (f x) (map f ys) else f x ∷ f y ∷ map f ys)
      by_test true more = ap (λ (l : List Y). f y ∷ l) more
      by_test false more = refl

  pub map_in_order : (xs : List X) → map f (in_order_by (λ a b. before (f a) (f b)) xs)
      ≡ in_order_by before (map f xs)
  map_in_order [] = refl
  map_in_order (x ∷ xs) = map_put x (in_order_by (λ a b. before (f a) (f b)) xs)
      ∙ ap (put_by before (f x)) (map_in_order xs)

  map_falls : (xs : List X) → NeverFalls (λ a b. before (f a) (f b)) xs
      → NeverFalls before (map f xs)
  map_falls [] falls = tt
  map_falls (x ∷ []) falls = tt
  map_falls (x ∷ y ∷ xs) falls = (falls.0, map_falls (y ∷ xs) falls.1)

-- Places in order.

Each-put : (P : ℕ → Type 0) (before : ℕ → ℕ → Bool) (x : ℕ) (ys : List ℕ) → P x → Each P ys
    → Each P (put_by before x ys)
Each-put P before x [] own all = (own, tt)
Each-put P before x (y ∷ ys) own all =
    by_test (before y x) (Each-put P before x ys own all.1)
  where
    by_test : (b : Bool) → Each P (put_by before x ys)
        → Each P (if b then y ∷ put_by before x ys else x ∷ y ∷ ys)
    by_test true more = (all.0, more)
    by_test false more = (own, all)

pub Each-in_order : (P : ℕ → Type 0) (before : ℕ → ℕ → Bool) (xs : List ℕ) → Each P xs
    → Each P (in_order_by before xs)
Each-in_order P before [] all = tt
Each-in_order P before (x ∷ xs) all = Each-put P before x (in_order_by before xs) all.0
    (Each-in_order P before xs all.1)

pub Each-range : (a n m : ℕ) → a + n ≤ m → Each (λ p. p < m) (range_with_len a n)
Each-range a zero m le = tt
Each-range a (suc n) m le = (omega arith, Each-range (a + 1) n m (omega arith))

-- what is told apart by a function is told from its values
same_values : {Y : Type 0} (f : ℕ → Y) (n : ℕ)
    → ((p q : ℕ) → p < n → q < n → f p ≡ f q → p ≡ q)
    → (xs ys : List ℕ) → Each (λ p. p < n) xs → Each (λ p. p < n) ys → map f xs ≡ map f ys
    → xs ≡ ys
same_values f n apart [] [] one other e = refl
same_values f n apart [] (y ∷ ys) one other e = absurd (cc)
same_values f n apart (x ∷ xs) [] one other e = absurd (cc)
same_values f n apart (x ∷ xs) (y ∷ ys) one other e =
    let first : f x ≡ f y = cc in
    let rest : map f xs ≡ map f ys = cc in
    let here = apart x y one.0 other.0 first in
    let there = same_values f n apart xs ys one.1 other.1 rest in
    λ i. here i ∷ there i

-- The entries of messages.

-- entries are in a weak order where their ids are
pub on_ids : (before : Id → Id → Bool) → IsStrictWeakOrder before
    → IsStrictWeakOrder (λ (a b : Entry). before a.id b.id)
on_ids before o = record {
  one_way = λ a b. o.one_way a.id b.id;
  chain = λ a b c. o.chain a.id b.id c.id;
}

map_places : (messages : List PlainMessage) (es : List Entry) → AreEntries messages es
    → map (λ e. e.id) es ≡ map (id_at messages) (places es)
map_places messages [] all = refl
map_places messages (e ∷ es) all =
    let here = (all 0 e (omega arith)).1 in
    let there = map_places messages es (λ k d low. all (suc k) d (omega arith)) in
    λ i. here i ∷ there i

pub places_within : (messages : List PlainMessage) (es : List Entry) → AreEntries messages es
    → Each (λ p. p < length messages) (places es)
places_within messages [] all = tt
places_within messages (e ∷ es) all =
    ((all 0 e (omega arith)).0, places_within messages es (λ k d low. all (suc k) d (omega arith)))

range_entries : (messages : List PlainMessage) (a n : ℕ) → a + n ≤ length messages
    → AreEntries messages (map (entry_at messages) (range_with_len a n))
range_entries messages a zero le k d low = absurd (omega arith)
range_entries messages a (suc n) le zero d low = (omega arith, refl)
range_entries messages a (suc n) le (suc k) d low =
    range_entries messages (a + 1) n (omega arith) k d (omega arith)

range_ids : (messages : List PlainMessage) (ps : List ℕ)
    → map (λ e. e.id) (map (entry_at messages) ps) ≡ map (id_at messages) ps
range_ids messages [] = refl
range_ids messages (p ∷ ps) = ap (λ (l : List Id). id_at messages p ∷ l) (range_ids messages ps)

pub sorted_entries : (messages : List PlainMessage) (es : List Entry)
    → IsPermutation (entries messages) es → AreEntries messages es
sorted_entries messages es moved =
    All-permutation (λ e. (e.place < length messages) × (e.id ≡ id_at messages e.place))
    (entries messages) es moved (range_entries messages 0 (length messages) (omega arith))

pub moved_places : (messages : List PlainMessage) (es : List Entry)
    → IsPermutation (entries messages) es
    → IsPermutation (range_with_len 0 (length messages)) (places es)
moved_places messages es moved =
    subst (λ l. IsPermutation l (places es)) (same (range_with_len 0 (length messages)))
    (IsPermutation-map (λ (e : Entry). e.place) (entries messages) es moved)
  where
    same : (ps : List ℕ) → places (map (entry_at messages) ps) ≡ ps
    same [] = refl
    same (p ∷ ps) = ap (λ l. p ∷ l) (same ps)

pub sorted_places : (before : Id → Id → Bool) → IsStrictOrder before
    → (messages : List PlainMessage) → AreDistinct messages → (es : List Entry)
    → IsPermutation (entries messages) es → IsSortedBy (λ a b. before a.id b.id) es
    → places es ≡ in_order_by (by_id before messages) (range_with_len 0 (length messages))
sorted_places before strict messages distinct es moved sorted =
    let range = range_with_len 0 (length messages) in
    let all = sorted_entries messages es moved in
    let ids : map (λ e. e.id) es ≡ in_order_by before (map (id_at messages) range) =
    sym (in_order_same before (map (λ e. e.id) es)
    (map_falls (λ (e : Entry). e.id) before es (sorted_falls _ es sorted)))
    ∙ in_order_permutation before strict.order strict.total (map (λ e. e.id) (entries messages))
    (map (λ e. e.id) es) (IsPermutation-map (λ (e : Entry). e.id) (entries messages) es moved)
    ∙ ap (in_order_by before) (range_ids messages range) in
    same_values (id_at messages) (length messages) (same_id messages distinct) (places es)
    (in_order_by (by_id before messages) range) (places_within messages es all)
    (Each-in_order (λ p. p < length messages) (by_id before messages) range
    (Each-range 0 (length messages) (length messages) (omega arith)))
    (sym (map_places messages es all) ∙ ids ∙ sym (map_in_order (id_at messages) before range))
