-- What a scan leaves of the listed messages is one list.
use Rattle.std.proofs.Common.{◌≡◌, ◌∙◌, ◌++◌, ◌∷◌, [], ℕ, suc, zero, Bool, true, false}
use Rattle.std.proofs.Common.{List, ap, arith, refl, sym}
use Rattle.std.proofs.Common.{inl, inr}
use Rattle.std.specs.Prelude.{if◌then◌else◌, nat_eq}
use Rattle.std.proofs.lemmas.Bool.Decides.{nat_tests}
use Rattle.std.proofs.lemmas.Cmp.{nat_cmp_total, nat_list_cmp_total, on_total, then_total}
use Rattle.std.proofs.lemmas.List.Sorted.{All-permutation, IsPermutation-map, IsPermutation-sym}
use Rattle.std.specs.Cmp.{IsTotalOrder}
use Rattle.std.specs.Cmp.Lexicographic.{slice_cmp}
use Rattle.std.specs.List.{All, IsDistinct}
use Rattle.std.specs.List.Sorted.{IsPermutation, IsSortedBy}
use Rattle.std.specs.Ordering.{is_lt, nat_cmp, ordering_then}
use Rattle.std.specs.declared.cmp.Ordering.{Ordering}
use Rattle.folder_letters.specs.Letters.{Mail}
use Rattle.mail_base.specs.Ordered.{IsIn, in_order_by, put_by}
use Rattle.folder_letters.specs.declared.listing.Found.{Found}
use Rattle.mail_base.proofs.OrderedLemmas.{in_order_permutation, in_order_same, sorted_falls}
use Rattle.index_items.specs.Found.{IsJoined, came_items, is_listed_before, kept_items, key_at}
use Rattle.index_items.specs.Found.{order_at}
use Rattle.index_items.specs.Items.{PlainItem, numbers}
use Rattle.index_order.proofs.TotalLemmas.{equal_last, equal_numbers, equal_where, weak}
use Rattle.index_view.specs.View.{PlainView, Took, Turned, facts_of}
use Rattle.session_index.specs.Opening.{joined_items}

-- each of some messages is so
abbrev Every : (PlainItem → Type 0) → List PlainItem → Type 0
Every P [] = Unit {0}
Every P (i ∷ items) = P i × Every P items

every_all : (P : PlainItem → Type 0) (items : List PlainItem) → All P items → Every P items
every_all P [] all = tt
every_all P (i ∷ items) all = (
  all 0 i (omega arith),
  every_all P items (λ k d low. all (suc k) d (omega arith)),
)

all_in : (items : List PlainItem) → All (λ i. IsIn i items) items
all_in [] k d low = absurd (omega arith)
all_in (i ∷ items) zero d low = inl refl
all_in (i ∷ items) (suc k) d low = inr (all_in items k d (omega arith))

module _ (P : PlainItem → Type 0) (before : PlainItem → PlainItem → Bool) where
  every_put : (x : PlainItem) (items : List PlainItem) → P x → Every P items
      → Every P (put_by before x items)
  every_put x [] first rest = (first, tt)
  every_put x (y ∷ items) first rest =
      by_test (before y x) (every_put x items first rest.1)
    where
      by_test : (b : Bool) → Every P (put_by before x items)
          → Every P (if b then y ∷ put_by before x items else x ∷ y ∷ items)
      by_test true more = (rest.0, more)
      by_test false more = (first, rest)

  every_order : (items : List PlainItem) → Every P items → Every P (in_order_by before items)
  every_order [] all = tt
  every_order (x ∷ items) all =
      every_put x (in_order_by before items) all.0 (every_order items all.1)

-- Messages with distinct numbers are told apart by them.

none_same : (x y : PlainItem) (items : List PlainItem)
    → IsDistinct nat_eq (x.id.0 ∷ numbers items) → IsIn y items → x.id.0 ≡ y.id.0 → x ≡ y
unfolding IsDistinct
none_same x y [] apart held same = absurd held
none_same x y (z ∷ items) apart (inl is) same =
    let other : nat_eq x.id.0 z.id.0 ≡ false = apart.0.0 in
    let also : z.id.0 ≡ y.id.0 = ap (λ (i : PlainItem). i.id.0) is in
    absurd (grind (arith, nat_tests, other, same, also))
none_same x y (z ∷ items) apart (inr held) same =
    none_same x y items (apart.0.1, apart.1.1) held same

apart_tail : (n : ℕ) (ns : List ℕ) → IsDistinct nat_eq (n ∷ ns) → IsDistinct nat_eq ns
unfolding IsDistinct
apart_tail n ns apart = apart.1

one_of : (items : List PlainItem) → IsDistinct nat_eq (numbers items) → (x y : PlainItem)
    → IsIn x items → IsIn y items → x.id.0 ≡ y.id.0 → x ≡ y
one_of [] apart x y in_x in_y same = absurd in_x
one_of (z ∷ items) apart x y (inl is) (inl also) same = sym is ∙ also
one_of (z ∷ items) apart x y (inl is) (inr held) same =
    sym is ∙ none_same z y items apart held (ap (λ (i : PlainItem). i.id.0) is ∙ same)
one_of (z ∷ items) apart x y (inr held) (inl is) same =
    sym (sym is ∙ none_same z x items apart held (ap (λ (i : PlainItem). i.id.0) is ∙ sym same))
one_of (z ∷ items) apart x y (inr held) (inr also) same =
    one_of items (apart_tail z.id.0 (numbers items) apart) x y held also same

same_lists : (all : List PlainItem) → IsDistinct nat_eq (numbers all)
    → (xs ys : List PlainItem) → Every (λ i. IsIn i all) xs → Every (λ i. IsIn i all) ys
    → numbers xs ≡ numbers ys → xs ≡ ys
same_lists all apart [] [] first second same = refl
same_lists all apart [] (y ∷ ys) first second same = absurd (cc)
same_lists all apart (x ∷ xs) [] first second same = absurd (cc)
same_lists all apart (x ∷ xs) (y ∷ ys) first second same =
    let heads : x.id.0 ≡ y.id.0 = cc in
    let tails : numbers xs ≡ numbers ys = cc in
    let one : x ≡ y = one_of all apart x y first.0 second.0 heads in
    let more : xs ≡ ys = same_lists all apart xs ys first.1 second.1 tails in
    cc

-- The order of messages is that of their numbers.
module _ (mails : List Mail) where
  abbrev number_cmp : ℕ → ℕ → Ordering
  number_cmp a b = ordering_then (ordering_then (nat_cmp (order_at mails a) (order_at mails b))
      (slice_cmp nat_cmp (key_at mails a) (key_at mails b))) (nat_cmp a b)

  abbrev number_before : ℕ → ℕ → Bool
  number_before a b = is_lt (number_cmp a b)

  number_total : IsTotalOrder number_cmp
  number_total = then_total (then_total (on_total (order_at mails) nat_cmp_total)
      (on_total (key_at mails) nat_list_cmp_total)) nat_cmp_total

  same_number : (a b : ℕ) → number_before a b ≡ false → number_before b a ≡ false → a ≡ b
  same_number a b p q = equal_numbers a b
      (equal_last (ordering_then (nat_cmp (order_at mails a) (order_at mails b))
      (slice_cmp nat_cmp (key_at mails a) (key_at mails b))) (nat_cmp a b)
      (equal_where number_total a b p q))

  numbers_put : (x : PlainItem) (items : List PlainItem)
      → numbers (put_by (is_listed_before mails) x items)
      ≡ put_by number_before x.id.0 (numbers items)
  numbers_put x [] = refl
  numbers_put x (y ∷ items) = by_test (is_listed_before mails y x) (numbers_put x items)
    where
      by_test : (b : Bool) → numbers (put_by (is_listed_before mails) x items)
          ≡ put_by number_before x.id.0 (numbers items)
          → numbers (if b then y ∷ put_by (is_listed_before mails) x items else x ∷ y ∷ items)
          ≡ (if b then y.id.0 ∷ put_by number_before x.id.0 (numbers items)
          else x.id.0 ∷ y.id.0 ∷ numbers items)
      by_test true more = ap (λ (l : List ℕ). y.id.0 ∷ l) more
      by_test false more = refl

  numbers_order : (items : List PlainItem)
      → numbers (in_order_by (is_listed_before mails) items)
      ≡ in_order_by number_before (numbers items)
  numbers_order [] = refl
  numbers_order (x ∷ items) = numbers_put x (in_order_by (is_listed_before mails) items)
      ∙ ap (put_by number_before x.id.0) (numbers_order items)

  -- a permutation in order, with distinct numbers, is what is put in order
  one_order : (items more : List PlainItem) → IsDistinct nat_eq (numbers more)
      → IsPermutation items more → IsSortedBy (is_listed_before mails) more
      → more ≡ in_order_by (is_listed_before mails) items
  one_order items more apart moved sorted = same_lists more apart more
      (in_order_by (is_listed_before mails) items) (every_all (λ i. IsIn i more) more (all_in more))
      (every_order (λ i. IsIn i more) (is_listed_before mails) items
      (every_all (λ i. IsIn i more) items
      (All-permutation (λ i. IsIn i more) more items (IsPermutation-sym items more moved)
      (all_in more)))) same
    where
      same : numbers more ≡ numbers (in_order_by (is_listed_before mails) items)
      same = ap numbers (sym (in_order_same (is_listed_before mails) more
          (sorted_falls (is_listed_before mails) more sorted)))
          ∙ numbers_order more
          ∙ in_order_permutation number_before (weak number_total) same_number (numbers items)
          (numbers more) (IsPermutation-map (λ i. i.id.0) items more moved)
          ∙ sym (numbers_order items)

  pub joined_is : (found : Found) (items more : List PlainItem) → IsDistinct nat_eq (numbers more)
      → IsJoined mails found items more → more ≡ joined_items mails found items
  joined_is found items more apart joined =
      one_order (kept_items found items ++ came_items found.came.items) more apart joined.same
      joined.sorted

pub took_turned : (mails : List Mail) (found : Found) (old new : PlainView)
    → Took mails found old new
    → Turned mails old new (record (facts_of old) { items = joined_items mails found old.items })
took_turned mails found old new took = record {
  is_of = took.is_of;
  given = took.given ∙ ap (λ (items : List PlainItem). record (facts_of old) { items = items })
      (joined_is mails found old.items new.items took.is_of.apart took.joined);
  cursor = took.cursor;
  aliases = took.aliases;
}
