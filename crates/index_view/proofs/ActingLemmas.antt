-- What is done to many messages.
use Rattle.std.proofs.Common.{◌≡◌, ◌∙◌, ◌<◌, ℕ, zero, suc, Bool, true, false, List, [], ◌∷◌, ap}
use Rattle.std.proofs.Common.{arith, length, ◌||◌, None, Some, nat_eq, nat_lt, refl, slice_index_or}
use Rattle.std.proofs.Common.{slice_set, subst, sym}
use Rattle.std.proofs.lemmas.Bool.{eqb-false, eqb-true, false≢true}
use Rattle.std.proofs.lemmas.List.{get_or-map, length-map, map-set}
use Rattle.std.proofs.lemmas.List.Quantifiers.{position-Some}
use Rattle.std.proofs.lemmas.List.Elements.{All-from_recursion}
use Rattle.std.specs.List.{AllByRecursion, IsDistinct, list_any, position_or_len}
use Rattle.std.specs.Prelude.{is_some, position}
use Rattle.mail_base.specs.declared.kind.Id.{Id}
use Rattle.index_items.specs.Alteration.{alter_at, altered_where}
use Rattle.index_items.specs.Acts.{Changes, PlainAlteration, Shuts, Tags, acted, acted_all}
use Rattle.index_items.specs.Acts.{alteration, changed_by}
use Rattle.index_items.specs.Items.{PlainItem, numbers, plain_item, plain_items, shown_flags}
use Rattle.index_items.specs.declared.act.Act.{Act}
use Rattle.index_items.specs.declared.item.Item.{Item}
use Rattle.index_view.proofs.ItemLemmas.{altered_numbers}
use Rattle.index_view.proofs.LinesLemmas.{found_any, some_where}

-- where no message has the id, nothing is altered
pub none_altered : (id : Id) (f : PlainItem → PlainItem) (items : List PlainItem)
    → AllByRecursion (λ n. nat_eq id.0 n ≡ false) (numbers items) → alter_at id f items ≡ items
none_altered id f [] others = refl
none_altered id f (i ∷ items) others =
    let here : altered_where id f i ≡ i = rw others.0 refl in
    λ k. here k ∷ none_altered id f items others.1 k

-- the message at a place is the only one with its id
pub altered_at_place : (items : List PlainItem) (p : ℕ) (id : Id) (f : PlainItem → PlainItem)
    (d : PlainItem) → p < length items → nat_eq id.0 (slice_index_or items p d).id.0 ≡ true
    → IsDistinct nat_eq (numbers items)
    → slice_set items p (f (slice_index_or items p d)) ≡ alter_at id f items
unfolding IsDistinct
altered_at_place [] p id f d low same apart = absurd (omega (arith, low))
altered_at_place (i ∷ items) zero id f d low same apart =
    let here : altered_where id f i ≡ f i = rw same refl in
    let others = subst (λ n. AllByRecursion (λ m. nat_eq n m ≡ false) (numbers items))
    (sym (eqb-true id.0 i.id.0 same)) apart.0 in
    λ k. sym here k ∷ sym (none_altered id f items others) k
altered_at_place (i ∷ items) (suc p) id f d low same apart =
    let below : p < length items = omega (arith, low) in
    let at : nat_eq i.id.0 (slice_index_or (numbers items) p 0) ≡ false =
    All-from_recursion (λ n. nat_eq i.id.0 n ≡ false) (numbers items) apart.0 p 0
    (subst (λ n. p < n) (sym (length-map items (λ j. j.id.0))) below) in
    let is : slice_index_or (numbers items) p 0 ≡ id.0 =
    get_or-map (λ j. j.id.0) items p d 0 below
    ∙ sym (eqb-true id.0 (slice_index_or items p d).id.0 same) in
    let other : nat_eq id.0 i.id.0 ≡ false =
    apart_sym i.id.0 id.0 (ap (nat_eq i.id.0) (sym is) ∙ at) in
    let here : altered_where id f i ≡ i = rw other refl in
    λ k. sym here k ∷ altered_at_place items p id f d below same apart.1 k
  where
    apart_sym : (a b : ℕ) → nat_eq a b ≡ false → nat_eq b a ≡ false
    apart_sym a b ne = by_test (nat_eq b a) refl
      where
        by_test : (t : Bool) → nat_eq b a ≡ t → nat_eq b a ≡ false
        by_test true e = absurd (eqb-false a b ne (sym (eqb-true b a e)))
        by_test false e = e

none_has : (p : ℕ → Bool) (xs : List ℕ) → list_any p xs ≡ false
    → AllByRecursion (λ x. p x ≡ false) xs
none_has p [] none = tt
none_has p (x ∷ xs) none = by_test (p x) refl (none_has p xs) none
  where
    by_test : (t : Bool) → p x ≡ t → (list_any p xs ≡ false → AllByRecursion (λ y. p y ≡ false) xs)
        → (t || list_any p xs) ≡ false → (p x ≡ false) × AllByRecursion (λ y. p y ≡ false) xs
    by_test true e more h = absurd (false≢true (sym h))
    by_test false e more h = (e, more h)

-- what has no place in a list is not there
pub nowhere : (n : ℕ) (xs : List ℕ) → position (nat_eq n) xs ≡ None
    → AllByRecursion (λ m. nat_eq n m ≡ false) xs
nowhere n xs none = none_has (nat_eq n) xs (sym (found_any (nat_eq n) xs)
    ∙ sym (some_where (nat_lt (position_or_len (nat_eq n) xs) (length xs))
    (position_or_len (nat_eq n) xs)) ∙ ap is_some none)

pub acted_keeps_id : (act : Act) (i : PlainItem) → (acted act i).id ≡ i.id
acted_keeps_id act i = by_change (alteration act (shown_flags i) i.tagged)
  where
    by_change : (a : PlainAlteration) → (changed_by a i).id ≡ i.id
    by_change (Changes added cleared deleted) = refl
    by_change (Tags mark) = refl
    by_change (Shuts mark) = refl

-- an act leaves the ids as they are
pub acted_numbers : (act : Act) (id : Id) (items : List PlainItem)
    → numbers (alter_at id (acted act) items) ≡ numbers items
acted_numbers act id items = altered_numbers (acted act) (acted_keeps_id act) id items

pub all_acted_numbers : (act : Act) (ids : List Id) (items : List PlainItem)
    → numbers (acted_all act ids items) ≡ numbers items
all_acted_numbers act [] items = refl
all_acted_numbers act (id ∷ ids) items =
    all_acted_numbers act ids (alter_at id (acted act) items) ∙ acted_numbers act id items

-- the message at the place of an id is the one to which this is done
pub acted_at_place : (act : Act) (id : Id) (items : List Item) (p : ℕ) (x d : Item)
    → IsDistinct nat_eq (numbers (plain_items items))
    → position (nat_eq id.0) (numbers (plain_items items)) ≡ Some p
    → plain_item x ≡ acted act (plain_item (slice_index_or items p d))
    → plain_items (slice_set items p x) ≡ alter_at id (acted act) (plain_items items)
acted_at_place act id items p x d apart found is =
    let all = plain_items items in
    let has = position-Some (nat_eq id.0) (numbers all) p 0 found in
    let low : p < length all = subst (λ n. p < n) (length-map all (λ i. i.id.0)) has.0 in
    let below : p < length items = subst (λ n. p < n) (length-map items plain_item) low in
    let at : slice_index_or all p (plain_item d) ≡ plain_item (slice_index_or items p d) =
    get_or-map plain_item items p d (plain_item d) below in
    let same : nat_eq id.0 (slice_index_or all p (plain_item d)).id.0 ≡ true =
    ap (nat_eq id.0) (sym (get_or-map (λ i. i.id.0) all p (plain_item d) 0 low)) ∙ has.1 in
    map-set plain_item items p x
    ∙ ap (slice_set all p) (is ∙ ap (acted act) (sym at))
    ∙ altered_at_place all p id (acted act) (plain_item d) low same apart
