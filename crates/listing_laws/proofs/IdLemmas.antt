-- Ids that are listed, and listings in which they differ.
use Rattle.std.proofs.Common.{◌≡◌, ◌∙◌, ◌++◌, ◌||◌, ◌==◌, inl, inr, ℕ, Bool, true, false, not, List}
use Rattle.std.proofs.Common.{[], ◌∷◌, Option, Some, None, ap, filter_map, if◌then◌else◌, nat_eq}
use Rattle.std.proofs.Common.{refl, subst, sym}
use Rattle.std.specs.List.{AllByRecursion, IsDistinct, cons_option, filter}
use Rattle.std.proofs.lemmas.Bool.{and_from, and_parts, both_ways, eq-eqb, eqb-true}
use Rattle.std.proofs.lemmas.Bool.{false_from_ne_true, not_from_false, not-true, or_from, or_left}
use Rattle.std.proofs.lemmas.Bool.{or_parts, or_right}
use Rattle.std.proofs.lemmas.Cmp.{nat_eq_equiv}
use Rattle.std.proofs.lemmas.List.Folds.{list_any-append}
use Rattle.std.proofs.lemmas.Map.Keys.{IsDistinct-head, IsDistinct-tail}
use Rattle.mail_base.specs.Ordered.{IsIn}
use Rattle.folder_letters.specs.declared.listing.Listed.{Listed}
use Rattle.folder_core.specs.Keeping.{ids_differ, lists_id}
use Rattle.index_items.specs.Items.{PlainItem, numbers}
use Rattle.listing_laws.specs.Listing.{listed_of, listing_of}
use Rattle.listing_laws.proofs.MemberLemmas.{in_filter, in_filter_map}

-- a listed message with an id
pub record ListedAs (listing : List Listed) (id : ℕ) : Type 0 where
  pub message : Listed
  pub held : IsIn message listing
  pub id_is : message.id.0 ≡ id

pub lists_at : (listing : List Listed) (id : ℕ) → lists_id listing id ≡ true → ListedAs listing id
lists_at [] id is = absurd (both_ways false refl is)
lists_at (l ∷ listing) id is = by_test (l.id.0 == id) refl is (λ later. lists_at listing id later)
  where
    by_test : (t : Bool) → (l.id.0 == id) ≡ t → (t || lists_id listing id) ≡ true
        → (lists_id listing id ≡ true → ListedAs listing id) → ListedAs (l ∷ listing) id
    by_test true same is again = record {
      message = l;
      held = inl refl;
      id_is = eqb-true l.id.0 id same;
    }
    by_test false other is again = record {
      message = (again is).message;
      held = inr (again is).held;
      id_is = (again is).id_is;
    }

pub lists_in : (listing : List Listed) (l : Listed) → IsIn l listing
    → lists_id listing l.id.0 ≡ true
lists_in [] l held = absurd held
lists_in (m ∷ listing) l (inl same) =
    or_left (m.id.0 == l.id.0) (lists_id listing l.id.0)
    (eq-eqb m.id.0 l.id.0 (ap (λ (x : Listed). x.id.0) same))
lists_in (m ∷ listing) l (inr held) =
    or_right (m.id.0 == l.id.0) (lists_id listing l.id.0) (lists_in listing l held)

pub differ_parts : (l : Listed) (listing : List Listed) → ids_differ (l ∷ listing) ≡ true
    → (lists_id listing l.id.0 ≡ false) × (ids_differ listing ≡ true)
differ_parts l listing differ =
    let parts = and_parts (not (lists_id listing l.id.0)) (ids_differ listing) differ in
    (not-true (lists_id listing l.id.0) parts.0, parts.1)

differ_from : (l : Listed) (listing : List Listed) → lists_id listing l.id.0 ≡ false
    → ids_differ listing ≡ true → ids_differ (l ∷ listing) ≡ true
differ_from l listing none differ =
    and_from (not (lists_id listing l.id.0)) (ids_differ listing)
    (not_from_false (lists_id listing l.id.0) none) differ

-- the first is no other with its id
pub differ_head : (l m : Listed) (listing : List Listed) → ids_differ (l ∷ listing) ≡ true
    → IsIn m listing → l.id.0 ≡ m.id.0 → ⊥
differ_head l m listing differ held same =
    both_ways (lists_id listing l.id.0) (differ_parts l listing differ).0
    (ap (lists_id listing) same ∙ lists_in listing m held)

-- where ids differ, one message has an id
pub differ_one : (listing : List Listed) → ids_differ listing ≡ true → (l m : Listed)
    → IsIn l listing → IsIn m listing → l.id.0 ≡ m.id.0 → l ≡ m
differ_one [] differ l m first second same = absurd first
differ_one (x ∷ listing) differ l m (inl is) (inl also) same = sym is ∙ also
differ_one (x ∷ listing) differ l m (inl is) (inr held) same =
    absurd (differ_head x m listing differ held (ap (λ (y : Listed). y.id.0) is ∙ same))
differ_one (x ∷ listing) differ l m (inr held) (inl is) same =
    absurd (differ_head x l listing differ held (ap (λ (y : Listed). y.id.0) is ∙ sym same))
differ_one (x ∷ listing) differ l m (inr held) (inr also) same =
    differ_one listing (differ_parts x listing differ).1 l m held also same

-- ids that differ from each other in two lists, and from one list to the other
pub differ_append : (xs ys : List Listed) → ids_differ xs ≡ true → ids_differ ys ≡ true
    → ((id : ℕ) → lists_id xs id ≡ true → lists_id ys id ≡ false)
    → ids_differ (xs ++ ys) ≡ true
differ_append [] ys first second apart = second
differ_append (x ∷ xs) ys first second apart =
    let parts = differ_parts x xs first in
    let here = apart x.id.0 (lists_in (x ∷ xs) x (inl refl)) in
    differ_from x (xs ++ ys)
    (list_any-append (λ l. l.id.0 == x.id.0) xs ys
    ∙ or_from (lists_id xs x.id.0) (lists_id ys x.id.0) parts.0 here)
    (differ_append xs ys parts.1 second
    (λ id later. apart id (or_right (x.id.0 == id) (lists_id xs id) later)))

-- ids of which each is that of what it is made of, if something is
module _ (h : Listed → Option Listed)
    (same : (l m : Listed) → h l ≡ Some m → m.id.0 ≡ l.id.0) where
  pub lists_map : (listing : List Listed) (id : ℕ) → lists_id (filter_map h listing) id ≡ true
      → lists_id listing id ≡ true
  lists_map listing id is =
      let made = lists_at (filter_map h listing) id is in
      let of = in_filter_map h made.message listing made.held in
      subst (λ (n : ℕ). lists_id listing n ≡ true)
      (sym (same of.0 made.message of.2) ∙ made.id_is) (lists_in listing of.0 of.1)

  pub differ_map : (listing : List Listed) → ids_differ listing ≡ true
      → ids_differ (filter_map h listing) ≡ true
  differ_map [] differ = refl
  differ_map (l ∷ listing) differ = by_made (h l) refl
      (differ_map listing (differ_parts l listing differ).1)
    where
      by_made : (o : Option Listed) → h l ≡ o → ids_differ (filter_map h listing) ≡ true
          → ids_differ (cons_option o (filter_map h listing)) ≡ true
      by_made None is again = again
      by_made (Some m) is again = differ_from m (filter_map h listing)
          (false_from_ne_true (lists_id (filter_map h listing) m.id.0)
          (λ wrong. both_ways (lists_id listing l.id.0) (differ_parts l listing differ).0
          (subst (λ (n : ℕ). lists_id listing n ≡ true) (same l m is)
          (lists_map listing m.id.0 wrong)))) again

pub differ_filter : (p : Listed → Bool) (listing : List Listed) → ids_differ listing ≡ true
    → ids_differ (filter p listing) ≡ true
differ_filter p [] differ = refl
differ_filter p (l ∷ listing) differ = by_test (p l)
    (differ_filter p listing (differ_parts l listing differ).1)
  where
    none : lists_id (filter p listing) l.id.0 ≡ false
    none = false_from_ne_true (lists_id (filter p listing) l.id.0) (λ wrong.
        let at = lists_at (filter p listing) l.id.0 wrong in
        differ_head l at.message listing differ (in_filter p at.message listing at.held).0
        (sym at.id_is))

    by_test : (t : Bool) → ids_differ (filter p listing) ≡ true
        → ids_differ (if t then l ∷ filter p listing else filter p listing) ≡ true
    by_test true again = differ_from l (filter p listing) none again
    by_test false again = again

-- The same by the numbers of messages.

all_other : (items : List PlainItem) (id : ℕ) → lists_id (listing_of items) id ≡ false
    → AllByRecursion (λ n. nat_eq id n ≡ false) (numbers items)
all_other [] id none = tt
all_other (i ∷ items) id none =
    let parts = or_parts (i.id.0 == id) (lists_id (listing_of items) id) none in
    (nat_eq_equiv.symm id i.id.0 ∙ parts.0, all_other items id parts.1)

none_other : (items : List PlainItem) (id : ℕ)
    → AllByRecursion (λ n. nat_eq id n ≡ false) (numbers items)
    → lists_id (listing_of items) id ≡ false
none_other [] id all = refl
none_other (i ∷ items) id all =
    or_from (i.id.0 == id) (lists_id (listing_of items) id)
    (nat_eq_equiv.symm i.id.0 id ∙ all.0) (none_other items id all.1)

pub apart_differ : (items : List PlainItem) → IsDistinct nat_eq (numbers items)
    → ids_differ (listing_of items) ≡ true
apart_differ [] apart = refl
apart_differ (i ∷ items) apart = differ_from (listed_of i) (listing_of items)
    (none_other items i.id.0 (IsDistinct-head nat_eq i.id.0 (numbers items) apart))
    (apart_differ items (IsDistinct-tail nat_eq i.id.0 (numbers items) apart))

pub differ_apart : (items : List PlainItem) → ids_differ (listing_of items) ≡ true
    → IsDistinct nat_eq (numbers items)
unfolding IsDistinct
differ_apart [] differ = tt
differ_apart (i ∷ items) differ =
    let parts = differ_parts (listed_of i) (listing_of items) differ in
    (all_other items i.id.0 parts.0, differ_apart items parts.1)
