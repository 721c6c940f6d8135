-- Changes in the order of a listing are of its messages, each once.
use Rattle.std.proofs.Common.{◌≡◌, ◌<◌, ◌==◌, ◌||◌, ℕ, Bool, true, false, not, List, [], ◌∷◌, None}
use Rattle.std.proofs.Common.{refl, sym, subst, eq-eqb, nat_eq, Some, if◌then◌else◌}
use Rattle.std.specs.Prelude.{find, option_map}
use Rattle.std.specs.List.{All}
use Rattle.std.proofs.lemmas.Bool.{and_parts, eqb-true, false≢true, not-true, or_left, or_right}
use Rattle.std.proofs.lemmas.List.Elements.{All-cons, All-head, All-nil, All-tail}
use Rattle.folder_changes.specs.Asked.{AreListed, AreOnce}
use Rattle.folder_core.specs.Keeping.{ids_differ, lists_id}
use Rattle.folder_letters.specs.declared.change.Changed1.{Changed1}
use Rattle.folder_letters.specs.declared.listing.Listed.{Listed}
use Rattle.index_items.specs.Changes.{AreBelow, Changed, change_for, plain_changes}
use Rattle.session_events.specs.Syncing.{are_in_order}

listed_more : (listed : Listed) (listing : List Listed) (changes : List Changed)
    → AreListed listing changes → AreListed (listed ∷ listing) changes
listed_more listed listing [] are = tt
listed_more listed listing (changed ∷ changes) are = (
  or_right (listed.id.0 == changed.id.0) (lists_id listing changed.id.0) are.0,
  listed_more listed listing changes are.1,
)

pub in_order_listed : (listing : List Listed) (changes : List Changed)
    → are_in_order listing changes ≡ true → AreListed listing changes
in_order_listed [] [] is = tt
in_order_listed [] (changed ∷ changes) is = absurd (false≢true is)
in_order_listed (listed ∷ listing) [] is = tt
in_order_listed (listed ∷ listing) (changed ∷ changes) is =
    by (changed.id.0 == listed.id.0) refl is (λ left. in_order_listed listing left)
  where
    by : (t : Bool) → (changed.id.0 == listed.id.0) ≡ t
        → are_in_order listing (if t then changes else changed ∷ changes) ≡ true
        → ((left : List Changed) → are_in_order listing left ≡ true → AreListed listing left)
        → AreListed (listed ∷ listing) (changed ∷ changes)
    by true same is again = (
      or_left (listed.id.0 == changed.id.0) (lists_id listing changed.id.0)
          (eq-eqb listed.id.0 changed.id.0 (sym (eqb-true changed.id.0 listed.id.0 same))),
      listed_more listed listing changes (again changes is),
    )
    by false other is again =
        listed_more listed listing (changed ∷ changes) (again (changed ∷ changes) is)

-- of a message that is not listed nothing is said
none_listed : (listing : List Listed) (changes : List Changed) (n : ℕ) → AreListed listing changes
    → lists_id listing n ≡ false → change_for changes n ≡ None
none_listed listing [] n are none = refl
none_listed listing (changed ∷ changes) n are none =
    by (nat_eq n changed.id.0) refl (none_listed listing changes n are.1 none)
  where
    by : (t : Bool) → nat_eq n changed.id.0 ≡ t → change_for changes n ≡ None
        → option_map (λ c. c.change) (if t then Some changed
        else find (λ c. nat_eq n c.id.0) changes) ≡ None
    by true same again =
        let is : lists_id listing n ≡ true =
        subst (λ (m : ℕ). lists_id listing m ≡ true) (sym (eqb-true n changed.id.0 same)) are.0 in
        absurd (cc)
    by false other again = again

pub in_order_once : (listing : List Listed) (changes : List Changed) → ids_differ listing ≡ true
    → are_in_order listing changes ≡ true → AreOnce changes
in_order_once [] [] differ is = tt
in_order_once [] (changed ∷ changes) differ is = absurd (false≢true is)
in_order_once (listed ∷ listing) [] differ is = tt
in_order_once (listed ∷ listing) (changed ∷ changes) differ is =
    by (changed.id.0 == listed.id.0) refl is (λ left. in_order_once listing left parts.1)
  where
    parts : (not (lists_id listing listed.id.0) ≡ true) × (ids_differ listing ≡ true)
    parts = and_parts (not (lists_id listing listed.id.0)) (ids_differ listing) differ

    by : (t : Bool) → (changed.id.0 == listed.id.0) ≡ t
        → are_in_order listing (if t then changes else changed ∷ changes) ≡ true
        → ((left : List Changed) → are_in_order listing left ≡ true → AreOnce left)
        → AreOnce (changed ∷ changes)
    by true same is again = (
      none_listed listing changes changed.id.0 (in_order_listed listing changes is)
          (subst (λ (m : ℕ). lists_id listing m ≡ false)
          (sym (eqb-true changed.id.0 listed.id.0 same))
          (not-true (lists_id listing listed.id.0) parts.0)),
      again changes is,
    )
    by false other is again = again (changed ∷ changes) is

-- an id that is listed is below a bound of those that are
id_below : (bound : ℕ) (listing : List Listed) (n : ℕ) → All (λ l. l.id.0 < bound) listing
    → lists_id listing n ≡ true → n < bound
id_below bound [] n within is = absurd (false≢true is)
id_below bound (listed ∷ listing) n within is =
    by (listed.id.0 == n) refl is
    (id_below bound listing n (All-tail (λ l. l.id.0 < bound) listed listing within))
  where
    by : (t : Bool) → (listed.id.0 == n) ≡ t → (t || lists_id listing n) ≡ true
        → (lists_id listing n ≡ true → n < bound) → n < bound
    by true same is again =
        subst (λ (m : ℕ). m < bound) (eqb-true listed.id.0 n same)
        (All-head (λ l. l.id.0 < bound) listed listing within)
    by false other is again = again is

pub listed_below : (bound : ℕ) (listing : List Listed) (changes : List Changed1)
    → All (λ l. l.id.0 < bound) listing → AreListed listing (plain_changes changes)
    → AreBelow bound changes
listed_below bound listing [] within are = All-nil (λ c. c.id.0 < bound)
listed_below bound listing (changed ∷ changes) within are =
    All-cons (λ c. c.id.0 < bound) changed changes
    (id_below bound listing changed.id.0 within are.0)
    (listed_below bound listing changes within are.1)
