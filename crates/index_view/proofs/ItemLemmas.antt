-- The numbers of the listed messages after a sync, a scan and a change.
use Rattle.std.proofs.Common.{◌≡◌, ◌∙◌, ◌<◌, ◌++◌, ◌∷◌, [], ℕ, Bool, true, false, List, ap, inl}
use Rattle.std.proofs.Common.{Option, Some, None, inr, map, nat_eq, refl, subst, sym}
use Rattle.std.proofs.lemmas.List.{get_or-map, length-map, map-append}
use Rattle.std.proofs.lemmas.List.Elements.{All-from_recursion}
use Rattle.std.proofs.lemmas.List.Sorted.{IsPermutation-map}
use Rattle.std.proofs.lemmas.Simd.{map-map}
use Rattle.std.specs.List.{AllByRecursion, IsDistinct}
use Rattle.std.specs.List.Sorted.{IsPermutation}
use Rattle.std.specs.Prelude.{if◌then◌else◌}
use Rattle.mail_base.specs.declared.flags.Flags.{Flags}
use Rattle.mail_base.specs.declared.kind.Id.{Id}
use Rattle.mail_base.specs.declared.kind.Kind.{Kind}
use Rattle.folder_letters.specs.Letters.{Mail}
use Rattle.folder_letters.specs.declared.change.Changed1.{Changed1}
use Rattle.folder_letters.specs.declared.listing.Found.{Found}
use Rattle.index_items.specs.Changes.{Alters, AreBelow, Changed, Discards, PlainChange, change_for}
use Rattle.index_items.specs.Changes.{change_of, changed_item, changes_of, plain_changed}
use Rattle.index_items.specs.Changes.{plain_changes, settled, settled_item}
use Rattle.index_items.specs.Found.{IsJoined, came_items, flags_for, is_gone, kept_item, kept_items}
use Rattle.index_items.specs.Items.{PlainItem, numbers}
use Rattle.index_listed.proofs.DistinctLemmas.{OneOrNone, all_both, all_left, all_moved}
use Rattle.index_listed.proofs.DistinctLemmas.{distinct_left, distinct_left_alone, distinct_moved}

abbrev number : PlainItem → ℕ
number i = i.id.0

-- ---- after a sync

abbrev settle : Kind → List Changed → PlainItem → List PlainItem
settle kind changes i = settled_item kind i (change_for changes i.id.0)

settled_each : (kind : Kind) (i : PlainItem) (change : Option PlainChange)
    → OneOrNone number i (settled_item kind i change)
settled_each kind i None = inr refl
settled_each kind i (Some (Alters added cleared)) = inr refl
settled_each kind i (Some Discards) = inl refl

settle_each : (kind : Kind) (changes : List Changed) (i : PlainItem)
    → OneOrNone number i (settle kind changes i)
settle_each kind changes i = settled_each kind i (change_for changes i.id.0)

pub settled_apart : (kind : Kind) (changes : List Changed) (items : List PlainItem)
    → IsDistinct nat_eq (numbers items) → IsDistinct nat_eq (numbers (settled kind changes items))
settled_apart kind changes =
    distinct_left_alone number (settle kind changes) (settle_each kind changes)

pub settled_within : (P : ℕ → Type 0) (kind : Kind) (changes : List Changed)
    (items : List PlainItem) → AllByRecursion P (numbers items)
    → AllByRecursion P (numbers (settled kind changes items))
settled_within P kind changes =
    all_left P number (settle kind changes) (settle_each kind changes)

-- ---- after a scan

abbrev keep : Found → PlainItem → List PlainItem
keep found i =
    kept_item (is_gone found.gone.items i.id.0) (flags_for found.reflagged.items i.id.0) i

kept_each : (gone : Bool) (flags : Option Flags) (i : PlainItem)
    → OneOrNone number i (kept_item gone flags i)
kept_each true flags i = inl refl
kept_each false None i = inr refl
kept_each false (Some flags) i = inr refl

keep_each : (found : Found) (i : PlainItem) → OneOrNone number i (keep found i)
keep_each found i =
    kept_each (is_gone found.gone.items i.id.0) (flags_for found.reflagged.items i.id.0) i

moved : (mails : List Mail) (found : Found) (items more : List PlainItem)
    → IsJoined mails found items more → IsPermutation
    (numbers (kept_items found items) ++ numbers (came_items found.came.items)) (numbers more)
moved mails found items more joined =
    subst (λ l. IsPermutation l (numbers more))
    (map-append number (kept_items found items) (came_items found.came.items))
    (IsPermutation-map number _ more joined.same)

pub joined_apart : (mails : List Mail) (found : Found) (items more : List PlainItem)
    → IsJoined mails found items more
    → IsDistinct nat_eq (numbers (items ++ came_items found.came.items))
    → IsDistinct nat_eq (numbers more)
joined_apart mails found items more joined apart =
    let came = came_items found.came.items in
    distinct_moved _ (numbers more) (moved mails found items more joined)
    (distinct_left number (keep found) (keep_each found) items (numbers came)
    (subst (IsDistinct nat_eq) (map-append number items came) apart))

pub joined_within : (P : ℕ → Type 0) (mails : List Mail) (found : Found)
    (items more : List PlainItem) → IsJoined mails found items more
    → AllByRecursion P (numbers items)
    → AllByRecursion P (numbers (came_items found.came.items))
    → AllByRecursion P (numbers more)
joined_within P mails found items more joined old new =
    all_moved P _ (numbers more) (moved mails found items more joined)
    (all_both P _ _ (all_left P number (keep found) (keep_each found) items old) new)

-- ---- after a change

pub altered_numbers : (change : PlainItem → PlainItem) → ((i : PlainItem) → (change i).id ≡ i.id)
    → (id : Id) (items : List PlainItem)
    → numbers (map (λ i. if nat_eq id.0 i.id.0 then change i else i) items) ≡ numbers items
altered_numbers change keeps id [] = refl
altered_numbers change keeps id (i ∷ items) = λ k.
    by_test (nat_eq id.0 i.id.0) k ∷ altered_numbers change keeps id items k
  where
    by_test : (b : Bool) → number (if b then change i else i) ≡ number i
    by_test true = ap (λ (d : Id). d.0) (keeps i)
    by_test false = refl

-- ---- what a sync is to do

abbrev changed_number : Changed → ℕ
changed_number c = c.id.0

changes_all : (P : ℕ → Type 0) (kind : Kind) (purge : Bool) (items : List PlainItem)
    → AllByRecursion P (numbers items)
    → AllByRecursion P (map changed_number (changes_of kind purge items))
changes_all P kind purge [] all = tt
changes_all P kind purge (i ∷ items) all =
    subst (AllByRecursion P)
    (sym (map-append changed_number (changed_item i (change_of kind purge i))
    (changes_of kind purge items)))
    (all_both P _ _ (one (change_of kind purge i)) (changes_all P kind purge items all.1))
  where
    one : (change : Option PlainChange)
        → AllByRecursion P (map changed_number (changed_item i change))
    one None = tt
    one (Some change) = (all.0, tt)

-- the messages of which a sync is to do something are among those that are listed
pub changes_below : (bound : ℕ) (kind : Kind) (purge : Bool) (items : List PlainItem)
    (changes : List Changed1) → AllByRecursion (λ n. n < bound) (numbers items)
    → plain_changes changes ≡ changes_of kind purge items → AreBelow bound changes
changes_below bound kind purge items changes low are k d within =
    let number_of : Changed1 → ℕ = λ c. c.id.0 in
    subst (λ m. m < bound) (get_or-map number_of changes k d (number_of d) within)
    (All-from_recursion (λ m. m < bound) (map number_of changes)
    (subst (AllByRecursion (λ m. m < bound))
    (ap (map changed_number) (sym are) ∙ map-map changed_number plain_changed changes)
    (changes_all (λ m. m < bound) kind purge items low)) k (number_of d)
    (subst (λ m. k < m) (sym (length-map changes number_of)) within))
