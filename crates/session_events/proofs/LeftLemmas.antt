-- What a sync leaves of a listing has each id once.
use Rattle.std.proofs.Common.{◌≡◌, ◌⊎◌, inl, inr, ◌++◌, ◌==◌, ℕ, true, false, not}
use Rattle.std.proofs.Common.{List, [], ◌∷◌, Option, Some, None, refl, sym, subst}
use Rattle.std.proofs.lemmas.Bool.{and_from, and_parts, not-true, not_from_false, or_from, or_parts}
use Rattle.mail_base.specs.declared.kind.Kind.{Kind}
use Rattle.mail_base.specs.declared.kind.Id.{Id}
use Rattle.folder_changes.specs.Left.{changed_listed, listing_synced}
use Rattle.folder_core.specs.Keeping.{ids_differ, lists_id}
use Rattle.folder_letters.specs.declared.listing.Listed.{Listed}
use Rattle.index_items.specs.Changes.{Changed, PlainChange, Alters, Discards, change_for}

-- a listed message goes, or stays with its id
abbrev GoesOrStays : Listed → List Listed → Type 0
GoesOrStays listed left =
    (left ≡ []) ⊎ ((same : Listed) × (same.id ≡ listed.id) × (left ≡ same ∷ []))

goes_or_stays : (kind : Kind) (listed : Listed) (change : Option PlainChange)
    → GoesOrStays listed (changed_listed kind listed change)
goes_or_stays kind listed None = inr (listed, refl, refl)
goes_or_stays kind listed (Some (Alters added cleared)) = inr (_, refl, refl)
goes_or_stays kind listed (Some Discards) = inl refl

module _ (kind : Kind) (changes : List Changed) where
  -- what a sync leaves of one of them
  abbrev one : Listed → List Listed
  one listed = changed_listed kind listed (change_for changes listed.id.0)

  none_comes : (listing : List Listed) (n : ℕ) → lists_id listing n ≡ false
      → lists_id (listing_synced kind changes listing) n ≡ false
  none_comes [] n none = refl
  none_comes (listed ∷ listing) n none =
      by (one listed) (goes_or_stays kind listed (change_for changes listed.id.0))
      (none_comes listing n parts.1)
    where
      parts : ((listed.id.0 == n) ≡ false) × (lists_id listing n ≡ false)
      parts = or_parts (listed.id.0 == n) (lists_id listing n) none

      by : (left : List Listed) → GoesOrStays listed left
          → lists_id (listing_synced kind changes listing) n ≡ false
          → lists_id (left ++ listing_synced kind changes listing) n ≡ false
      by left (inl goes) again =
          subst (λ (l : List Listed). lists_id (l ++ listing_synced kind changes listing) n ≡ false)
          (sym goes) again
      by left (inr same) again =
          subst (λ (l : List Listed). lists_id (l ++ listing_synced kind changes listing) n ≡ false)
          (sym same.2)
          (or_from (same.0.id.0 == n) (lists_id (listing_synced kind changes listing) n)
          (subst (λ (id : Id). (id.0 == n) ≡ false) (sym same.1) parts.0) again)

  pub synced_differ : (listing : List Listed) → ids_differ listing ≡ true
      → ids_differ (listing_synced kind changes listing) ≡ true
  synced_differ [] differ = refl
  synced_differ (listed ∷ listing) differ =
      by (one listed) (goes_or_stays kind listed (change_for changes listed.id.0))
      (synced_differ listing parts.1)
    where
      parts : (not (lists_id listing listed.id.0) ≡ true) × (ids_differ listing ≡ true)
      parts = and_parts (not (lists_id listing listed.id.0)) (ids_differ listing) differ

      by : (left : List Listed) → GoesOrStays listed left
          → ids_differ (listing_synced kind changes listing) ≡ true
          → ids_differ (left ++ listing_synced kind changes listing) ≡ true
      by left (inl goes) again =
          subst (λ (l : List Listed). ids_differ (l ++ listing_synced kind changes listing) ≡ true)
          (sym goes) again
      by left (inr same) again =
          subst (λ (l : List Listed). ids_differ (l ++ listing_synced kind changes listing) ≡ true)
          (sym same.2)
          (and_from (not (lists_id (listing_synced kind changes listing) same.0.id.0))
          (ids_differ (listing_synced kind changes listing))
          (not_from_false (lists_id (listing_synced kind changes listing) same.0.id.0)
          (subst (λ (id : Id). lists_id (listing_synced kind changes listing) id.0 ≡ false)
          (sym same.1) (none_comes listing listed.id.0
          (not-true (lists_id listing listed.id.0) parts.0)))) again)
