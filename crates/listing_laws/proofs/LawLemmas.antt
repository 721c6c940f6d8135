-- The same of a listing alone.
use Rattle.std.proofs.Common.{◌≡◌, ◌∙◌, ◌++◌, ℕ, Bool, List, true, false, not, ap, arith, map}
use Rattle.std.proofs.Common.{nat_eq, refl, subst, sym}
use Rattle.std.proofs.lemmas.List.{map-append}
use Rattle.std.specs.List.{IsDistinct}
use Rattle.mail_base.specs.Ordered.{IsIn}
use Rattle.folder_letters.specs.Letters.{Mail}
use Rattle.folder_letters.specs.Listings.{ids_from}
use Rattle.folder_letters.specs.declared.listing.Found.{Found}
use Rattle.folder_letters.specs.declared.listing.Listed.{Listed}
use Rattle.folder_core.specs.Keeping.{IsDifference, ids_differ, lists_id, mails_of}
use Rattle.folder_core.specs.Right.{mails_rise}
use Rattle.folder_core.proofs.DifferenceLemmas.{lists_far}
use Rattle.index_items.specs.Found.{AreListedBelow, came_items}
use Rattle.index_items.specs.Items.{PlainItem, numbers}
use Rattle.listing_laws.specs.Listing.{listed_of, listing_behind, listing_of}
use Rattle.listing_laws.proofs.IdLemmas.{apart_differ, differ_append, differ_apart, differ_filter}
use Rattle.listing_laws.proofs.IdLemmas.{lists_at}
use Rattle.listing_laws.proofs.ListingLemmas.{came_count, ids_high, joined_lists, listing_came}

-- what holds of a listing holds of that of messages which are listed so
over_items : (Is : List Listed → Type 0) (listing : List Listed) → Is listing
    → Is (listing_of (came_items listing))
over_items Is listing is = subst Is (sym (listing_came listing)) is

pub behind_is : (mails : List Mail) (old new : List Listed) (found : Found)
    → ids_differ old ≡ true → mails_rise (mails_of mails new) ≡ true → IsDifference old new found
    → listing_behind mails found old ≡ new
behind_is mails old new found once rise difference = joined_lists mails (came_items old) new found
    (differ_apart (came_items old) (over_items (λ l. ids_differ l ≡ true) old once)) rise
    (over_items (λ l. IsDifference l new found) old difference)

-- The same came to a listing and to a part of it, where what came has the ids behind its own.
pub same_came : (listing known new : List Listed) (found theirs : Found) (letters : ℕ)
    → IsDifference known new theirs → IsDifference listing new found
    → map (λ l. l.id) theirs.came.items ≡ ids_from letters theirs.came.items
    → AreListedBelow letters listing
    → ((l : Listed) → IsIn l known → lists_id listing l.id.0 ≡ true)
    → found.came.items ≡ theirs.came.items
same_came listing known new found theirs letters other difference ids below held =
    came_count (came_items listing) known new found theirs letters other
    (over_items (λ l. IsDifference l new found) listing difference) ids
    (over_items (AreListedBelow letters) listing below)
    (λ l here. over_items (λ all. lists_id all l.id.0 ≡ true) listing (held l here))

true_false : ◌≡◌ {A = Bool} true false → ⊥
true_false e = cc

-- new letters have other ids than messages that are listed
pub new_apart : (items : List PlainItem) (came : List Listed) (letters : ℕ)
    → IsDistinct nat_eq (numbers items) → AreListedBelow letters (listing_of items)
    → ids_differ came ≡ true → map (λ l. l.id) came ≡ ids_from letters came
    → IsDistinct nat_eq (numbers (items ++ came_items came))
new_apart items came letters apart below differ ids =
    differ_apart (items ++ came_items came)
    (ap ids_differ (map-append listed_of items (came_items came)
    ∙ ap (λ (l : List Listed). listing_of items ++ l) (listing_came came))
    ∙ differ_append (listing_of items) came (apart_differ items apart) differ
    (λ id held. far id held (lists_id came id) refl))
  where
    far : (id : ℕ) → lists_id (listing_of items) id ≡ true → (t : Bool) → lists_id came id ≡ t
        → lists_id came id ≡ false
    far id held false is = is
    far id held true is =
        let at = lists_at came id is in
        absurd (true_false (sym held ∙ lists_far letters (listing_of items) id below
        (omega (arith, ids_high letters came at.message ids at.held, at.id_is))))

-- messages that came are listed once
pub came_once : (was new : List Listed) (theirs : Found) → IsDifference was new theirs
    → ids_differ new ≡ true → ids_differ theirs.came.items ≡ true
came_once was new theirs difference differ =
    ap ids_differ difference.came
    ∙ differ_filter (λ l. not (lists_id was l.id.0)) new differ
