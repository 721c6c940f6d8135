-- The ids of a mailbox rise in its listing.
use Rattle.std.proofs.Common.{◌≡◌, ◌≤◌, ◌<◌, ◌+◌, ◌==◌, ℕ, Bool, true, false, List, [], ◌∷◌, Some}
use Rattle.std.proofs.Common.{None, map, if◌then◌else◌, refl, sym, ◌∙◌, ap, arith, lt-ltb}
use Rattle.std.specs.Prelude.{cond}
use Rattle.std.specs.Cmp.Lexicographic.{slice_cmp}
use Rattle.std.specs.Ordering.{is_lt, nat_cmp, ordering_then}
use Rattle.std.specs.declared.cmp.Ordering.{Ordering}
use Rattle.std.specs.declared.cmp.Ordering.TheVariants.{Less, Equal, Greater}
use Rattle.std.proofs.lemmas.Bool.{and_from, and_parts}
use Rattle.std.proofs.lemmas.Cmp.{ranked}
use Rattle.std.proofs.lemmas.List.Elements.{All-head, All-tail}
use Rattle.folder_letters.specs.Letters.{Mail}
use Rattle.folder_letters.specs.declared.listing.Listed.{Listed}
use Rattle.folder_core.specs.Keeping.{PlacedById, listed_by, mail_of, mails_of, with_mail}
use Rattle.folder_core.specs.Mbox.{mbox_message}
use Rattle.folder_core.specs.Right.{mail_before, mails_rise}
use Rattle.folder_core.proofs.DifferenceLemmas.{AreBelow}
use Rattle.mbox_folder.specs.ListedFile.{stays}
use Rattle.mbox_folder.proofs.Staying.{keeps_of}

-- the ids rise from one on
abbrev pub IdsFrom : ℕ → List Listed → Type 0
IdsFrom low [] = Unit {0}
IdsFrom low (listed ∷ more) = (low ≤ listed.id.0) × IdsFrom (listed.id.0 + 1) more

-- Letters without keys stand as their places do.

test_low : (m n : ℕ) (order : Ordering) → order ≡ nat_cmp m n
    → is_lt (ordering_then order (slice_cmp nat_cmp [] [])) ≡ true → m < n
test_low m n Less is before = ranked m n Less is
test_low m n Equal is before = absurd (cc)
test_low m n Greater is before = absurd (cc)

low_test : (m n : ℕ) → m < n → is_lt (ordering_then (nat_cmp m n) (slice_cmp nat_cmp [] [])) ≡ true
low_test m n low =
    ap (λ (t : Bool). is_lt (ordering_then (cond t Less (cond (m == n) Equal Greater))
    (slice_cmp nat_cmp [] []))) (lt-ltb m n low)

-- the test of two letters by their ids
by_ids : (a b : Mail) (m n : ℕ) → a.order ≡ m → b.order ≡ n → a.key ≡ [] → b.key ≡ []
    → mail_before a b ≡ is_lt (ordering_then (nat_cmp m n) (slice_cmp nat_cmp [] []))
by_ids a b m n first next one two =
    ap (λ (k : ℕ). is_lt (ordering_then (nat_cmp k b.order) (slice_cmp nat_cmp a.key b.key))) first
    ∙ ap (λ (k : ℕ). is_lt (ordering_then (nat_cmp m k) (slice_cmp nat_cmp a.key b.key))) next
    ∙ ap (λ (l : List ℕ). is_lt (ordering_then (nat_cmp m n) (slice_cmp nat_cmp l b.key))) one
    ∙ ap (λ (l : List ℕ). is_lt (ordering_then (nat_cmp m n) (slice_cmp nat_cmp [] l))) two

-- of letters that stand in order the ids rise
rise_from : (mails : List Mail) (low : ℕ) (first : Listed) (old : List Listed) → low ≤ first.id.0
    → mails_rise (mails_of mails (first ∷ old)) ≡ true → PlacedById (mails_of mails (first ∷ old))
    → IdsFrom low (first ∷ old)
rise_from mails low first [] from rise placed = (from, tt)
rise_from mails low first (next ∷ old) from rise placed =
    let parts = and_parts (mail_before (mail_of mails first.id.0) (mail_of mails next.id.0))
    (mails_rise (mails_of mails (next ∷ old))) rise in
    let above : first.id.0 < next.id.0 =
    test_low first.id.0 next.id.0 (nat_cmp first.id.0 next.id.0) refl
    (sym (by_ids (mail_of mails first.id.0) (mail_of mails next.id.0) first.id.0 next.id.0 placed.0
    placed.1.1.0 placed.1.0 placed.1.1.1.0) ∙ parts.0) in
    (from, rise_from mails (first.id.0 + 1) next old (omega (arith, above)) parts.1 placed.1.1)

pub old_rise : (mails : List Mail) (old : List Listed) → mails_rise (mails_of mails old) ≡ true
    → PlacedById (mails_of mails old) → IdsFrom 0 old
old_rise mails [] rise placed = tt
old_rise mails (first ∷ old) rise placed =
    rise_from mails 0 first old (omega arith) rise placed

-- and the other way round
pub rise_back : (mails : List Mail) (low : ℕ) (listing : List Listed)
    → PlacedById (mails_of mails listing) → IdsFrom low listing
    → mails_rise (mails_of mails listing) ≡ true
rise_back mails low [] placed rise = refl
rise_back mails low (first ∷ []) placed rise = refl
rise_back mails low (first ∷ next ∷ listing) placed rise =
    and_from (mail_before (mail_of mails first.id.0) (mail_of mails next.id.0))
    (mails_rise (mails_of mails (next ∷ listing)))
    (by_ids (mail_of mails first.id.0) (mail_of mails next.id.0) first.id.0 next.id.0 placed.0
    placed.1.1.0 placed.1.0 placed.1.1.1.0
    ∙ low_test first.id.0 next.id.0 (omega (arith, rise.1.0)))
    (rise_back mails (first.id.0 + 1) (next ∷ listing) placed.1.1 rise.1)

-- The new listing.

all_rise : (low next : ℕ) (raws : List (List ℕ)) → low ≤ next
    → IdsFrom low (listed_by next (keeps_of [] raws) (map mbox_message raws))
all_rise low next [] from = tt
all_rise low next (raw ∷ raws) from = (from, all_rise (next + 1) (next + 1) raws (omega arith))

pub new_rise : (low next : ℕ) (mails : List Mail) (old : List Listed) (raws : List (List ℕ))
    → low ≤ next → AreBelow next old → IdsFrom low old
    → IdsFrom low (listed_by next (keeps_of (mails_of mails old) raws) (map mbox_message raws))
new_rise low next mails [] raws from below rise = all_rise low next raws from
new_rise low next mails (listed ∷ old) [] from below rise = tt
new_rise low next mails (listed ∷ old) (raw ∷ raws) from below rise =
    by_test (stays (with_mail mails listed) raw)
    (new_rise (listed.id.0 + 1) next mails old raws
    (omega (arith, All-head (λ l. l.id.0 < next) listed old below))
    (All-tail (λ l. l.id.0 < next) listed old below) rise.1)
  where
    by_test : (t : Bool)
        → IdsFrom (listed.id.0 + 1)
        (listed_by next (keeps_of (mails_of mails old) raws) (map mbox_message raws))
        → IdsFrom low (listed_by next
        (if t then Some listed.id.0 ∷ keeps_of (mails_of mails old) raws
        else None ∷ keeps_of [] raws)
        (map mbox_message (raw ∷ raws)))
    by_test true again = (rise.0, again)
    by_test false again = all_rise low next (raw ∷ raws) from
