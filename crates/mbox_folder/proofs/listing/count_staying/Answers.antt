use Rattle.std.proofs.Common.{◌≡◌, ◌≤◌, ◌<◌, ◌+◌, ◌-◌, ℕ, Bool, true, List, [], ◌∷◌, length, map}
use Rattle.std.proofs.Common.{take, drop, if◌then◌else◌, slice_index_or, take_all, sym, ◌∙◌, ap}
use Rattle.std.proofs.Common.{subst, arith}
use Rattle.std.proofs.lemmas.List.Elements.{All-tail}
use Rattle.folder_letters.specs.Letters.{Mail, plain_letter}
use Rattle.folder_letters.specs.declared.listing.Listed.{Listed}
use Rattle.folder_core.specs.Keeping.{mails_of, with_mail}
use Rattle.folder_core.specs.declared.region.Region.{Region}
use Rattle.folder_core.specs.Mbox.{Cover}
use Rattle.folder_core.proofs.DifferenceLemmas.{AreBelow}
use Rattle.folder_core.proofs.Messages.{Cover-le, in_region}
use Rattle.mbox_folder.specs.ListedFile.{raws_in, stay_count, stays}
use Rattle.mbox_folder.proofs.listing.count_staying.Goals as goal

-- the first region ends in the file
first_ends : (end : ℕ) (left : List Region) → 1 ≤ length left → ((from : ℕ) × Cover from end left)
    → (slice_index_or left 0 (record { start = 0; end = 0 })).end ≤ end
first_ends end [] some h = absurd (omega arith)
first_ends end (region ∷ left) some h = Cover-le region.end end left h.1.2

pub slice_bounds-stays-end : goal.slice_bounds-stays-end
slice_bounds-stays-end c =
    first_ends (length c.args.bytes.now) c.loop-listed.left.now c.in-len1-up-left.len_at_least
    c.loop-listed.invariant.cover

-- the rest of a list as a slice gives it
abbrev rest_of : {A : Type 0} → List A → List A
rest_of l = take (length l - 1) (drop 1 l)

rest_is : {A : Type 0} (x : A) (l : List A) → rest_of (x ∷ l) ≡ l
rest_is x l = take_all (length (x ∷ l) - 1) l (omega arith)

cover_on : (end : ℕ) (left : List Region) → 1 ≤ length left → ((from : ℕ) × Cover from end left)
    → (from : ℕ) × Cover from end (rest_of left)
cover_on end [] some h = absurd (omega arith)
cover_on end (region ∷ left) some h =
    (region.end, subst (Cover region.end end) (sym (rest_is region left)) h.1.2)

within_on : (letters : ℕ) (listed : List Listed) → 1 ≤ length listed → AreBelow letters listed
    → AreBelow letters (rest_of listed)
within_on letters [] some below = absurd (omega arith)
within_on letters (first ∷ listed) some below =
    subst (AreBelow letters) (sym (rest_is first listed))
    (All-tail (λ l. l.id.0 < letters) first listed below)

few_on : {A : Type 0} (count all : ℕ) (listed : List A) → 1 ≤ length listed
    → count + length listed ≡ all
    → (count + 1) + length (rest_of listed) ≡ all
few_on count all [] some few = absurd (omega arith)
few_on count all (first ∷ listed) some few = omega (arith, ap length (rest_is first listed), few)

count_on : (mails : List Mail) (bytes : List ℕ) (listed : List Listed) (left : List Region)
    (first : Listed) (region : Region) (count all : ℕ) → 1 ≤ length listed → 1 ≤ length left
    → stays (with_mail mails (slice_index_or listed 0 first))
    (in_region bytes (slice_index_or left 0 region)) ≡ true
    → count + stay_count (mails_of mails listed) (raws_in bytes left) ≡ all
    → (count + 1) + stay_count (mails_of mails (rest_of listed)) (raws_in bytes (rest_of left))
    ≡ all
count_on mails bytes [] left first region count all some more is same = absurd (omega arith)
count_on mails bytes (x ∷ listed) [] first region count all some more is same = absurd (omega arith)
count_on mails bytes (x ∷ listed) (y ∷ left) first region count all some more is same =
    let rest : stay_count (mails_of mails (rest_of (x ∷ listed)))
    (raws_in bytes (rest_of (y ∷ left)))
    ≡ stay_count (mails_of mails listed) (raws_in bytes left) =
    ap (λ (l : List Listed). stay_count (mails_of mails l) (raws_in bytes (rest_of (y ∷ left))))
    (rest_is x listed)
    ∙ ap (λ (l : List Region). stay_count (mails_of mails listed) (raws_in bytes l))
    (rest_is y left) in
    let here : stay_count (mails_of mails (x ∷ listed)) (raws_in bytes (y ∷ left))
    ≡ stay_count (mails_of mails listed) (raws_in bytes left) + 1 =
    ap (λ (t : Bool). if t then stay_count (mails_of mails listed) (raws_in bytes left) + 1 else 0)
    is in
    omega (arith, rest, here, same)

pub loop-listed-preserved : goal.loop-listed-preserved
loop-listed-preserved c = record {
  cover = cover_on (length c.args.bytes.now) c.loop-listed.left.now
      c.in-len1-up-left.len_at_least c.loop-listed.invariant.cover;
  within = within_on (length c.args.letters.now) c.loop-listed.listed.now c.in-len1-up.len_at_least
      c.loop-listed.invariant.within;
  count = count_on (map plain_letter c.args.letters.now) c.args.bytes.now c.loop-listed.listed.now
      c.loop-listed.left.now _ _ c.loop-listed.count _ c.in-len1-up.len_at_least
      c.in-len1-up-left.len_at_least (sym c.in_ok-stays.ensures ∙ c.if-not-branch.false)
      c.loop-listed.invariant.count;
  few = few_on c.loop-listed.count _ c.loop-listed.listed.now c.in-len1-up.len_at_least
      c.loop-listed.invariant.few;
  rest = few_on c.loop-listed.count _ c.loop-listed.left.now c.in-len1-up-left.len_at_least
      c.loop-listed.invariant.rest;
}
