-- How a file is cut into messages line by line.
use Rattle.std.proofs.Common.{◌≡◌, ◌+◌, ◌-◌, ◌<◌, ◌≤◌, ℕ, zero, suc, Bool, true, false, ◌&&◌, List}
use Rattle.std.proofs.Common.{[], ◌∷◌, ◌++◌, length, take, drop, slice_index, Some, None, refl, sym}
use Rattle.std.proofs.Common.{ap, subst, ◌∙◌, arith, inr, append-nil, get_or-take, length-drop}
use Rattle.std.proofs.Common.{length-take-le, take-append-drop}
use Rattle.std.specs.Prelude.{if◌then◌else◌, codes, is_some}
use Rattle.std.specs.List.{concat}
use Rattle.std.specs.Str.{bytes_eq}
use Rattle.std.proofs.lemmas.List.{get_or-drop, length-take}
use Rattle.memchr.specs.Find.{FindsNeedle, OccursAt}
use Rattle.bstr.specs.Text.{line_len, lines_of}
use Rattle.bstr.proofs.lemmas.LineLemmas.{line_len-bounds, lines-append, lines-empty, lines-nil}
use Rattle.bstr.proofs.lemmas.LineLemmas.{lines-step}
use Rattle.mail_base.specs.Lines.{behind_first, first_line, is_empty_line, without_feed}
use Rattle.mail_base.proofs.LinesLemmas.{line_ends}
use Rattle.std.proofs.lemmas.Slice.Eq.{bytes_eq-Decides}
use Rattle.folder_core.specs.declared.region.Region.{Region}
use Rattle.folder_core.specs.Mbox.{is_postmark, postmark, stamp_behind, ends_message, messages}
use Rattle.folder_core.specs.Mbox.{spans, regions, begins_mailbox, begins_with_postmark}
use Rattle.folder_core.proofs.Messages.{region_at, widened, spans-messages, length-concat}
use Rattle.folder_core.proofs.Messages.{concat-lines}
use Rattle.mbox_text.specs.Regions.{last_empty}

-- the regions from a message on that began at `start`: `at` is the place of the lines left, and
-- `empty` tells of the line before them
abbrev pub opened : ℕ → ℕ → Bool → List (List ℕ) → List Region
opened start at empty [] = region_at start at ∷ []
opened start at empty (line ∷ lines) =
    if empty && is_postmark line
    then region_at start at ∷ opened at (at + length line) (is_empty_line line) lines
    else opened start (at + length line) (is_empty_line line) lines

widened-widened : (a b c : ℕ) (e : Bool) (rest : List Region)
    → widened a b false (widened b c e rest) ≡ widened a c e rest
widened-widened a b c true rest = refl
widened-widened a b c false [] = refl
widened-widened a b c false (region ∷ rest) = refl

by_cut : (start at : ℕ) (next : List ℕ) (lines : List (List ℕ)) (rest : List Region)
    → ((from : ℕ) → opened from (at + length next) (is_empty_line next) lines
    ≡ widened from (at + length next) (ends_message next lines) rest)
    → spans at (messages (next ∷ lines))
    ≡ widened at (at + length next) (ends_message next lines) rest
    → (cut : Bool)
    → (if cut then region_at start at ∷ opened at (at + length next) (is_empty_line next) lines
    else opened start (at + length next) (is_empty_line next) lines)
    ≡ widened start at cut (spans at (messages (next ∷ lines)))
by_cut start at next lines rest behind step true =
    ap (λ l. region_at start at ∷ l) (behind at ∙ sym step)
by_cut start at next lines rest behind step false =
    behind start ∙ sym (widened-widened start at (at + length next) (ends_message next lines) rest)
    ∙ ap (widened start at false) (sym step)

opened-widened : (start at : ℕ) (line : List ℕ) (lines : List (List ℕ))
    → opened start at (is_empty_line line) lines
    ≡ widened start at (ends_message line lines) (spans at (messages lines))
opened-widened start at line [] = refl
opened-widened start at line (next ∷ lines) =
    let behind = λ (from : ℕ). opened-widened from (at + length next) next lines in
    by_cut start at next lines _ behind (spans-messages at next lines)
    (is_empty_line line && is_postmark next)

-- the places of the messages of some lines
pub opened-spans : (line : List ℕ) (lines : List (List ℕ))
    → opened 0 (length line) (is_empty_line line) lines ≡ spans 0 (messages (line ∷ lines))
opened-spans line lines =
    let start : 0 + length line ≡ length line = omega arith in
    opened-widened 0 (length line) line lines
    ∙ sym (spans-messages 0 line lines
    ∙ ap (λ n. widened 0 n (ends_message line lines) (spans n (messages lines))) start)

-- the regions of a file whose first line is this one
pub opened-regions : (bytes line : List ℕ) (lines : List (List ℕ)) → lines_of bytes ≡ line ∷ lines
    → opened 0 (length line) (is_empty_line line) lines ≡ regions bytes
opened-regions bytes line lines e = opened-spans line lines ∙ ap (λ l. spans 0 (messages l)) (sym e)

-- Lines of which none begins a message.

-- none of the lines is a postmark
abbrev pub NoMarks : List (List ℕ) → Type 0
NoMarks [] = Unit {0}
NoMarks (line ∷ lines) = (is_postmark line ≡ false) × NoMarks lines

-- the regions from a line on that stands in a message that began at `start`
abbrev pub open_at : ℕ → ℕ → List (List ℕ) → List Region
open_at start at [] = region_at start at ∷ []
open_at start at (line ∷ lines) = opened start (at + length line) (is_empty_line line) lines

and_false : (t : Bool) → (t && false) ≡ false
and_false true = refl
and_false false = refl

opened-quiet : (start at : ℕ) (empty : Bool) (quiet lines : List (List ℕ)) → NoMarks quiet
    → opened start at empty (quiet ++ lines)
    ≡ opened start (at + length (concat quiet)) (last_empty empty quiet) lines
opened-quiet start at empty [] lines none =
    let same : at ≡ at + 0 = omega arith in ap (λ n. opened start n empty lines) same
opened-quiet start at empty (line ∷ quiet) lines none =
    let stays : (empty && is_postmark line) ≡ false =
    ap (λ t. empty && t) none.0 ∙ and_false empty in
    let place : at + length line + length (concat quiet) ≡ at + length (concat (line ∷ quiet)) =
    omega (arith, length-concat line quiet) in
    ap (λ t. if t then region_at start at
    ∷ opened at (at + length line) (is_empty_line line) (quiet ++ lines)
    else opened start (at + length line) (is_empty_line line) (quiet ++ lines)) stays
    ∙ opened-quiet start (at + length line) (is_empty_line line) quiet lines none.1
    ∙ ap (λ n. opened start n (last_empty (is_empty_line line) quiet) lines) place

-- the regions from a line on, by those from a later line on
pub open_front : (start at : ℕ) (front lines : List (List ℕ)) → 0 < length front → 0 < length lines
    → NoMarks (behind_first front)
    → open_at start at (front ++ lines)
    ≡ (if last_empty false front && is_postmark (first_line lines)
    then region_at start (at + length (concat front))
    ∷ open_at (at + length (concat front)) (at + length (concat front)) lines
    else open_at start (at + length (concat front)) lines)
open_front start at [] lines some more none = absurd (omega arith)
open_front start at (line ∷ quiet) [] some more none = absurd (omega arith)
open_front start at (line ∷ quiet) (next ∷ rest) some more none =
    let place : at + length line + length (concat quiet) ≡ at + length (concat (line ∷ quiet)) =
    omega (arith, length-concat line quiet) in
    opened-quiet start (at + length line) (is_empty_line line) quiet (next ∷ rest) none
    ∙ ap (λ n. opened start n (last_empty (is_empty_line line) quiet) (next ∷ rest)) place

-- the last region
pub open_last : (start at : ℕ) (lines : List (List ℕ)) → NoMarks (behind_first lines)
    → open_at start at lines ≡ region_at start (at + length (concat lines)) ∷ []
open_last start at [] none = let same : at ≡ at + 0 =
    omega arith in ap (λ n. region_at start n ∷ []) same
open_last start at (line ∷ quiet) none =
    let place : at + length line + length (concat quiet) ≡ at + length (concat (line ∷ quiet)) =
    omega (arith, length-concat line quiet) in
    ap (opened start (at + length line) (is_empty_line line)) (sym (append-nil quiet))
    ∙ opened-quiet start (at + length line) (is_empty_line line) quiet [] none
    ∙ ap (λ n. region_at start n ∷ []) place

-- Where no line begins as a postmark.

-- what begins a postmark behind another line
abbrev pub feed_from : List ℕ
feed_from = codes "\nFrom "

-- a line behind another that begins as a postmark
occurs : (s : List ℕ) (n : ℕ) → 0 < n → n ≤ length s → slice_index s (n - 1) ≡ 10
    → take 5 (take (line_len (drop n s)) (drop n s)) ≡ codes "From "
    → OccursAt s feed_from (n - 1)
occurs s n some within feed begins = record {
  fits = omega (
    arith,
    length-drop n s,
    ap length begins,
    length-take 5 (take (line_len rest) rest),
    length-take (line_len rest) rest,
  );
  reads = λ j less. by_place j less;
}
  where
    rest : List ℕ
    rest = drop n s

    by_place : (j : ℕ) → j < 6 → slice_index s (n - 1 + j) ≡ slice_index feed_from j
    by_place zero less = let same : n - 1 + 0 ≡ n - 1 =
        omega arith in ap (slice_index s) same ∙ feed
    by_place (suc i) less =
        let line = take (line_len rest) rest in
        let place : n - 1 + suc i ≡ n + i = omega arith in
        let long : 5 ≤ line_len rest =
        omega (arith, ap length begins, length-take 5 line, length-take (line_len rest) rest) in
        ap (slice_index s) place ∙ sym (get_or-drop n s i 0)
        ∙ sym (get_or-take (line_len rest) rest i 0 (omega arith))
        ∙ sym (get_or-take 5 line i 0 (omega arith))
        ∙ ap (λ l. slice_index l i) begins

pub not_mark : (line : List ℕ) → (take 5 line ≡ codes "From " → ⊥) → is_postmark line ≡ false
unfolding postmark
not_mark line never = by_front (bytes_eq (take 5 line) (codes "From ")) refl
  where
    by_front : (t : Bool) → bytes_eq (take 5 line) (codes "From ") ≡ t → is_postmark line ≡ false
    by_front true is = absurd (never ((bytes_eq-Decides (take 5 line) (codes "From ")).0 is))
    by_front false is =
        ap (λ t. is_some (if t then stamp_behind (without_feed (drop 5 line)) else None)) is

first_marks : (rest : List ℕ) → (take 5 (take (line_len rest) rest) ≡ codes "From " → ⊥)
    → NoMarks (behind_first (lines_of rest)) → NoMarks (lines_of rest)
first_marks [] never more = subst NoMarks (sym lines-nil) tt
first_marks (b ∷ r) never more =
    let step = lines-step (b ∷ r) (omega arith) in
    subst NoMarks (sym step) (not_mark _ never, subst (λ ls. NoMarks (behind_first ls)) step more)

no_marks_by : (f : ℕ) (s : List ℕ) → length s ≤ f → ((k : ℕ) → OccursAt s feed_from k → ⊥)
    → NoMarks (behind_first (lines_of s))
no_marks_by f [] le none = subst (λ ls. NoMarks (behind_first ls)) (sym lines-nil) tt
no_marks_by zero (b ∷ r) le none = absurd (omega arith)
no_marks_by (suc f) (b ∷ r) le none =
    let s = b ∷ r in
    let n = line_len s in
    let bounds = line_len-bounds s (omega arith) in
    let step = lines-step s (omega arith) in
    let left = length-drop n s in
    let later : (k : ℕ) → OccursAt (drop n s) feed_from k → ⊥ = λ k at. none (n + k) (record {
      fits = omega (arith, at.fits);
      reads = λ j less. let place : n + k + j ≡ n + (k + j) = omega arith in
          ap (slice_index s) place ∙ sym (get_or-drop n s (k + j) 0) ∙ at.reads j less;
    }) in
    let never : take 5 (take (line_len (drop n s)) (drop n s)) ≡ codes "From " → ⊥ = λ begins.
    let more : n < length s = omega (
      arith,
      ap length begins,
      length-take 5 (take (line_len (drop n s)) (drop n s)),
      length-take (line_len (drop n s)) (drop n s),
    ) in
    none (n - 1) (occurs s n bounds.0 bounds.1 (line_ends s more) begins) in
    subst (λ ls. NoMarks (behind_first ls)) (sym step)
    (first_marks (drop n s) never (no_marks_by f (drop n s) (omega arith) later))

-- no line but the first is a postmark where a search finds none
pub no_marks : (s : List ℕ) → FindsNeedle s feed_from 0 None → NoMarks (behind_first (lines_of s))
no_marks s none =
    no_marks_by (length s) s (omega arith)
    (λ k at. none k (omega arith) (omega (arith, at.fits)) at)

-- nor where it stands behind them
pub no_marks_before : (s : List ℕ) (k : ℕ) → FindsNeedle s feed_from 0 (Some k)
    → NoMarks (behind_first (lines_of (take (k + 1) s)))
no_marks_before s k found =
    let size : length (take (k + 1) s) ≡ k + 1 =
    length-take-le (k + 1) s (omega (arith, found.1.fits)) in
    no_marks_by (k + 1) (take (k + 1) s) (omega arith)
    (λ j at. found.0.before j (omega arith) (omega (arith, at.fits))
    (record {
      fits = omega (arith, at.fits, found.1.fits);
      reads = λ i less. sym (get_or-take (k + 1) s (j + i) 0 (omega (arith, at.fits)))
          ∙ at.reads i less;
    }))

-- A step of the search.

-- the lines in front of the place and those from it on
pub found_lines : (s : List ℕ) (k : ℕ) → FindsNeedle s feed_from 0 (Some k)
    → lines_of s ≡ lines_of (take (k + 1) s) ++ lines_of (drop (k + 1) s)
found_lines s k found =
    let size : length (take (k + 1) s) ≡ k + 1 =
    length-take-le (k + 1) s (omega (arith, found.1.fits)) in
    let place : length (take (k + 1) s) - 1 ≡ k = omega arith in
    let zero_place : k + 0 ≡ k = omega arith in
    let feed : slice_index (take (k + 1) s) (length (take (k + 1) s) - 1) ≡ 10 =
    ap (slice_index (take (k + 1) s)) place ∙ get_or-take (k + 1) s k 0 (omega arith)
    ∙ ap (slice_index s) (sym zero_place) ∙ found.1.reads 0 (omega arith) in
    ap lines_of (sym (take-append-drop (k + 1) s))
    ∙ lines-append (k + 1) (take (k + 1) s) (drop (k + 1) s) (omega arith) (inr feed)

some_lines : (s : List ℕ) → 0 < length s → 0 < length (lines_of s)
some_lines s some = subst (λ ls. 0 < length ls) (sym (lines-step s some)) (omega arith)

pub found_step : (start at : ℕ) (s : List ℕ) (k : ℕ) → FindsNeedle s feed_from 0 (Some k)
    → open_at start at (lines_of s)
    ≡ (if last_empty false (lines_of (take (k + 1) s))
    && is_postmark (first_line (lines_of (drop (k + 1) s)))
    then region_at start (at + k + 1)
    ∷ open_at (at + k + 1) (at + k + 1) (lines_of (drop (k + 1) s))
    else open_at start (at + k + 1) (lines_of (drop (k + 1) s)))
found_step start at s k found =
    let front = take (k + 1) s in
    let back = drop (k + 1) s in
    let size : length front ≡ k + 1 = length-take-le (k + 1) s (omega (arith, found.1.fits)) in
    let long : length (concat (lines_of front)) ≡ k + 1 = ap length (concat-lines front) ∙ size in
    let place : at + length (concat (lines_of front)) ≡ at + k + 1 = omega arith in
    ap (open_at start at) (found_lines s k found)
    ∙ open_front start at (lines_of front) (lines_of back) (some_lines front (omega arith))
    (some_lines back (omega (arith, length-drop (k + 1) s, found.1.fits)))
    (no_marks_before s k found)
    ∙ ap (λ n. if last_empty false (lines_of front) && is_postmark (first_line (lines_of back))
    then region_at start n ∷ open_at n n (lines_of back) else open_at start n (lines_of back)) place

pub found_none : (start at : ℕ) (s : List ℕ) → FindsNeedle s feed_from 0 None
    → open_at start at (lines_of s) ≡ region_at start (at + length s) ∷ []
found_none start at s none =
    open_last start at (lines_of s) (no_marks s none)
    ∙ ap (λ n. region_at start (at + n) ∷ []) (ap length (concat-lines s))

-- the regions of a file that is not empty
pub open_regions : (bytes : List ℕ) → 0 < length bytes
    → open_at 0 0 (lines_of bytes) ≡ regions bytes
open_regions bytes some =
    let step = lines-step bytes some in
    let line = take (line_len bytes) bytes in
    let place : 0 + length line ≡ length line = omega arith in
    ap (open_at 0 0) step
    ∙ ap (λ n. opened 0 n (is_empty_line line) (lines_of (drop (line_len bytes) bytes))) place
    ∙ opened-regions bytes line (lines_of (drop (line_len bytes) bytes)) step

-- whether a file begins as a mailbox, and an empty one
pub begins_first : (bytes : List ℕ) → 0 < length bytes
    → begins_mailbox bytes ≡ is_postmark (first_line (lines_of bytes))
begins_first bytes some =
    let step = lines-step bytes some in
    ap begins_with_postmark step ∙ ap (λ ls. is_postmark (first_line ls)) (sym step)

pub begins_empty : (bytes : List ℕ) → length bytes ≡ 0 → begins_mailbox bytes ≡ true
begins_empty bytes none = ap begins_with_postmark (lines-empty bytes none)

pub regions_empty : (bytes : List ℕ) → length bytes ≡ 0 → regions bytes ≡ []
regions_empty bytes none = ap (λ ls. spans 0 (messages ls)) (lines-empty bytes none)

-- the last line of some is empty
pub last_empty-push : (empty : Bool) (lines : List (List ℕ)) (line : List ℕ)
    → last_empty empty (lines ++ line ∷ []) ≡ is_empty_line line
last_empty-push empty [] line = refl
last_empty-push empty (l ∷ lines) line = last_empty-push (is_empty_line l) lines line
