-- A message with other status fields has the same core, and the flags of these fields.
use Rattle.std.proofs.Common.{◌≡◌, ℕ, ◌+◌, ◌<◌, ◌≤◌, ◌==◌, ◌&&◌, ◌||◌, not}
use Rattle.std.proofs.Common.{Bool, true, false, List, [], ◌∷◌, ◌++◌, Option, Some, None, length}
use Rattle.std.proofs.Common.{take, drop, slice_index, refl, sym, ap, ◌∙◌, arith, length-append}
use Rattle.std.proofs.Common.{append-nil, subst, cond, ◌⊎◌, inl, inr}
use Rattle.std.proofs.Math.Bool.{and-false}
use Rattle.std.proofs.Math.Seq.{drop-append_seam, take-append_seam}
use Rattle.std.proofs.lemmas.Bool.{cases_lt, eq-eqb, le-ltb, lt-ltb, ne_eqb, or_cases}
use Rattle.std.proofs.lemmas.List.{get_or_append_left, get_or_push, take-append-le}
use Rattle.std.proofs.lemmas.List.Folds.{concat-append, position_or_len_push}
use Rattle.std.proofs.lemmas.List.Sums.{prefix_len-le-length}
use Rattle.std.proofs.lemmas.Slice.Eq.{bytes_eq-Decides}
use Rattle.std.specs.Str.{bytes_eq}
use Rattle.std.specs.List.{position_or_len}
use Rattle.mail_base.specs.Lines.{body_at, first_line}
use Rattle.mail_base.proofs.LinesLemmas.{back_lines, both_blocks}
use Rattle.mbox_text.specs.MessageCore.{kept_from}
use Rattle.mbox_text.specs.WithStatus.{block_end}
use Rattle.mbox_text.proofs.MessageLemmas.{kept_past}
use Rattle.mbox_text.proofs.FedLines.{fed_or_same, none_left, written_line}
use Rattle.std.specs.Prelude.{codes, if◌then◌else◌, is_some, nat_lt, unwrap_or}
use Rattle.std.specs.List.{concat, list_any}
use Rattle.std.specs.Str.{str_eq_ignore_ascii_case}
use Rattle.std.proofs.lemmas.Bool.{cond-false, cond-true}
use Rattle.bstr.specs.Text.{lines_of}
use Rattle.bstr.proofs.lemmas.RestLemmas.{concat-lines_of}
use Rattle.mail_base.specs.Flags.{normal, stored}
use Rattle.mail_base.specs.declared.flags.Flags.{Flags}
use Rattle.mail_base.specs.declared.kind.Kind.TheVariants.{Mbox}
use Rattle.mail_base.specs.Lines.{PlainField, after_block, behind_first, colon_at, colon_of}
use Rattle.mail_base.specs.Lines.{continuations, fields_of, header_block, is_continuation}
use Rattle.mail_base.specs.Lines.{is_empty_line, is_field, is_name_byte, name_of, unfolded}
use Rattle.folder_core.specs.Mbox.{core, holds, is_status_name, kept_lines, status}
use Rattle.folder_core.specs.Mbox.{told_flags, with_feed, without_separator, without_status}
use Rattle.mbox_text.specs.WithStatus.{kept_text, status_lines, with_fields, with_status}
use Rattle.mbox_text.proofs.FedLines.{AreEnded, AreLines, are_lines, ended_after, ended_block}
use Rattle.mbox_text.proofs.FedLines.{ended_both, fed, fed_bytes, fed_ended, fed_none, lines_ended}
use Rattle.mbox_text.proofs.FedLines.{with_twice}

true_false : ◌≡◌ {A = Bool} true false → ⊥
true_false e = cc

-- Lines that stay.

-- the line begins a status field
pub is_status_field : List ℕ → Bool
is_status_field line = is_field line && is_status_name (name_of line)

-- no line begins one
pub AreKept : List (List ℕ) → Type 0
AreKept [] = Unit {0}
AreKept (line ∷ lines) = (is_status_field line ≡ false) × AreKept lines

-- a step of what is left of a block
step_on : (dropped : Bool) (line : List ℕ) (lines : List (List ℕ)) (field name more : Bool)
    → is_field line ≡ field → is_status_name (name_of line) ≡ name → is_continuation line ≡ more
    → without_status dropped (line ∷ lines)
    ≡ (if field then (if name then without_status true lines else line ∷ without_status false lines)
    else (if more && dropped then without_status dropped lines
    else line ∷ without_status dropped lines))
step_on dropped line lines field name more e1 e2 e3 = rw e1 (rw e2 (rw e3 refl))

-- lines that stay, and what follows them
keeps_line : (line : List ℕ) (lines : List (List ℕ)) → is_status_field line ≡ false
    → without_status false (line ∷ lines) ≡ line ∷ without_status false lines
unfolding is_status_field
keeps_line line lines kept =
    by_line (is_field line) (is_status_name (name_of line)) (is_continuation line) refl refl refl
  where
    by_line : (field name again : Bool) → is_field line ≡ field
        → is_status_name (name_of line) ≡ name → is_continuation line ≡ again
        → without_status false (line ∷ lines) ≡ line ∷ without_status false lines
    by_line true true again e1 e2 e3 =
        absurd (true_false (sym e2 ∙ ap (λ t. t && is_status_name (name_of line)) (sym e1) ∙ kept))
    by_line true false again e1 e2 e3 = step_on false line lines true false again e1 e2 e3
    by_line false name true e1 e2 e3 = step_on false line lines false name true e1 e2 e3
    by_line false name false e1 e2 e3 = step_on false line lines false name false e1 e2 e3

keeps_all : (lines more : List (List ℕ)) → AreKept lines
    → without_status false (lines ++ more) ≡ lines ++ without_status false more
unfolding AreKept
keeps_all [] more kept = refl
keeps_all (line ∷ lines) more kept =
    keeps_line line (lines ++ more) kept.0 ∙ ap (λ ls. line ∷ ls) (keeps_all lines more kept.1)

-- what is left of a block has none
left_by : (dropped : Bool) (line : List ℕ) (lines : List (List ℕ))
    → ((d : Bool) → AreKept (without_status d lines))
    → AreKept (without_status dropped (line ∷ lines))
unfolding AreKept is_status_field
left_by dropped line lines more =
    by_line (is_field line) (is_status_name (name_of line)) (is_continuation line) refl refl refl
  where
    by_more : (t : Bool) → is_field line ≡ false → AreKept (if t then without_status dropped lines
        else line ∷ without_status dropped lines)
    by_more true e = more dropped
    by_more false e = (ap (λ t. t && is_status_name (name_of line)) e, more dropped)

    by_line : (field name again : Bool) → is_field line ≡ field
        → is_status_name (name_of line) ≡ name → is_continuation line ≡ again
        → AreKept (without_status dropped (line ∷ lines))
    by_line true true again e1 e2 e3 =
        subst AreKept (sym (step_on dropped line lines true true again e1 e2 e3)) (more true)
    by_line true false again e1 e2 e3 =
        subst AreKept (sym (step_on dropped line lines true false again e1 e2 e3))
        (ap (λ t. t && is_status_name (name_of line)) e1 ∙ e2, more false)
    by_line false name again e1 e2 e3 =
        subst AreKept (sym (step_on dropped line lines false name again e1 e2 e3))
        (by_more (again && dropped) e1)

left_are_kept : (lines : List (List ℕ)) (dropped : Bool) → AreKept (without_status dropped lines)
unfolding AreKept
left_are_kept [] dropped = tt
left_are_kept (line ∷ lines) dropped = left_by dropped line lines (left_are_kept lines)

-- A line that gets an LF.

no_name_byte : ℕ → Bool
no_name_byte b = not (is_name_byte b)

-- the place of a colon does not hang on an LF at the end
colon_fed : (line : List ℕ) → colon_of (line ++ 10 ∷ []) ≡ colon_of line
unfolding no_name_byte
colon_fed line = by_place (cases_lt n (length line))
  where
    n : ℕ
    n = position_or_len no_name_byte line

    push : position_or_len no_name_byte (line ++ 10 ∷ [])
        ≡ cond (n == length line) (length line + 0) n
    push = position_or_len_push no_name_byte line 10

    short : n ≤ length line
    short = prefix_len-le-length (λ b. not (no_name_byte b)) line

    long : length (line ++ 10 ∷ []) ≡ length line + 1
    long = length-append line (10 ∷ [])

    by_place : ((n < length line) ⊎ (length line ≤ n)) → colon_of (line ++ 10 ∷ []) ≡ colon_of line
    by_place (inl found) =
        let other : (n == length line) ≡ false =
        ne_eqb n (length line) (λ e. omega (arith, e, found)) in
        let same : position_or_len no_name_byte (line ++ 10 ∷ []) ≡ n =
        push ∙ cond-false _ _ _ other in
        ap (λ k. colon_at (line ++ 10 ∷ [])
        (cond (nat_lt k (length (line ++ 10 ∷ []))) (Some k) None)) same
        ∙ ap (λ t. colon_at (line ++ 10 ∷ []) (cond t (Some n) None))
        (lt-ltb n (length (line ++ 10 ∷ [])) (omega (arith, found, long)))
        ∙ ap (λ b. if nat_lt 0 n && b == 58 then Some n else None)
        (get_or_append_left line (10 ∷ []) 0 n found)
        ∙ ap (λ t. colon_at line (cond t (Some n) None)) (sym (lt-ltb n (length line) found))
    by_place (inr past) =
        let is : n ≡ length line = omega (arith, past, short) in
        let same : position_or_len no_name_byte (line ++ 10 ∷ []) ≡ length line =
        push ∙ cond-true _ _ _ (eq-eqb n (length line) is) ∙ omega arith in
        ap (λ k. colon_at (line ++ 10 ∷ [])
        (cond (nat_lt k (length (line ++ 10 ∷ []))) (Some k) None)) same
        ∙ ap (λ t. colon_at (line ++ 10 ∷ []) (cond t (Some (length line)) None))
        (lt-ltb (length line) (length (line ++ 10 ∷ [])) (omega (arith, long)))
        ∙ ap (λ b. if nat_lt 0 (length line) && b == 58 then Some (length line) else None)
        (get_or_push line 10 0 (length line) refl)
        ∙ ap (λ t. if t then Some (length line) else None) (and-false (nat_lt 0 (length line)))
        ∙ ap (λ t. colon_at line (cond t (Some n) None))
        (sym (le-ltb n (length line) past))

colon_within : (line : List ℕ) (k : ℕ) → colon_of line ≡ Some k → k ≤ length line
unfolding no_name_byte
colon_within line k e = by_place (nat_lt n (length line)) refl e
  where
    n : ℕ
    n = position_or_len no_name_byte line

    by_colon : (t : Bool) → n ≤ length line → (if t then Some n else None) ≡ Some k
        → k ≤ length line
    by_colon true less e = let same : n ≡ k = cc in subst (λ m. m ≤ length line) same less
    by_colon false less e = cc

    by_place : (t : Bool) → nat_lt n (length line) ≡ t → colon_of line ≡ Some k → k ≤ length line
    by_place true is e =
        by_colon (nat_lt 0 n && slice_index line n == 58)
        (prefix_len-le-length (λ b. not (no_name_byte b)) line)
        (sym (ap (λ t. colon_at line (cond t (Some n) None)) is) ∙ e)
    by_place false is e = cc

-- so it begins no status field where it did not before
plain_fed : (line : List ℕ) → is_status_field line ≡ false
    → is_status_field (with_feed line) ≡ false
unfolding is_status_field
plain_fed line plain = by_feed (fed_or_same line)
  where
    by_colon : (o : Option ℕ) → colon_of line ≡ o → is_status_field (line ++ 10 ∷ []) ≡ false
    by_colon None e =
        ap (λ o. is_some o && is_status_name (take (unwrap_or o 0) (line ++ 10 ∷ [])))
        (colon_fed line ∙ e)
    by_colon (Some k) e =
        ap (λ o. is_some o && is_status_name (take (unwrap_or o 0) (line ++ 10 ∷ [])))
        (colon_fed line ∙ e)
        ∙ ap is_status_name (take-append-le k line (10 ∷ []) (colon_within line k e))
        ∙ ap (λ o. is_some o && is_status_name (take (unwrap_or o 0) line)) (sym e) ∙ plain

    by_feed : ((with_feed line ≡ line) ⊎ (with_feed line ≡ line ++ 10 ∷ []))
        → is_status_field (with_feed line) ≡ false
    by_feed (inl same) = ap is_status_field same ∙ plain
    by_feed (inr more) = ap is_status_field more ∙ by_colon (colon_of line) refl

-- The lines of a message that stay, each but the last with its LF.

-- a step of what is left of a message
pub record Step (dropped : Bool) (line : List ℕ) (lines : List (List ℕ)) : Type 0 where
  pub next : Bool
  pub stays : Bool
  pub is : kept_from dropped (line ∷ lines)
      ≡ (if stays then line ∷ kept_from next lines else kept_from next lines)
  pub plain : stays ≡ true → is_status_field line ≡ false

pub step_from : (dropped : Bool) (line : List ℕ) (lines : List (List ℕ)) → is_empty_line line ≡ false
    → Step dropped line lines
unfolding is_status_field
step_from dropped line lines some =
    by_line (is_field line) (is_status_name (name_of line)) (is_continuation line) refl refl refl
  where
    block : List (List ℕ)
    block = header_block lines

    past : (next stays : Bool)
        → without_status dropped (line ∷ block)
        ≡ (if stays then line ∷ without_status next block else without_status next block)
        → kept_from dropped (line ∷ lines)
        ≡ (if stays then line ∷ kept_from next lines else kept_from next lines)
    past next stays e = kept_past dropped next stays line lines (line ∷ lines) refl some e

    by_more : (t : Bool) → is_field line ≡ false
        → without_status dropped (line ∷ block)
        ≡ (if t then without_status dropped block else line ∷ without_status dropped block)
        → Step dropped line lines
    by_more true e is = record {
      next = dropped;
      stays = false;
      is = past dropped false is;
      plain = λ never. absurd (true_false (sym never));
    }
    by_more false e is = record {
      next = dropped;
      stays = true;
      is = past dropped true is;
      plain = λ stays. ap (λ t. t && is_status_name (name_of line)) e;
    }

    by_line : (field name again : Bool) → is_field line ≡ field
        → is_status_name (name_of line) ≡ name → is_continuation line ≡ again
        → Step dropped line lines
    by_line true true again e1 e2 e3 = record {
      next = true;
      stays = false;
      is = past true false (step_on dropped line block true true again e1 e2 e3);
      plain = λ never. absurd (true_false (sym never));
    }
    by_line true false again e1 e2 e3 = record {
      next = false;
      stays = true;
      is = past false true (step_on dropped line block true false again e1 e2 e3);
      plain = λ stays. ap (λ t. t && is_status_name (name_of line)) e1 ∙ e2;
    }
    by_line false name again e1 e2 e3 =
        by_more (again && dropped) e1 (step_on dropped line block false name again e1 e2 e3)

-- an empty line ends the block, and all behind it stays
pub from_empty : (dropped : Bool) (line : List ℕ) (lines : List (List ℕ)) → is_empty_line line ≡ true
    → kept_from dropped (line ∷ lines) ≡ line ∷ lines
from_empty dropped line lines empty =
    ap (λ t. without_status dropped (if t then [] else line ∷ header_block lines)
    ++ (if t then line ∷ lines else after_block lines)) empty

-- they are such lines, and no more than there were
abbrev pub AreLeft : List (List ℕ) → List (List ℕ) → Type 0
AreLeft left lines = AreLines left × (length left ≤ length lines)

left_on : (line : List ℕ) (left lines : List (List ℕ)) → AreLines (line ∷ lines)
    → AreLeft left lines → (stays : Bool)
    → AreLeft (if stays then line ∷ left else left) (line ∷ lines)
left_on line left lines are less true =
    ((are.0, (λ more. are.1 (omega (arith, more, less.1))), less.0), omega (arith, less.1))
left_on line left lines are less false = (less.0, omega (arith, less.1))

pub left_lines : (lines : List (List ℕ)) (dropped : Bool) → AreLines lines
    → AreLeft (kept_from dropped lines) lines
left_lines [] dropped are = (tt, omega arith)
left_lines (line ∷ lines) dropped are =
    by_line (is_empty_line line) refl (λ d. left_lines lines d are.2)
  where
    by_line : (empty : Bool) → is_empty_line line ≡ empty
        → ((d : Bool) → AreLeft (kept_from d lines) lines)
        → AreLeft (kept_from dropped (line ∷ lines)) (line ∷ lines)
    by_line true e more =
        subst (λ ls. AreLeft ls (line ∷ lines)) (sym (from_empty dropped line lines e))
        (are, omega arith)
    by_line false e more =
        let step = step_from dropped line lines e in
        subst (λ ls. AreLeft ls (line ∷ lines)) (sym step.is)
        (left_on line (kept_from step.next lines) lines are (more step.next) step.stays)

-- the block of what stays, with an LF at its end, has no status field
block_on : (line : List ℕ) (left : List (List ℕ)) → is_status_field line ≡ false
    → AreKept (header_block (fed left)) → AreKept (header_block (fed (line ∷ left)))
unfolding AreKept
block_on line [] plain more = by_line (is_empty_line (with_feed line))
  where
    by_line : (empty : Bool) → AreKept (if empty then [] else with_feed line ∷ [])
    by_line true = tt
    by_line false = (plain_fed line plain, tt)
block_on line (next ∷ left) plain more = by_line (is_empty_line line)
  where
    by_line : (empty : Bool)
        → AreKept (if empty then [] else line ∷ header_block (fed (next ∷ left)))
    by_line true = tt
    by_line false = (plain, more)

pub empty_fed : (line : List ℕ) → is_empty_line line ≡ true → is_empty_line (with_feed line) ≡ true
empty_fed line empty = by_line (or_cases _ _ empty)
  where
    by_line : (bytes_eq line (codes "\n") ≡ true) ⊎ (bytes_eq line (codes "\r\n") ≡ true)
        → is_empty_line (with_feed line) ≡ true
    by_line (inl is) =
        ap (λ l. is_empty_line (with_feed l)) ((bytes_eq-Decides line (codes "\n")).0 is)
    by_line (inr is) =
        ap (λ l. is_empty_line (with_feed l)) ((bytes_eq-Decides line (codes "\r\n")).0 is)

block_none : (line : List ℕ) (lines : List (List ℕ)) → is_empty_line line ≡ true
    → AreKept (header_block (fed (line ∷ lines)))
unfolding AreKept
block_none line [] empty =
    subst AreKept (sym (ap (λ t. if t then [] else with_feed line ∷ []) (empty_fed line empty))) tt
block_none line (next ∷ lines) empty =
    subst AreKept (sym (ap (λ t. if t then [] else line ∷ header_block (fed (next ∷ lines))) empty))
    tt

left_block : (lines : List (List ℕ)) (dropped : Bool)
    → AreKept (header_block (fed (kept_from dropped lines)))
unfolding AreKept
left_block [] dropped = tt
left_block (line ∷ lines) dropped =
    by_line (is_empty_line line) refl (left_block lines)
  where
    by_stays : (next stays : Bool) → (stays ≡ true → is_status_field line ≡ false)
        → AreKept (header_block (fed (kept_from next lines)))
        → AreKept (header_block (fed (if stays then line ∷ kept_from next lines
        else kept_from next lines)))
    by_stays next true plain more = block_on line (kept_from next lines) (plain refl) more
    by_stays next false plain more = more

    by_line : (empty : Bool) → is_empty_line line ≡ empty
        → ((d : Bool) → AreKept (header_block (fed (kept_from d lines))))
        → AreKept (header_block (fed (kept_from dropped (line ∷ lines))))
    by_line true e more =
        subst (λ ls. AreKept (header_block (fed ls))) (sym (from_empty dropped line lines e))
        (block_none line lines e)
    by_line false e more =
        let step = step_from dropped line lines e in
        subst (λ ls. AreKept (header_block (fed ls))) (sym step.is)
        (by_stays step.next step.stays step.plain (more step.next))

-- The status fields.

-- the lines of the status fields by the four flags
unfoldable pub status_of : Bool → Bool → Bool → Bool → List (List ℕ)
status_of seen aged replied flagged =
    (if seen then codes "Status: RO\n" ∷ [] else (if aged then codes "Status: O\n" ∷ [] else []))
    ++ (if replied
    then (if flagged then codes "X-Status: AF\n" ∷ [] else codes "X-Status: A\n" ∷ [])
    else (if flagged then codes "X-Status: F\n" ∷ [] else []))

-- What they are among other lines, and what they tell.
pub record IsStatus (seen aged replied flagged : Bool) (more : List (List ℕ)) : Type 0 where
  pub ended : AreEnded more
  pub goes : without_status false more ≡ []
  pub block : (lines : List (List ℕ)) → header_block (more ++ lines) ≡ more ++ header_block lines
  pub after : (lines : List (List ℕ)) → after_block (more ++ lines) ≡ after_block lines
  pub tells : told_flags (fields_of more) ≡ record {
    seen = seen;
    aged = seen || aged;
    replied = replied;
    flagged = flagged;
    passed = false;
    draft = false;
    trashed = false;
  }

ended_status : AreEnded (codes "Status: RO\n" ∷ [])
ended_status = let w = written_line (codes "Status: RO") refl in (w.0, w.1, tt)

ended_old : AreEnded (codes "Status: O\n" ∷ [])
ended_old = let w = written_line (codes "Status: O") refl in (w.0, w.1, tt)

ended_x : (replied flagged : Bool) → AreEnded (status_of false false replied flagged)
unfolding status_of
ended_x true true = let w = written_line (codes "X-Status: AF") refl in (w.0, w.1, tt)
ended_x true false = let w = written_line (codes "X-Status: A") refl in (w.0, w.1, tt)
ended_x false true = let w = written_line (codes "X-Status: F") refl in (w.0, w.1, tt)
ended_x false false = tt

ended_of : (seen aged replied flagged : Bool) → AreEnded (status_of seen aged replied flagged)
unfolding status_of
ended_of true aged replied flagged =
    ended_both (codes "Status: RO\n" ∷ []) (status_of false false replied flagged)
    ended_status (ended_x replied flagged)
ended_of false true replied flagged =
    ended_both (codes "Status: O\n" ∷ []) (status_of false false replied flagged)
    ended_old (ended_x replied flagged)
ended_of false false replied flagged = ended_x replied flagged

status_is : (seen aged replied flagged : Bool)
    → IsStatus seen aged replied flagged (status_of seen aged replied flagged)
unfolding status_of
status_is seen aged replied flagged = record {
  ended = ended_of seen aged replied flagged;
  goes = goes seen aged replied flagged;
  block = block seen aged replied flagged;
  after = after seen aged replied flagged;
  tells = tells seen aged replied flagged;
}
  where
    goes : (a b c d : Bool) → without_status false (status_of a b c d) ≡ []
    goes true b true true = refl
    goes true b true false = refl
    goes true b false true = refl
    goes true b false false = refl
    goes false true true true = refl
    goes false true true false = refl
    goes false true false true = refl
    goes false true false false = refl
    goes false false true true = refl
    goes false false true false = refl
    goes false false false true = refl
    goes false false false false = refl

    block : (a b c d : Bool) (lines : List (List ℕ))
        → header_block (status_of a b c d ++ lines) ≡ status_of a b c d ++ header_block lines
    block true b true true lines = refl
    block true b true false lines = refl
    block true b false true lines = refl
    block true b false false lines = refl
    block false true true true lines = refl
    block false true true false lines = refl
    block false true false true lines = refl
    block false true false false lines = refl
    block false false true true lines = refl
    block false false true false lines = refl
    block false false false true lines = refl
    block false false false false lines = refl

    after : (a b c d : Bool) (lines : List (List ℕ))
        → after_block (status_of a b c d ++ lines) ≡ after_block lines
    after true b true true lines = refl
    after true b true false lines = refl
    after true b false true lines = refl
    after true b false false lines = refl
    after false true true true lines = refl
    after false true true false lines = refl
    after false true false true lines = refl
    after false true false false lines = refl
    after false false true true lines = refl
    after false false true false lines = refl
    after false false false true lines = refl
    after false false false false lines = refl

    tells : (a b c d : Bool) → told_flags (fields_of (status_of a b c d)) ≡ record {
      seen = a;
      aged = a || b;
      replied = c;
      flagged = d;
      passed = false;
      draft = false;
      trashed = false;
    }
    tells true b true true = refl
    tells true b true false = refl
    tells true b false true = refl
    tells true b false false = refl
    tells false true true true = refl
    tells false true true false = refl
    tells false true false true = refl
    tells false true false false = refl
    tells false false true true = refl
    tells false false true false = refl
    tells false false false true = refl
    tells false false false false = refl

-- of the fields of lines the status fields alone tell flags
holds_on : (letter : ℕ) (line : List ℕ) (lines : List (List ℕ)) (name : List ℕ)
    → (is_field line ≡ true → str_eq_ignore_ascii_case (name_of line) name ≡ false)
    → holds name letter (fields_of (line ∷ lines)) ≡ holds name letter (fields_of lines)
holds_on letter line lines name other = by_field (is_field line) refl
  where
    field : PlainField
    field = record { name = name_of line; value = unfolded line (continuations lines) }

    by_field : (t : Bool) → is_field line ≡ t
        → holds name letter (fields_of (line ∷ lines)) ≡ holds name letter (fields_of lines)
    by_field true e =
        ap (λ t. holds name letter (if t then field ∷ fields_of lines else fields_of lines)) e
        ∙ ap (λ t. (t && list_any (λ b. b == letter) field.value)
        || holds name letter (fields_of lines)) (other e)
    by_field false e =
        ap (λ t. holds name letter (if t then field ∷ fields_of lines else fields_of lines)) e

or_left : (a b : Bool) → (a || b) ≡ false → a ≡ false
or_left true b e = e
or_left false b e = refl

or_right : (a b : Bool) → (a || b) ≡ false → b ≡ false
or_right true b e = absurd (true_false e)
or_right false b e = e

status_other : (line : List ℕ) → is_status_field line ≡ false → is_field line ≡ true
    → is_status_name (name_of line) ≡ false
unfolding is_status_field
status_other line plain e = ap (λ t. t && is_status_name (name_of line)) (sym e) ∙ plain

holds_status : (letter : ℕ) (lines more : List (List ℕ)) → AreKept lines
    → holds (codes "Status") letter (fields_of (lines ++ more))
    ≡ holds (codes "Status") letter (fields_of more)
unfolding AreKept
holds_status letter [] more kept = refl
holds_status letter (line ∷ lines) more kept =
    holds_on letter line (lines ++ more) (codes "Status")
    (λ e. or_left _ _ (status_other line kept.0 e))
    ∙ holds_status letter lines more kept.1

holds_x_status : (letter : ℕ) (lines more : List (List ℕ)) → AreKept lines
    → holds (codes "X-Status") letter (fields_of (lines ++ more))
    ≡ holds (codes "X-Status") letter (fields_of more)
unfolding AreKept
holds_x_status letter [] more kept = refl
holds_x_status letter (line ∷ lines) more kept =
    holds_on letter line (lines ++ more) (codes "X-Status")
    (λ e. or_right _ _ (status_other line kept.0 e))
    ∙ holds_x_status letter lines more kept.1

told_behind : (lines more : List (List ℕ)) → AreKept lines
    → told_flags (fields_of (lines ++ more)) ≡ told_flags (fields_of more)
told_behind lines more kept =
    let e82 = holds_status 82 lines more kept in
    let e79 = holds_status 79 lines more kept in
    let e65 = holds_x_status 65 lines more kept in
    let e70 = holds_x_status 70 lines more kept in
    cc

-- The message with them.

block_again : (lines : List (List ℕ)) (more : List (List ℕ))
    → header_block (header_block lines ++ more) ≡ header_block lines ++ header_block more
block_again [] more = refl
block_again (line ∷ lines) more = by_line (is_empty_line line) refl (block_again lines more)
  where
    by_line : (t : Bool) → is_empty_line line ≡ t
        → header_block (header_block lines ++ more) ≡ header_block lines ++ header_block more
        → header_block ((if t then [] else line ∷ header_block lines) ++ more)
        ≡ (if t then [] else line ∷ header_block lines) ++ header_block more
    by_line true e same = refl
    by_line false e same =
        ap (λ t. if t then [] else line ∷ header_block (header_block lines ++ more)) e
        ∙ ap (λ ls. line ∷ ls) same

after_again : (lines : List (List ℕ)) (more : List (List ℕ))
    → after_block (header_block lines ++ more) ≡ after_block more
after_again [] more = refl
after_again (line ∷ lines) more = by_line (is_empty_line line) refl (after_again lines more)
  where
    by_line : (t : Bool) → is_empty_line line ≡ t
        → after_block (header_block lines ++ more) ≡ after_block more
        → after_block ((if t then [] else line ∷ header_block lines) ++ more) ≡ after_block more
    by_line true e same = refl
    by_line false e same =
        ap (λ t. if t then line ∷ header_block lines ++ more
        else after_block (header_block lines ++ more)) e ∙ same

after_none : (lines : List (List ℕ)) → header_block (after_block lines) ≡ []
after_none [] = refl
after_none (line ∷ lines) = by_line (is_empty_line line) refl (after_none lines)
  where
    by_line : (t : Bool) → is_empty_line line ≡ t → header_block (after_block lines) ≡ []
        → header_block (if t then line ∷ lines else after_block lines) ≡ []
    by_line true e same = ap (λ t. if t then [] else line ∷ header_block lines) e
    by_line false e same = same

after_same : (lines : List (List ℕ)) → after_block (after_block lines) ≡ after_block lines
after_same [] = refl
after_same (line ∷ lines) = by_line (is_empty_line line) refl (after_same lines)
  where
    by_line : (t : Bool) → is_empty_line line ≡ t
        → after_block (after_block lines) ≡ after_block lines
        → after_block (if t then line ∷ lines else after_block lines)
        ≡ (if t then line ∷ lines else after_block lines)
    by_line true e same = ap (λ t. if t then line ∷ lines else after_block lines) e
    by_line false e same = same

last_fed : (lines : List (List ℕ)) → without_separator (fed lines) ≡ without_separator lines
last_fed [] = refl
last_fed (line ∷ []) = ap (λ l. if is_empty_line l then [] else l ∷ []) (with_twice line)
last_fed (line ∷ next ∷ []) = ap (λ ls. line ∷ ls) (last_fed (next ∷ []))
last_fed (line ∷ next ∷ third ∷ lines) = ap (λ ls. line ∷ ls) (last_fed (next ∷ third ∷ lines))

-- The lines of what stays of a message, each with its LF: none in the block is of a status field.
pub record Ready (region : List ℕ) : Type 0 where
  pub first : List ℕ
  pub rest : List (List ℕ)
  pub is : lines_of (kept_text region) ≡ first ∷ rest
  pub ended : AreEnded (first ∷ rest)
  pub kept : AreKept (header_block rest)
  pub same : concat (without_separator (first ∷ rest)) ≡ core region

pub ready : (region : List ℕ) → Ready region
unfolding core AreKept
ready region = by_lines (lines_of region) refl
  where
    by_rest : (first : List ℕ) (left : List (List ℕ)) → kept_lines (lines_of region) ≡ first ∷ left
        → AreLines (first ∷ left) → AreKept (header_block (fed left)) → Ready region
    by_rest first [] is are kept = record {
      first = with_feed first;
      rest = [];
      is = ap (λ ls. lines_of (with_feed (concat ls))) is
          ∙ ap lines_of (fed_bytes first [] are) ∙ lines_ended _ (fed_ended (first ∷ []) are);
      ended = fed_ended (first ∷ []) are;
      kept = tt;
      same = ap concat (last_fed (first ∷ []))
          ∙ ap (λ ls. concat (without_separator ls)) (sym is);
    }
    by_rest first (next ∷ left) is are kept = record {
      first = first;
      rest = fed (next ∷ left);
      is = ap (λ ls. lines_of (with_feed (concat ls))) is
          ∙ ap lines_of (fed_bytes first (next ∷ left) are)
          ∙ lines_ended _ (fed_ended (first ∷ next ∷ left) are);
      ended = fed_ended (first ∷ next ∷ left) are;
      kept = kept;
      same = ap concat (last_fed (first ∷ next ∷ left))
          ∙ ap (λ ls. concat (without_separator ls)) (sym is);
    }

    by_lines : (lines : List (List ℕ)) → lines_of region ≡ lines → Ready region
    by_lines [] e = record {
      first = 10 ∷ [];
      rest = [];
      is = ap (λ ls. lines_of (with_feed (concat (kept_lines ls)))) e ∙ fed_none;
      ended = fed_ended ((10 ∷ []) ∷ []) (none_left, (λ more. inr refl), tt);
      kept = tt;
      same = sym (ap (λ ls. concat (without_separator (kept_lines ls))) e);
    }
    by_lines (line ∷ lines) e =
        let are : AreLines (line ∷ lines) =
        subst AreLines e (are_lines (length region) region (omega arith)) in
        let left = left_lines lines false are.2 in
        by_rest line (kept_from false lines) (ap kept_lines e)
        (are.0, (λ more. are.1 (omega (arith, more, left.1))), left.0)
        (left_block lines false)

-- a message of these lines with status fields
pub lines_with : (flags : Flags) (region : List ℕ) (r : Ready region)
    → IsStatus flags.seen flags.aged flags.replied flags.flagged (status_lines flags)
    → lines_of (with_status flags region)
    ≡ r.first ∷ (header_block r.rest ++ (status_lines flags ++ after_block r.rest))
unfolding with_status
lines_with flags region r s =
    ap (λ ls. lines_of (concat (with_fields (status_lines flags) ls))) r.is
    ∙ lines_ended (r.first ∷ (header_block r.rest ++ (status_lines flags ++ after_block r.rest))) (
      r.ended.0,
      r.ended.1,
      ended_both (header_block r.rest) _ (ended_block r.rest r.ended.2)
          (ended_both (status_lines flags) _ s.ended (ended_after r.rest r.ended.2)),
    )

block_with : (flags : Flags) (rest : List (List ℕ))
    → IsStatus flags.seen flags.aged flags.replied flags.flagged (status_lines flags)
    → header_block (header_block rest ++ (status_lines flags ++ after_block rest))
    ≡ header_block rest ++ status_lines flags
block_with flags rest s =
    block_again rest (status_lines flags ++ after_block rest)
    ∙ ap (λ ls. header_block rest ++ ls) (s.block (after_block rest)
    ∙ ap (λ ls. status_lines flags ++ ls) (after_none rest) ∙ append-nil (status_lines flags))

pub flags_status : (flags : Flags)
    → IsStatus flags.seen flags.aged flags.replied flags.flagged (status_lines flags)
unfolding status_of
flags_status flags = status_is flags.seen flags.aged flags.replied flags.flagged

-- it has the same core
pub core_with : (flags : Flags) (region : List ℕ) → core (with_status flags region) ≡ core region
unfolding core
core_with flags region =
    let r = ready region in
    let s = flags_status flags in
    let block = header_block r.rest in
    let after = after_block r.rest in
    ap (λ ls. concat (without_separator (kept_lines ls))) (lines_with flags region r s)
    ∙ ap (λ ls. concat (without_separator (r.first ∷ (without_status false ls
    ++ after_block (block ++ (status_lines flags ++ after)))))) (block_with flags r.rest s)
    ∙ ap (λ ls. concat (without_separator (r.first ∷ (ls
    ++ after_block (block ++ (status_lines flags ++ after))))))
    (keeps_all block (status_lines flags) r.kept ∙ ap (λ ls. block ++ ls) s.goes
    ∙ append-nil block)
    ∙ ap (λ ls. concat (without_separator (r.first ∷ (block ++ ls))))
    (after_again r.rest (status_lines flags ++ after) ∙ s.after after ∙ after_same r.rest)
    ∙ ap (λ ls. concat (without_separator (r.first ∷ ls))) (sym (both_blocks r.rest))
    ∙ r.same

-- the flags as a mailbox in one file stores them
told_stored : (flags : Flags) (told : Flags) → told ≡ record {
  seen = flags.seen;
  aged = flags.seen || flags.aged;
  replied = flags.replied;
  flagged = flags.flagged;
  passed = false;
  draft = false;
  trashed = false;
}
    → normal told ≡ stored Mbox flags
told_stored flags told e = ap normal e ∙ by_flags flags.seen flags.aged
  where
    by_flags : (a b : Bool) → normal (record {
      seen = a;
      aged = a || b;
      replied = flags.replied;
      flagged = flags.flagged;
      passed = false;
      draft = false;
      trashed = false;
    })
        ≡ stored Mbox (record flags { seen = a; aged = b })
    by_flags true true = refl
    by_flags true false = refl
    by_flags false true = refl
    by_flags false false = refl

-- and it tells these flags
pub status_with : (flags : Flags) (region : List ℕ)
    → status (with_status flags region) ≡ stored Mbox flags
unfolding status
status_with flags region =
    let r = ready region in
    let s = flags_status flags in
    ap (λ ls. normal (told_flags (fields_of (header_block (behind_first ls)))))
    (lines_with flags region r s)
    ∙ ap (λ ls. normal (told_flags (fields_of ls))) (block_with flags r.rest s)
    ∙ told_stored flags _ (told_behind (header_block r.rest) (status_lines flags) r.kept ∙ s.tells)

-- what a message with status fields is made of
pub bytes_with : (flags : Flags) (region text : List ℕ) (end : ℕ) → text ≡ kept_text region
    → end ≡ block_end text
    → take end text ++ (concat (status_lines flags) ++ drop end text) ≡ with_status flags region
unfolding with_status
bytes_with flags region text end is at =
    let r = ready region in
    let block = r.first ∷ header_block r.rest in
    let after = after_block r.rest in
    let lines : lines_of text ≡ r.first ∷ r.rest = ap lines_of is ∙ r.is in
    let whole : text ≡ concat block ++ concat after =
    sym (concat-lines_of text) ∙ ap concat lines
    ∙ ap (λ ls. concat (r.first ∷ ls)) (both_blocks r.rest) ∙ concat-append block after in
    let first : length (first_line (lines_of text)) ≡ length r.first =
    ap (λ ls. length (first_line ls)) lines in
    let behind : lines_of (drop (length (first_line (lines_of text))) text) ≡ r.rest =
    ap (λ n. lines_of (drop n text)) (first ∙ sym (ap length (append-nil r.first)))
    ∙ back_lines text (r.first ∷ []) r.rest lines in
    let long : end ≡ length (concat block) =
    at ∙ ap (λ n. n + body_at (drop (length (first_line (lines_of text))) text)) first
    ∙ ap (λ ls. length r.first + length (concat (header_block ls))) behind
    ∙ sym (length-append r.first (concat (header_block r.rest))) in
    ap (λ t. take end t ++ (concat (status_lines flags) ++ drop end t)) whole
    ∙ ap (λ n. take n (concat block ++ concat after)
    ++ (concat (status_lines flags) ++ drop n (concat block ++ concat after))) long
    ∙ ap (λ l. l ++ (concat (status_lines flags)
    ++ drop (length (concat block)) (concat block ++ concat after)))
    (take-append_seam (concat block) (concat after))
    ∙ ap (λ l. concat block ++ (concat (status_lines flags) ++ l))
    (drop-append_seam (concat block) (concat after))
    ∙ ap (λ l. concat block ++ l) (sym (concat-append (status_lines flags) after))
    ∙ sym (concat-append block (status_lines flags ++ after))
    ∙ sym (ap (λ ls. concat (with_fields (status_lines flags) ls)) r.is)
