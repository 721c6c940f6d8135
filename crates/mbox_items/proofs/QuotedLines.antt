-- Quoted lines end in LF, and none of them begins a message.
use Rattle.std.proofs.Math.Bool.{and-false}
use Rattle.std.proofs.Common.{◌≡◌, ◌≢◌, ◌∙◌, sym, ap, refl, arith, ℕ, zero, suc, ◌+◌, ◌<◌, ◌&&◌}
use Rattle.std.proofs.Common.{Bool, true, false, List, [], ◌∷◌, ◌++◌, length}
use Rattle.std.proofs.Common.{subst, slice_index}
use Rattle.bstr.proofs.lemmas.LineLemmas.{EndsLine}
use Rattle.mail_base.specs.Lines.{is_empty_line}
use Rattle.mail_base.proofs.LinesLemmas.{IsLine}
use Rattle.folder_core.specs.Mbox.{is_postmark}
use Rattle.folder_core.specs.Mbox.{with_feed}
use Rattle.mbox_text.proofs.FedLines.{AreEnded, AreLines, fed_ended}
use Rattle.mbox_text.proofs.FedLines.{with_both}
use Rattle.mbox_text.proofs.GroupLemmas.{Quiet}
use Rattle.mbox_text.proofs.RegionsLemmas.{not_mark}
use Rattle.folder_drivers.specs.MboxRegion.{quoted}
use Rattle.folder_drivers.specs.MboxRegion.{quoted_line}
use Rattle.mbox_items.proofs.ClosedLines.{fed_before}
use Rattle.mbox_items.proofs.Marks.{feed_no_mark, mark_fed, mark_no_empty}

front_line : (b : ℕ) (s : List ℕ) → b ≢ 10 → IsLine s → IsLine (b ∷ s)
front_line b s other line = record {
  some = omega arith;
  none = λ k less. by_place k less;
}
  where
    by_place : (k : ℕ) → k + 1 < length (b ∷ s) → slice_index (b ∷ s) k ≢ 10
    by_place zero less = other
    by_place (suc k) less = line.none k (omega (arith, less))

never_more : (line : List ℕ) → 0 < length {A = List ℕ} [] → EndsLine line
never_more line more = absurd (omega (arith, more))

line_ended : (begins : Bool) (line : List ℕ) → IsLine line
    → AreEnded (quoted_line begins line ∷ [])
line_ended true line are =
    subst (λ l. AreEnded (l ∷ [])) (with_both (62 ∷ []) line are.some)
    (fed_ended ((62 ∷ line) ∷ [])
    (front_line 62 line (λ e. omega (arith, e)) are, never_more (62 ∷ line), tt))
line_ended false line are = fed_ended (line ∷ []) (are, never_more line, tt)

pub quoted_ended : (lines : List (List ℕ)) (empty : Bool) → AreLines lines
    → AreEnded (quoted empty lines)
quoted_ended [] empty are = tt
quoted_ended (line ∷ lines) empty are =
    let ended = line_ended (empty && is_postmark line) line are.0 in
    (ended.0, ended.1, quoted_ended lines (is_empty_line line) are.2)

-- a quoted line begins no message
line_quiet : (empty begins : Bool) (line : List ℕ) → (empty && is_postmark line) ≡ begins
    → (empty && is_postmark (quoted_line begins line)) ≡ false
line_quiet empty true line e =
    ap (λ t. empty && t)
    (not_mark (62 ∷ with_feed line) (λ same. omega (arith, ap (λ l. slice_index l 0) same)))
    ∙ and-false empty
line_quiet empty false line e = ap (λ t. empty && t) (mark_fed line) ∙ e

-- and is empty where the line is
line_empty : (begins empty : Bool) (line : List ℕ) → (empty && is_postmark line) ≡ begins
    → with_feed line ≡ line → is_empty_line (quoted_line begins line) ≡ is_empty_line line
line_empty true true line e same = sym (mark_no_empty line e)
line_empty true false line e same = absurd cc
line_empty false empty line e same = ap is_empty_line same

pub quoted_quiet : (lines : List (List ℕ)) (empty : Bool) → AreLines lines
    → Quiet empty (quoted empty lines ++ (10 ∷ []) ∷ [])
quoted_quiet [] empty are = (ap (λ t. empty && t) feed_no_mark ∙ and-false empty, tt)
quoted_quiet (line ∷ []) empty are =
    let begins = empty && is_postmark line in
    let last = is_empty_line (quoted_line begins line) in
    (line_quiet empty begins line refl, (ap (λ t. last && t) feed_no_mark ∙ and-false last, tt))
quoted_quiet (line ∷ next ∷ lines) empty are =
    let begins = empty && is_postmark line in (
      line_quiet empty begins line refl,
      subst (λ t. Quiet t (quoted (is_empty_line line) (next ∷ lines) ++ (10 ∷ []) ∷ []))
          (sym (line_empty begins empty line refl (fed_before line next lines are)))
          (quoted_quiet (next ∷ lines) (is_empty_line line) are.2),
    )
