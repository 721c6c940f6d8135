-- The lines of a file that is made to end with an empty one.
use Rattle.std.proofs.Common.{◌≡◌, ℕ, ◌<◌, Bool, true, false, List, [], ◌∷◌, length, refl, sym, ap}
use Rattle.std.proofs.Common.{◌∙◌, arith, ◌⊎◌, inl, inr, length-append}
use Rattle.std.specs.Prelude.{codes, if◌then◌else◌}
use Rattle.bstr.proofs.lemmas.LineLemmas.{EndsLine}
use Rattle.mail_base.specs.Lines.{has_feed, is_empty_line, without_feed}
use Rattle.mail_base.proofs.LinesLemmas.{IsLine}
use Rattle.folder_core.specs.Mbox.{with_feed}
use Rattle.mbox_text.proofs.FedLines.{AreEnded, AreLines, fed, fed_ended, none_left}
use Rattle.mbox_items.proofs.Marks.{empty_is, fed_new, fed_there, fed_ends, feed_off, true_false}

-- an empty line
pub empty_ended : AreEnded ((10 ∷ []) ∷ [])
empty_ended = (none_left, inr refl, tt)

-- lines that all end in LF
pub lines_left : (lines : List (List ℕ)) → AreEnded lines → AreLines lines
lines_left [] ended = tt
lines_left (line ∷ lines) ended = (ended.0, (λ more. ended.1), lines_left lines ended.2)

-- what becomes of a last line
abbrev pub closed_line : List ℕ → List (List ℕ)
closed_line line =
    if is_empty_line (with_feed line) then with_feed line ∷ []
    else with_feed line ∷ (10 ∷ []) ∷ []

-- lines of which the last becomes so
abbrev pub closed : List (List ℕ) → List (List ℕ)
closed [] = []
closed (line ∷ []) = closed_line line
closed (line ∷ next ∷ lines) = line ∷ closed (next ∷ lines)

-- the last of the lines
abbrev pub last_of : List ℕ → List (List ℕ) → List ℕ
last_of line [] = line
last_of line (next ∷ lines) = last_of next lines

-- they all end in LF
line_ended : (line : List ℕ) → IsLine line → AreEnded (closed_line line)
line_ended line are =
    by_empty (is_empty_line (with_feed line)) (fed_ended (line ∷ []) (are, never, tt))
  where
    never : 0 < length {A = List ℕ} [] → EndsLine line
    never more = absurd (omega (arith, more))

    by_empty : (t : Bool) → AreEnded (with_feed line ∷ [])
        → AreEnded (if t then with_feed line ∷ [] else with_feed line ∷ (10 ∷ []) ∷ [])
    by_empty true ended = ended
    by_empty false ended = (ended.0, ended.1, empty_ended)

pub closed_ended : (lines : List (List ℕ)) → AreLines lines → AreEnded (closed lines)
closed_ended [] are = tt
closed_ended (line ∷ []) are = line_ended line are.0
closed_ended (line ∷ next ∷ lines) are =
    (are.0, are.1 (omega arith), closed_ended (next ∷ lines) are.2)

-- a line that others follow has its LF
pub fed_before : (line next : List ℕ) (lines : List (List ℕ)) → AreLines (line ∷ next ∷ lines)
    → with_feed line ≡ line
fed_before line next lines are = by_end (are.1 (omega arith))
  where
    by_end : EndsLine line → with_feed line ≡ line
    by_end (inl none) = absurd (omega (arith, none, are.0.some))
    by_end (inr feed) = fed_ends line are.0.some feed

-- a line that an LF makes empty is CR alone, or empty before
pub only_return : (line : List ℕ) → 0 < length line → is_empty_line (with_feed line) ≡ true
    → is_empty_line line ≡ false → line ≡ codes "\r"
only_return line some fed empty = by_feed (has_feed line) refl
  where
    by_line : has_feed line ≡ false
        → (with_feed line ≡ codes "\n") ⊎ (with_feed line ≡ codes "\r\n")
        → line ≡ codes "\r"
    by_line none (inl is) = absurd (omega (
      arith,
      some,
      ap length (sym (fed_new line none) ∙ is),
      length-append line (10 ∷ []),
    ))
    by_line none (inr is) =
        sym (feed_off line) ∙ ap without_feed (sym (fed_new line none) ∙ is)

    by_feed : (t : Bool) → has_feed line ≡ t → line ≡ codes "\r"
    by_feed true e =
        absurd (true_false (sym fed ∙ ap is_empty_line (fed_there line e) ∙ empty))
    by_feed false e = by_line e (empty_is (with_feed line) fed)
