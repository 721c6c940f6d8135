-- The lines of messages that stand one behind the other, and how they are cut again.
use Rattle.std.proofs.Common.{◌≡◌, ℕ, Bool, true, false, ◌&&◌, List, [], ◌∷◌, ◌++◌, map}
use Rattle.std.proofs.Common.{refl, sym, ap, ◌∙◌, arith, append-nil, subst}
use Rattle.std.specs.Prelude.{if◌then◌else◌}
use Rattle.std.specs.List.{concat}
use Rattle.std.proofs.lemmas.Bool.{and_parts}
use Rattle.std.proofs.lemmas.List.Folds.{concat-append}
use Rattle.bstr.specs.Text.{lines_of}
use Rattle.bstr.proofs.lemmas.LineLemmas.{lines-nil}
use Rattle.mail_base.specs.Lines.{is_empty_line}
use Rattle.mail_base.proofs.LinesLemmas.{line_in_front, one_line}
use Rattle.folder_core.specs.Mbox.{ends_message, is_postmark}
use Rattle.folder_core.specs.Mbox.{messages, raw_messages, with_line}
use Rattle.mbox_text.specs.Regions.{last_empty}
use Rattle.mbox_text.proofs.FedLines.{AreLines}

-- no line of these is a postmark directly behind an empty one; `empty` tells of the line before them
abbrev pub Quiet : Bool → List (List ℕ) → Type 0
Quiet empty [] = Unit {0}
Quiet empty (line ∷ lines) =
    ((empty && is_postmark line) ≡ false) × Quiet (is_empty_line line) lines

-- a line, and lines behind it of which none begins a message
abbrev pub IsQuiet : List (List ℕ) → Type 0
IsQuiet [] = ⊥
IsQuiet (line ∷ lines) = Quiet (is_empty_line line) lines

-- the first line is a postmark
abbrev pub begins : List (List ℕ) → Bool
begins [] = false
begins (line ∷ lines) = is_postmark line

-- The lines of messages that stand one behind the other: each but the last ends in an empty line.
abbrev pub AreCut : List (List (List ℕ)) → Type 0
AreCut [] = Unit {0}
AreCut (message ∷ []) = IsQuiet message
AreCut (message ∷ next ∷ rest) = IsQuiet message × (last_empty false message ≡ true)
    × (begins next ≡ true) × AreCut (next ∷ rest)

-- all lines of messages
abbrev pub lines_in : List (List (List ℕ)) → List (List ℕ)
lines_in [] = []
lines_in (message ∷ rest) = message ++ lines_in rest

-- Lines that are cut.

-- the first message of lines begins with their first line
record Starts (line : List ℕ) (cut : List (List (List ℕ))) : Type 0 where
  quiet : List (List ℕ)
  rest : List (List (List ℕ))
  is : cut ≡ (line ∷ quiet) ∷ rest

starts : (line : List ℕ) (lines : List (List ℕ)) → Starts line (messages (line ∷ lines))
starts line lines = by_end (ends_message line lines) (messages lines)
  where
    by_end : (t : Bool) (cut : List (List (List ℕ)))
        → Starts line (if t then (line ∷ []) ∷ cut else with_line line cut)
    by_end true cut = record { quiet = []; rest = cut; is = refl }
    by_end false [] = record { quiet = []; rest = []; is = refl }
    by_end false (message ∷ rest) = record { quiet = message; rest = rest; is = refl }

-- a line more at the front
more_cut : (line next : List ℕ) (quiet : List (List ℕ)) (rest : List (List (List ℕ)))
    → (is_empty_line line && is_postmark next) ≡ false → AreCut ((next ∷ quiet) ∷ rest)
    → AreCut ((line ∷ next ∷ quiet) ∷ rest)
more_cut line next quiet [] inside cut = (inside, cut)
more_cut line next quiet (other ∷ rest) inside cut = ((inside, cut.0), cut.1, cut.2, cut.3)

-- a line of its own at the front
own_cut : (line next : List ℕ) (quiet : List (List ℕ)) (rest : List (List (List ℕ)))
    → (is_empty_line line && is_postmark next) ≡ true → AreCut ((next ∷ quiet) ∷ rest)
    → AreCut ((line ∷ []) ∷ (next ∷ quiet) ∷ rest)
own_cut line next quiet rest border cut =
    let both = and_parts (is_empty_line line) (is_postmark next) border in
    (tt, both.0, both.1, cut)

-- lines are cut so
pub cut_is : (lines : List (List ℕ)) → AreCut (messages lines)
cut_is [] = tt
cut_is (line ∷ []) = tt
cut_is (line ∷ next ∷ lines) = by_end (is_empty_line line && is_postmark next) refl
    (cut_is (next ∷ lines)) (starts next lines)
  where
    by_end : (t : Bool) → (is_empty_line line && is_postmark next) ≡ t
        → AreCut (messages (next ∷ lines)) → Starts next (messages (next ∷ lines))
        → AreCut (if t then (line ∷ []) ∷ messages (next ∷ lines)
        else with_line line (messages (next ∷ lines)))
    by_end true border cut s =
        subst (λ c. AreCut ((line ∷ []) ∷ c)) (sym s.is)
        (own_cut line next s.quiet s.rest border (subst AreCut s.is cut))
    by_end false inside cut s =
        subst (λ c. AreCut (with_line line c)) (sym s.is)
        (more_cut line next s.quiet s.rest inside (subst AreCut s.is cut))

-- and what is cut are the lines
pub all_lines : (lines : List (List ℕ)) → lines_in (messages lines) ≡ lines
all_lines [] = refl
all_lines (line ∷ lines) = by_end (ends_message line lines) (messages lines) (all_lines lines)
  where
    by_end : (t : Bool) (cut : List (List (List ℕ))) → lines_in cut ≡ lines
        → lines_in (if t then (line ∷ []) ∷ cut else with_line line cut) ≡ line ∷ lines
    by_end true cut same = ap (λ ls. line ∷ ls) same
    by_end false [] same = ap (λ ls. line ∷ ls) same
    by_end false (message ∷ rest) same = ap (λ ls. line ∷ ls) same

-- Such lines are cut again so.

join_lines : (line : List ℕ) (quiet : List (List ℕ)) (rest : List (List (List ℕ)))
    → (messages (lines_in rest) ≡ rest) → AreCut ((line ∷ quiet) ∷ rest)
    → messages (line ∷ (quiet ++ lines_in rest)) ≡ (line ∷ quiet) ∷ rest
join_lines line [] [] again cut = refl
join_lines line [] ([] ∷ rest) again cut = absurd (never cut.2)
  where
    never : ◌≡◌ {A = Bool} false true → ⊥
    never e = cc
join_lines line [] ((next ∷ more) ∷ rest) again cut =
    ap (λ t. if t then (line ∷ []) ∷ messages (next ∷ (more ++ lines_in rest))
    else with_line line (messages (next ∷ (more ++ lines_in rest))))
    (ap (λ t. t && is_postmark next) cut.1 ∙ cut.2)
    ∙ ap (λ c. (line ∷ []) ∷ c) again
join_lines line (next ∷ quiet) rest again cut =
    ap (λ t. if t then (line ∷ []) ∷ messages (next ∷ (quiet ++ lines_in rest))
    else with_line line (messages (next ∷ (quiet ++ lines_in rest)))) (inside rest cut)
    ∙ ap (with_line line) (join_lines next quiet rest again (behind rest cut))
  where
    inside : (rest : List (List (List ℕ))) → AreCut ((line ∷ next ∷ quiet) ∷ rest)
        → (is_empty_line line && is_postmark next) ≡ false
    inside [] cut = cut.0
    inside (other ∷ rest) cut = cut.0.0

    behind : (rest : List (List (List ℕ))) → AreCut ((line ∷ next ∷ quiet) ∷ rest)
        → AreCut ((next ∷ quiet) ∷ rest)
    behind [] cut = cut.1
    behind (other ∷ rest) cut = (cut.0.1, cut.1, cut.2, cut.3)

pub join_is : (cut : List (List (List ℕ))) → AreCut cut → messages (lines_in cut) ≡ cut
join_is [] are = refl
join_is ([] ∷ []) are = absurd are
join_is ([] ∷ next ∷ rest) are = absurd are.0
join_is ((line ∷ quiet) ∷ []) are = join_lines line quiet [] refl are
join_is ((line ∷ quiet) ∷ next ∷ rest) are =
    join_lines line quiet (next ∷ rest) (join_is (next ∷ rest) are.3) are

-- The bytes of such lines.

-- lines that may stand one behind the other
pub lines_are : (lines : List (List ℕ)) → AreLines lines → lines_of (concat lines) ≡ lines
lines_are [] are = lines-nil
lines_are (line ∷ []) are = ap lines_of (append-nil line) ∙ one_line line are.0
lines_are (line ∷ next ∷ lines) are =
    line_in_front line (concat (next ∷ lines)) are.0 (are.1 (omega arith))
    ∙ ap (λ ls. line ∷ ls) (lines_are (next ∷ lines) are.2)

-- the bytes of lines, message by message
pub concat_map : (cut : List (List (List ℕ))) → concat (map concat cut) ≡ concat (lines_in cut)
concat_map [] = refl
concat_map (message ∷ cut) =
    ap (λ bytes. concat message ++ bytes) (concat_map cut)
    ∙ sym (concat-append message (lines_in cut))

-- the messages of bytes that are those of such lines
pub raws_are : (cut : List (List (List ℕ))) → AreCut cut → AreLines (lines_in cut)
    → raw_messages (concat (map concat cut)) ≡ map concat cut
raws_are cut are lines =
    ap (λ bytes. map concat (messages (lines_of bytes))) (concat_map cut)
    ∙ ap (λ ls. map concat (messages ls)) (lines_are (lines_in cut) lines)
    ∙ ap (map concat) (join_is cut are)
