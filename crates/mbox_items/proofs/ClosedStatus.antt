-- A message keeps its flags where LF stand at its end that make it end with an empty line.
use Rattle.std.proofs.Common.{◌≡◌, ℕ, ◌<◌, ◌&&◌, ◌||◌, Bool, true, false, List, [], ◌∷◌, Option}
use Rattle.std.proofs.Common.{Some, None, length, refl, sym, ap, ◌∙◌, take, drop, ◌+◌}
use Rattle.std.specs.Prelude.{codes, if◌then◌else◌}
use Rattle.std.specs.List.{concat}
use Rattle.std.specs.Str.{str_eq_ignore_ascii_case}
use Rattle.mail_base.specs.Flags.{normal}
use Rattle.mail_base.specs.Lines.{behind_first, colon_of, fields_of, header_block, is_continuation}
use Rattle.mail_base.specs.Lines.{is_empty_line}
use Rattle.folder_core.specs.Mbox.{is_postmark, status, told_flags, with_feed}
use Rattle.mbox_text.specs.Status.{has, lines_hold}
use Rattle.mbox_text.proofs.FedLines.{AreLines, lines_ended}
use Rattle.mbox_text.proofs.GroupLemmas.{lines_are}
use Rattle.mbox_text.proofs.StatusLemmas.{IsInk, lines_hold-continued, lines_hold-field}
use Rattle.mbox_text.proofs.StatusLemmas.{lines_hold-skipped}
use Rattle.mbox_items.proofs.ClosedLines.{closed, closed_ended, closed_line, only_return}
use Rattle.mbox_items.proofs.FedFields.{Alike, alike_fed, alike_same}
use Rattle.mbox_items.proofs.Marks.{empty_there, fed_there, mark_fed, mark_no_empty, true_false}

-- The letters that lines hold.

-- lines that hold a letter alike, whichever field they continue
abbrev HoldAlike : List ℕ → ℕ → List (List ℕ) → List (List ℕ) → Type 0
HoldAlike name letter lines others =
    (continued : Bool)
    → lines_hold continued name letter lines ≡ lines_hold continued name letter others

-- one line more
hold_on : (letter : ℕ) (name line other : List ℕ) (lines others : List (List ℕ)) → IsInk letter
    → Alike letter line other → HoldAlike name letter lines others
    → HoldAlike name letter (line ∷ lines) (other ∷ others)
hold_on letter name line other lines others ink alike same continued =
    by_colon (colon_of line) refl (is_continuation line) refl
  where
    field : (k : ℕ) → colon_of line ≡ Some k
        → lines_hold continued name letter (line ∷ lines)
        ≡ lines_hold continued name letter (other ∷ others)
    field k e =
        let is = str_eq_ignore_ascii_case (take k line) name in
        let text = drop (k + 1) line in
        sym (lines_hold-field letter ink name line text k lines continued is e refl refl)
        ∙ ap (λ t. (is && t) || lines_hold is name letter lines) (alike.behind k e)
        ∙ ap (λ t. (is && has letter (drop (k + 1) other)) || t) (same is)
        ∙ lines_hold-field letter ink name other (drop (k + 1) other) k others continued is
        (sym alike.colon ∙ e) refl (ap (λ l. str_eq_ignore_ascii_case l name) (alike.name k e))

    by_colon : (o : Option ℕ) → colon_of line ≡ o → (more : Bool) → is_continuation line ≡ more
        → lines_hold continued name letter (line ∷ lines)
        ≡ lines_hold continued name letter (other ∷ others)
    by_colon (Some k) e more m = field k e
    by_colon None e true m =
        sym (lines_hold-continued letter name line lines continued e m)
        ∙ ap (λ t. (continued && t) || lines_hold continued name letter lines) alike.whole
        ∙ ap (λ t. (continued && has letter other) || t) (same continued)
        ∙ lines_hold-continued letter name other others continued (sym alike.colon ∙ e)
        (sym alike.more ∙ m)
    by_colon None e false m =
        sym (lines_hold-skipped letter name line lines continued e m) ∙ same continued
        ∙ lines_hold-skipped letter name other others continued (sym alike.colon ∙ e)
        (sym alike.more ∙ m)

-- the last line of a header block
last_hold : (letter : ℕ) (name line : List ℕ) → IsInk letter → 0 < length line
    → HoldAlike name letter (header_block (closed_line line)) (header_block (line ∷ []))
last_hold letter name line ink some continued =
    by_empty (is_empty_line (with_feed line)) (is_empty_line line) refl refl
  where
    by_empty : (fed empty : Bool) → is_empty_line (with_feed line) ≡ fed
        → is_empty_line line ≡ empty
        → lines_hold continued name letter (header_block (if fed then with_feed line ∷ []
        else with_feed line ∷ (10 ∷ []) ∷ []))
        ≡ lines_hold continued name letter (header_block (line ∷ []))
    by_empty true true e1 e2 =
        ap (λ t. lines_hold continued name letter (if t then [] else with_feed line ∷ [])) e1
        ∙ ap (λ t. lines_hold continued name letter (if t then [] else line ∷ [])) (sym e2)
    by_empty true false e1 e2 =
        ap (λ t. lines_hold continued name letter (if t then [] else with_feed line ∷ [])) e1
        ∙ ap (λ l. lines_hold continued name letter (header_block (l ∷ [])))
        (sym (only_return line some e1 e2))
    by_empty false true e1 e2 =
        absurd (true_false (sym e2 ∙ ap is_empty_line (sym (fed_there line (empty_there line e2)))
        ∙ e1))
    by_empty false false e1 e2 =
        ap (λ t. lines_hold continued name letter (if t then [] else with_feed line ∷ [])) e1
        ∙ hold_on letter name (with_feed line) line [] [] ink (alike_fed letter line ink some)
        (λ c. refl) continued
        ∙ ap (λ t. lines_hold continued name letter (if t then [] else line ∷ [])) (sym e2)

block_hold : (letter : ℕ) (name line : List ℕ) (lines : List (List ℕ)) → IsInk letter
    → AreLines (line ∷ lines)
    → HoldAlike name letter (header_block (closed (line ∷ lines))) (header_block (line ∷ lines))
block_hold letter name line [] ink are = last_hold letter name line ink are.0.some
block_hold letter name line (next ∷ lines) ink are =
    by_empty (is_empty_line line) (block_hold letter name next lines ink are.2)
  where
    by_empty : (t : Bool)
        → HoldAlike name letter (header_block (closed (next ∷ lines))) (header_block (next ∷ lines))
        → HoldAlike name letter (if t then [] else line ∷ header_block (closed (next ∷ lines)))
        (if t then [] else line ∷ header_block (next ∷ lines))
    by_empty true same = λ c. refl
    by_empty false same =
        hold_on letter name line line (header_block (closed (next ∷ lines)))
        (header_block (next ∷ lines)) ink (alike_same letter line) same

-- The flags.

ink_of_r : IsInk 82
ink_of_r = record { no_space = refl; no_tab = refl; no_cr = refl; no_feed = refl }

ink_of_o : IsInk 79
ink_of_o = record { no_space = refl; no_tab = refl; no_cr = refl; no_feed = refl }

ink_of_a : IsInk 65
ink_of_a = record { no_space = refl; no_tab = refl; no_cr = refl; no_feed = refl }

ink_of_f : IsInk 70
ink_of_f = record { no_space = refl; no_tab = refl; no_cr = refl; no_feed = refl }

told_closed : (line : List ℕ) (lines : List (List ℕ)) → AreLines (line ∷ lines)
    → told_flags (fields_of (header_block (closed (line ∷ lines))))
    ≡ told_flags (fields_of (header_block (line ∷ lines)))
told_closed line lines are =
    let seen = block_hold 82 (codes "Status") line lines ink_of_r are false in
    let aged = block_hold 79 (codes "Status") line lines ink_of_o are false in
    let replied = block_hold 65 (codes "X-Status") line lines ink_of_a are false in
    let flagged = block_hold 70 (codes "X-Status") line lines ink_of_f are false in
    cc

-- the flags of a message
told_message : (line : List ℕ) (lines : List (List ℕ)) → AreLines (line ∷ lines)
    → is_postmark line ≡ true
    → told_flags (fields_of (header_block (behind_first (closed (line ∷ lines)))))
    ≡ told_flags (fields_of (header_block lines))
told_message line [] are mark =
    ap (λ t. told_flags (fields_of (header_block (behind_first (if t then with_feed line ∷ []
    else with_feed line ∷ (10 ∷ []) ∷ [])))))
    (mark_no_empty (with_feed line) (mark_fed line ∙ mark))
told_message line (next ∷ lines) are mark = told_closed next lines are.2

pub status_closed : (line : List ℕ) (lines : List (List ℕ)) → AreLines (line ∷ lines)
    → is_postmark line ≡ true
    → status (concat (closed (line ∷ lines))) ≡ status (concat (line ∷ lines))
unfolding status
status_closed line lines are mark =
    ap (λ ls. normal (told_flags (fields_of (header_block (behind_first ls)))))
    (lines_ended (closed (line ∷ lines)) (closed_ended (line ∷ lines) are))
    ∙ ap normal (told_message line lines are mark)
    ∙ ap (λ ls. normal (told_flags (fields_of (header_block (behind_first ls)))))
    (sym (lines_are (line ∷ lines) are))
