-- What goes behind a file so that it ends with an empty line.
use Rattle.std.proofs.Common.{◌≡◌, ℕ, ◌<◌, Bool, true, false, List, [], ◌∷◌, ◌++◌, length, refl}
use Rattle.std.proofs.Common.{sym, ap, ◌∙◌, arith, append_assoc, append-nil, subst, ◌-◌, ◌≤◌}
use Rattle.std.proofs.Common.{length-take-le, take}
use Rattle.std.specs.Prelude.{codes, if◌then◌else◌}
use Rattle.std.specs.List.{concat}
use Rattle.std.proofs.lemmas.List.Folds.{concat-append}
use Rattle.bstr.specs.Text.{lines_of}
use Rattle.bstr.proofs.lemmas.RestLemmas.{concat-lines_of}
use Rattle.mail_base.specs.Lines.{has_feed, is_empty_line, without_feed}
use Rattle.folder_core.specs.Mbox.{with_feed}
use Rattle.mbox_text.proofs.FedLines.{AreEnded, AreLines, are_lines, ended_both, fed, fed_ended}
use Rattle.mbox_text.proofs.FedLines.{lines_ended}
use Rattle.folder_drivers.specs.MboxFeeds.{end_empty, feeds_before}
use Rattle.mbox_items.proofs.Marks.{empty_there, fed_new, fed_there, feed_goes, true_false}
use Rattle.mbox_items.proofs.ClosedLines.{closed, closed_line, empty_ended, last_of}

-- Whether lines end with an empty one.

end_is : (line : List ℕ) (lines : List (List ℕ))
    → end_empty (line ∷ lines) ≡ is_empty_line (last_of line lines)
end_is line [] = refl
end_is line (next ∷ lines) = end_is next lines

end_push : (lines : List (List ℕ)) → end_empty (lines ++ (10 ∷ []) ∷ []) ≡ true
end_push [] = refl
end_push (line ∷ []) = refl
end_push (line ∷ next ∷ lines) = end_push (next ∷ lines)

end_fed : (line : List ℕ) (lines : List (List ℕ))
    → end_empty (fed (line ∷ lines)) ≡ is_empty_line (with_feed (last_of line lines))
end_fed line [] = refl
end_fed line (next ∷ []) = refl
end_fed line (next ∷ third ∷ lines) = end_fed next (third ∷ lines)

-- lines of which the last ends in LF
fed_all : (line : List ℕ) (lines : List (List ℕ)) → has_feed (last_of line lines) ≡ true
    → fed (line ∷ lines) ≡ line ∷ lines
fed_all line [] there = ap (λ l. l ∷ []) (fed_there line there)
fed_all line (next ∷ lines) there = ap (λ ls. line ∷ ls) (fed_all next lines there)

-- the bytes of lines of which the last ends in none
fed_one : (line : List ℕ) (lines : List (List ℕ)) → has_feed (last_of line lines) ≡ false
    → concat (line ∷ lines) ++ 10 ∷ [] ≡ concat (fed (line ∷ lines))
fed_one line [] none =
    ap (λ l. l ++ 10 ∷ []) (append-nil line) ∙ sym (fed_new line none)
    ∙ sym (append-nil (with_feed line))
fed_one line (next ∷ lines) none =
    append_assoc line (concat (next ∷ lines)) (10 ∷ [])
    ∙ ap (λ l. line ++ l) (fed_one next lines none)

-- one LF more
one_more : (line : List ℕ) (lines : List (List ℕ)) → AreLines (line ∷ lines) → (there : Bool)
    → has_feed (last_of line lines) ≡ there
    → end_empty (lines_of (concat (line ∷ lines) ++ 10 ∷ []))
    ≡ (if there then true else is_empty_line (with_feed (last_of line lines)))
one_more line lines are true there =
    let ended : AreEnded (line ∷ lines) =
    subst AreEnded (fed_all line lines there) (fed_ended (line ∷ lines) are) in
    ap (λ l. end_empty (lines_of l)) (sym (concat-append (line ∷ lines) ((10 ∷ []) ∷ [])))
    ∙ ap end_empty (lines_ended ((line ∷ lines) ++ (10 ∷ []) ∷ [])
    (ended_both (line ∷ lines) ((10 ∷ []) ∷ []) ended empty_ended))
    ∙ end_push (line ∷ lines)
one_more line lines are false none =
    ap (λ l. end_empty (lines_of l)) (fed_one line lines none)
    ∙ ap end_empty (lines_ended (fed (line ∷ lines)) (fed_ended (line ∷ lines) are))
    ∙ end_fed line lines

-- What goes behind a last line, by three tests of it.
abbrev pub feeds_of : Bool → Bool → Bool → List ℕ
feeds_of empty there fed_empty =
    if empty then [] else (if there then 10 ∷ [] else (if fed_empty then 10 ∷ [] else 10 ∷ 10 ∷ []))

feeds_are : (bytes line : List ℕ) (lines : List (List ℕ)) → lines_of bytes ≡ line ∷ lines
    → concat (line ∷ lines) ≡ bytes → AreLines (line ∷ lines)
    → feeds_before bytes ≡ feeds_of (is_empty_line (last_of line lines))
    (has_feed (last_of line lines)) (is_empty_line (with_feed (last_of line lines)))
unfolding feeds_before
feeds_are bytes line lines e whole are =
    let last = last_of line lines in
    ap (λ t. if t then [] else (if end_empty (lines_of (bytes ++ codes "\n")) then codes "\n"
    else codes "\n\n")) (ap end_empty e ∙ end_is line lines)
    ∙ ap (λ t. if is_empty_line last then [] else (if t then codes "\n" else codes "\n\n"))
    (ap (λ l. end_empty (lines_of (l ++ codes "\n"))) (sym whole)
    ∙ one_more line lines are (has_feed last) refl)
    ∙ by_tests (is_empty_line last) (has_feed last) (is_empty_line (with_feed last))
  where
    by_tests : (empty there fed_empty : Bool)
        → (if empty then [] else (if (if there then true else fed_empty) then codes "\n"
        else codes "\n\n")) ≡ feeds_of empty there fed_empty
    by_tests true there fed_empty = refl
    by_tests false true fed_empty = refl
    by_tests false false true = refl
    by_tests false false false = refl

-- What becomes of the lines.

line_closed : (line : List ℕ) (empty there fed_empty : Bool) → is_empty_line line ≡ empty
    → has_feed line ≡ there → is_empty_line (with_feed line) ≡ fed_empty
    → line ++ feeds_of empty there fed_empty ≡ concat (closed_line line)
line_closed line empty there fed_empty e1 e2 e3 =
    by_tests empty there fed_empty e1 e2 e3
    ∙ ap (λ t. concat (if t then with_feed line ∷ [] else with_feed line ∷ (10 ∷ []) ∷ []))
    (sym e3)
  where
    same : has_feed line ≡ true → is_empty_line (with_feed line) ≡ is_empty_line line
    same e = ap is_empty_line (fed_there line e)

    by_tests : (empty there fed_empty : Bool) → is_empty_line line ≡ empty
        → has_feed line ≡ there → is_empty_line (with_feed line) ≡ fed_empty
        → line ++ feeds_of empty there fed_empty
        ≡ concat (if fed_empty then with_feed line ∷ [] else with_feed line ∷ (10 ∷ []) ∷ [])
    by_tests true there true e1 e2 e3 =
        ap (λ l. l ++ []) (sym (fed_there line (empty_there line e1)))
    by_tests true there false e1 e2 e3 =
        absurd (true_false (sym e1 ∙ sym (same (empty_there line e1)) ∙ e3))
    by_tests false true true e1 e2 e3 = absurd (true_false (sym e3 ∙ same e2 ∙ e1))
    by_tests false true false e1 e2 e3 = ap (λ l. l ++ 10 ∷ []) (sym (fed_there line e2))
    by_tests false false true e1 e2 e3 =
        sym (fed_new line e2) ∙ sym (append-nil (with_feed line))
    by_tests false false false e1 e2 e3 =
        sym (append_assoc line (10 ∷ []) (10 ∷ []))
        ∙ ap (λ l. l ++ 10 ∷ []) (sym (fed_new line e2))

behind_lines : (line : List ℕ) (lines : List (List ℕ)) (feeds : List ℕ)
    → last_of line lines ++ feeds ≡ concat (closed_line (last_of line lines))
    → concat (line ∷ lines) ++ feeds ≡ concat (closed (line ∷ lines))
behind_lines line [] feeds is = ap (λ l. l ++ feeds) (append-nil line) ∙ is
behind_lines line (next ∷ lines) feeds is =
    append_assoc line (concat (next ∷ lines)) feeds
    ∙ ap (λ l. line ++ l) (behind_lines next lines feeds is)

-- the bytes of lines with what goes behind bytes that have the same last line
pub behind_last : (bytes line : List ℕ) (lines : List (List ℕ)) (first : List ℕ)
    (rest : List (List ℕ)) → lines_of bytes ≡ line ∷ lines
    → last_of first rest ≡ last_of line lines
    → concat (first ∷ rest) ++ feeds_before bytes ≡ concat (closed (first ∷ rest))
behind_last bytes line lines first rest e same =
    let last = last_of first rest in
    let are : AreLines (line ∷ lines) =
    subst AreLines e (are_lines (length bytes) bytes (omega arith)) in
    let whole : concat (line ∷ lines) ≡ bytes = ap concat (sym e) ∙ concat-lines_of bytes in
    ap (λ l. concat (first ∷ rest) ++ l)
    (feeds_are bytes line lines e whole are
    ∙ ap (λ l. feeds_of (is_empty_line l) (has_feed l) (is_empty_line (with_feed l))) (sym same))
    ∙ behind_lines first rest
    (feeds_of (is_empty_line last) (has_feed last) (is_empty_line (with_feed last)))
    (line_closed last (is_empty_line last) (has_feed last) (is_empty_line (with_feed last))
    refl refl refl)

-- What goes behind bytes, by their last line.

last_push : (line : List ℕ) (lines : List (List ℕ)) (last : List ℕ)
    → last_of line (lines ++ last ∷ []) ≡ last
last_push line [] last = refl
last_push line (next ∷ lines) last = last_push next lines last

pub feeds_behind : (bytes : List ℕ) (front : List (List ℕ)) (last : List ℕ)
    → lines_of bytes ≡ front ++ last ∷ []
    → feeds_before bytes
    ≡ feeds_of (is_empty_line last) (has_feed last) (is_empty_line (with_feed last))
feeds_behind bytes front last e = by_front front e
  where
    whole : (lines : List (List ℕ)) → lines_of bytes ≡ lines → concat lines ≡ bytes
    whole lines is = ap concat (sym is) ∙ concat-lines_of bytes

    are : (lines : List (List ℕ)) → lines_of bytes ≡ lines → AreLines lines
    are lines is = subst AreLines is (are_lines (length bytes) bytes (omega arith))

    by_front : (front : List (List ℕ)) → lines_of bytes ≡ front ++ last ∷ []
        → feeds_before bytes
        ≡ feeds_of (is_empty_line last) (has_feed last) (is_empty_line (with_feed last))
    by_front [] is =
        feeds_are bytes last [] is (whole (last ∷ []) is) (are (last ∷ []) is)
    by_front (line ∷ front) is =
        feeds_are bytes line (front ++ last ∷ []) is (whole (line ∷ front ++ last ∷ []) is)
        (are (line ∷ front ++ last ∷ []) is)
        ∙ ap (λ l. feeds_of (is_empty_line l) (has_feed l) (is_empty_line (with_feed l)))
        (last_push line front last)

pub feeds_none : (bytes : List ℕ) → lines_of bytes ≡ [] → feeds_before bytes ≡ []
unfolding feeds_before
feeds_none bytes e =
    ap (λ ls. if end_empty ls then [] else (if end_empty (lines_of (bytes ++ codes "\n"))
    then codes "\n" else codes "\n\n")) e

-- a line that is shorter without LF ends in one
pub short_there : (line : List ℕ) → length (without_feed line) < length line
    → has_feed line ≡ true
short_there line less = by_feed (has_feed line) refl
  where
    by_feed : (t : Bool) → has_feed line ≡ t → has_feed line ≡ true
    by_feed true e = e
    by_feed false e = absurd (omega (arith, less, ap length (feed_goes line e)))

-- any other ends in none
pub long_none : (line : List ℕ) → 0 < length line → length line ≤ length (without_feed line)
    → has_feed line ≡ false
long_none line some more = by_feed (has_feed line) refl
  where
    by_feed : (t : Bool) → has_feed line ≡ t → has_feed line ≡ false
    by_feed true e =
        let short : length (without_feed line) ≡ length (take (length line - 1) line) =
        ap (λ t. length (if t then take (length line - 1) line else line)) e in
        absurd (omega (
          arith,
          some,
          more,
          short,
          length-take-le (length line - 1) line (omega arith),
        ))
    by_feed false e = e

-- a last line is not nothing
pub last_some : (bytes : List ℕ) (front : List (List ℕ)) (last : List ℕ)
    → lines_of bytes ≡ front ++ last ∷ [] → 0 < length last
last_some bytes front last e =
    by_front front (subst AreLines e (are_lines (length bytes) bytes (omega arith)))
  where
    by_front : (front : List (List ℕ)) → AreLines (front ++ last ∷ []) → 0 < length last
    by_front [] are = are.0.some
    by_front (line ∷ front) are = by_front front are.2
