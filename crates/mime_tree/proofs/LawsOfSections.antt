-- Texts that are written between delimiter lines are cut apart again.
use Rattle.std.proofs.Common.{◌≡◌, ℕ, ◌+◌, ◌-◌, ◌==◌, true, false, not, nat_lt, List, [], ◌∷◌, ◌++◌}
use Rattle.std.proofs.Common.{length, map, Some, refl, sym, ap, ◌∙◌, arith, append_assoc, inr}
use Rattle.std.proofs.Common.{codes, length-append, slice_index}
use Rattle.std.specs.List.{concat, list_all}
use Rattle.std.proofs.lemmas.Bool.{and_parts, not-true}
use Rattle.std.proofs.lemmas.List.{append-nil, get_or_push}
use Rattle.std.proofs.lemmas.List.Folds.{list_all-append}
use Rattle.bstr.specs.Text.{lines_of, without_terminator}
use Rattle.bstr.proofs.lemmas.LineLemmas.{EndsLine, lines-append}
use Rattle.bstr.proofs.lemmas.RestLemmas.{concat-lines_of}
use Rattle.mail_base.specs.Fronts.{◌>>=◌, behind_text}
use Rattle.mail_base.proofs.FrontsLemmas.{behind_text_front}
use Rattle.mail_base.proofs.LinesLemmas.{lines_feed, terminator_goes}
use Rattle.mail_base.specs.Written.{is_line_byte}
use Rattle.mime_tree.specs.Delimiter.{is_delimiter, kind_behind, kind_of}
use Rattle.mime_tree.specs.Laws.{dashed, is_apart, written_sections, WrittenSectionsAreCut}
use Rattle.mime_tree.specs.Section.{PlainSection, section_at, section_text, sections, sections_with}
use Rattle.mime_tree.specs.declared.delimiter.LineKind.{LineKind}
use Rattle.mime_tree.proofs.DashLinesLemmas.{HasNone, sections_from, text_before}

-- the boundary has no line feed
no_feed : (boundary : List ℕ) → list_all is_line_byte boundary ≡ true
    → list_all (λ b. not (b == 10)) boundary ≡ true
no_feed [] all = refl
no_feed (b ∷ boundary) all =
    let both = and_parts (is_line_byte b) (list_all is_line_byte boundary) all in
    rw (and_parts (not (b == 10)) (not (b == 13)) both.0).0 (no_feed boundary both.1)

-- a dashed line stands in front of the lines behind it
lines_dashed : (boundary front rest : List ℕ) → list_all is_line_byte boundary ≡ true
    → list_all (λ b. not (b == 10)) front ≡ true
    → lines_of (dashed boundary (front ++ 10 ∷ []) ++ rest)
    ≡ dashed boundary (front ++ 10 ∷ []) ∷ lines_of rest
lines_dashed boundary front rest all plain =
    let test = λ (b : ℕ). not (b == 10) in
    let content = 45 ∷ 45 ∷ (boundary ++ front) in
    let none : list_all test content ≡ true =
    list_all-append test boundary front ∙ rw (no_feed boundary all) plain in
    let line : dashed boundary (front ++ 10 ∷ []) ≡ content ++ 10 ∷ [] =
    ap (λ l. 45 ∷ 45 ∷ l) (sym (append_assoc boundary front (10 ∷ []))) in
    let whole : dashed boundary (front ++ 10 ∷ []) ++ rest ≡ content ++ 10 ∷ rest =
    ap (λ l. l ++ rest) line ∙ append_assoc content (10 ∷ []) rest in
    ap lines_of whole ∙ lines_feed content rest none ∙ ap (λ l. l ∷ lines_of rest) (sym line)

-- what a dashed line is, by what stands behind the boundary
kind_dashed : (boundary end : List ℕ)
    → kind_of boundary (dashed boundary (end ++ 13 ∷ 10 ∷ [])) ≡ kind_behind (Some end)
kind_dashed boundary end =
    let text = 45 ∷ 45 ∷ (boundary ++ end) in
    let whole : dashed boundary (end ++ 13 ∷ 10 ∷ []) ≡ text ++ 13 ∷ 10 ∷ [] =
    ap (λ l. 45 ∷ 45 ∷ l) (sym (append_assoc boundary end (13 ∷ 10 ∷ []))) in
    ap (λ l. kind_behind (behind_text (codes "--") l >>= behind_text boundary))
    (ap without_terminator whole ∙ terminator_goes text)
    ∙ ap (λ o. kind_behind (o >>= behind_text boundary))
    (behind_text_front (codes "--") (boundary ++ end))
    ∙ ap kind_behind (behind_text_front boundary end)

abbrev delimiter : List ℕ → List ℕ
delimiter boundary = dashed boundary (codes "\r\n")

abbrev closing : List ℕ → List ℕ
closing boundary = dashed boundary (codes "--\r\n")

closing_lines : (boundary : List ℕ) → list_all is_line_byte boundary ≡ true
    → lines_of (closing boundary) ≡ closing boundary ∷ lines_of []
closing_lines boundary all =
    ap lines_of (sym (append-nil (closing boundary)))
    ∙ lines_dashed boundary (codes "--\r") [] all refl

-- the first line of what is written, and those behind it
record Begins (boundary : List ℕ) (text : List ℕ) : Type 0 where
  line : List ℕ
  back : List (List ℕ)
  whole : lines_of text ≡ line ∷ back
  ends : is_delimiter (kind_of boundary line) ≡ true

begins : (boundary : List ℕ) (texts : List (List ℕ)) → list_all is_line_byte boundary ≡ true
    → Begins boundary (written_sections boundary texts)
begins boundary [] all = record {
  line = closing boundary;
  back = lines_of [];
  whole = closing_lines boundary all;
  ends = ap is_delimiter (kind_dashed boundary (codes "--"));
}
begins boundary (text ∷ texts) all = record {
  line = delimiter boundary;
  back = lines_of ((text ++ codes "\r\n") ++ written_sections boundary texts);
  whole = lines_dashed boundary (codes "\r")
      ((text ++ codes "\r\n") ++ written_sections boundary texts) all refl;
  ends = ap is_delimiter (kind_dashed boundary []);
}

ends_feed : (text : List ℕ) → EndsLine (text ++ 13 ∷ 10 ∷ [])
ends_feed text =
    let long = length-append (text ++ 13 ∷ []) (10 ∷ []) in
    let whole : text ++ 13 ∷ 10 ∷ [] ≡ (text ++ 13 ∷ []) ++ 10 ∷ [] =
    sym (append_assoc text (13 ∷ []) (10 ∷ [])) in
    let last : length (text ++ 13 ∷ 10 ∷ []) - 1 ≡ length (text ++ 13 ∷ []) =
    omega (arith, ap length whole) in
    inr (ap (slice_index (text ++ 13 ∷ 10 ∷ [])) last
    ∙ ap (λ l. slice_index l (length (text ++ 13 ∷ []))) whole
    ∙ get_or_push (text ++ 13 ∷ []) 10 0 (length (text ++ 13 ∷ [])) refl)

texts_of : List PlainSection → List (List ℕ)
texts_of parts = map (λ s. s.text) parts

cut_at : (boundary : List ℕ) (texts : List (List ℕ)) (at : ℕ)
    → list_all is_line_byte boundary ≡ true
    → list_all (is_apart boundary) texts ≡ true
    → texts_of (sections boundary false at (lines_of (written_sections boundary texts))) ≡ texts
unfolding texts_of
cut_at boundary [] at all apart =
    ap (λ ls. texts_of (sections boundary false at ls)) (closing_lines boundary all)
    ∙ ap (λ (k : LineKind). texts_of
    (sections_with k (section_at boundary false (at + length (closing boundary))
    (lines_of [])) (sections boundary false (at + length (closing boundary)) (lines_of []))))
    (kind_dashed boundary (codes "--"))
cut_at boundary (text ∷ texts) at all apart =
    let both = and_parts (is_apart boundary text) (list_all (is_apart boundary) texts) apart in
    let line = text ++ codes "\r\n" in
    let more = written_sections boundary texts in
    let next = begins boundary texts all in
    let start = at + length (delimiter boundary) in
    let later = start + length (concat (lines_of line)) in
    let none : HasNone boundary (lines_of line) = not-true _ both.0 in
    let lines : lines_of (line ++ more) ≡ lines_of line ++ lines_of more =
    lines-append (length line) line more (omega arith) (ends_feed text) in
    let text_is : section_text boundary [] (lines_of (line ++ more)) ≡ text =
    ap (section_text boundary []) (lines ∙ ap (λ ls. lines_of line ++ ls) next.whole)
    ∙ text_before boundary [] (lines_of line) next.line next.back none next.ends
    ∙ ap without_terminator (concat-lines_of line)
    ∙ terminator_goes text in
    let rest_is : texts_of (sections boundary false start (lines_of (line ++ more))) ≡ texts =
    ap (λ ls. texts_of (sections boundary false start ls)) lines
    ∙ ap texts_of (sections_from boundary false start (lines_of line) (lines_of more) none)
    ∙ cut_at boundary texts later all both.1 in
    ap (λ ls. texts_of (sections boundary false at ls))
    (lines_dashed boundary (codes "\r") (line ++ more) all refl)
    ∙ ap (λ (k : LineKind). texts_of
    (sections_with k (section_at boundary false start (lines_of (line ++ more)))
    (sections boundary false start (lines_of (line ++ more))))) (kind_dashed boundary [])
    ∙ ap (λ (t : List ℕ). t ∷ texts_of (sections boundary false start (lines_of (line ++ more))))
    text_is
    ∙ ap (λ (l : List (List ℕ)). text ∷ l) rest_is

pub written_sections_are_cut : WrittenSectionsAreCut
unfolding texts_of
written_sections_are_cut boundary texts is apart =
    cut_at boundary texts 0
    (and_parts (nat_lt 0 (length boundary)) (list_all is_line_byte boundary) is).1 apart
