-- The lines that begin with two dashes behind the header block of a part.
use Rattle.std.proofs.Common.{◌≡◌, ℕ, ◌+◌, ◌-◌, ◌≤◌, ◌<◌, Bool, true, false, nat_lt, List, [], ◌∷◌}
use Rattle.std.proofs.Common.{◌++◌, length, take, drop, Option, Some, None, refl, sym, ap, ◌∙◌}
use Rattle.std.proofs.Common.{arith, length-append, append_assoc}
use Rattle.std.specs.Prelude.{if◌then◌else◌}
use Rattle.std.proofs.Common.{suc, cond, not, nat_le, map}
use Rattle.std.specs.List.{concat, position_or_len}
use Rattle.std.proofs.lemmas.Bool.{ltb-true, ltb-false, leb-true, leb-false}
use Rattle.std.proofs.lemmas.Bool.Decides.{nat_tests}
use Rattle.std.proofs.lemmas.List.Folds.{concat-append}
use Rattle.bstr.specs.Text.{lines_of}
use Rattle.bstr.proofs.lemmas.RestLemmas.{concat-lines_of}
use Rattle.mail_base.specs.Lines.{after_block, behind_first, body_of, header_block}
use Rattle.mail_base.proofs.LinesLemmas.{both_blocks, lines-after_block, lines-body_of}
use Rattle.mime_tree.specs.DashLines.{DashLine, behind_dashes, dash_lines, dash_lines_with}
use Rattle.mime_tree.specs.DashLines.{dash_starts, from_place, starts_from}

keep_first : (place at : ℕ) (text : List ℕ) (more : List DashLine) → place ≤ at
    → from_place place (dash_lines_with at (Some text) more) ≡ dash_lines_with at (Some text) more
keep_first place at text more le =
    let test : nat_lt at place ≡ false = grind (arith, nat_tests) in
    rw test refl

skip_first : (place at : ℕ) (text : List ℕ) (more : List DashLine) → at < place
    → from_place place (dash_lines_with at (Some text) more) ≡ from_place place more
skip_first place at text more less =
    let test : nat_lt at place ≡ true = grind (arith, nat_tests) in
    rw test refl

keep_next : (place at : ℕ) (o : Option (List ℕ)) (more : List DashLine) → place ≤ at
    → from_place place more ≡ more
    → from_place place (dash_lines_with at o more) ≡ dash_lines_with at o more
keep_next place at None more le same = same
keep_next place at (Some text) more le same = keep_first place at text more le

-- the lines that begin at a place or behind it stay
from_behind : (place at : ℕ) (lines : List (List ℕ)) → place ≤ at
    → from_place place (dash_lines at lines) ≡ dash_lines at lines
from_behind place at [] le = refl
from_behind place at (line ∷ lines) le =
    keep_next place at (behind_dashes line) _ le
    (from_behind place (at + length line) lines (omega (arith, le)))

some_bytes : (line text : List ℕ) → behind_dashes line ≡ Some text → 0 < length line
some_bytes [] text e = absurd (cc)
some_bytes (b ∷ rest) text e = omega arith

skip_next : (place at : ℕ) (line : List ℕ) (o : Option (List ℕ)) (more all : List DashLine)
    → behind_dashes line ≡ o → at + length line ≤ place → from_place place more ≡ all
    → from_place place (dash_lines_with at o more) ≡ all
skip_next place at line None more all e le same = same
skip_next place at line (Some text) more all e le same =
    skip_first place at text more (omega (arith, some_bytes line text e, le)) ∙ same

-- those that end before it go
from_front : (place at : ℕ) (front back : List (List ℕ)) → at + length (concat front) ≤ place
    → from_place place (dash_lines at (front ++ back))
    ≡ from_place place (dash_lines (at + length (concat front)) back)
from_front place at [] back le =
    let same : at ≡ at + 0 = omega arith in
    ap (λ n. from_place place (dash_lines n back)) same
from_front place at (line ∷ front) back le =
    let size = length-append line (concat front) in
    let same : at + length line + length (concat front) ≡ at + length (concat (line ∷ front)) =
    omega (arith, size) in
    skip_next place at line (behind_dashes line) _ _ refl (omega (arith, size, le))
    (from_front place (at + length line) front back (omega (arith, same, le)))
    ∙ ap (λ n. from_place place (dash_lines n back)) same

-- the lines up to the empty one that ends the header block
abbrev head : List ℕ → List (List ℕ)
head text = header_block (lines_of text) ++ take 1 (after_block (lines_of text))

abbrev back : List ℕ → List (List ℕ)
back text = behind_first (after_block (lines_of text))

first_back : (lines : List (List ℕ)) → lines ≡ take 1 lines ++ behind_first lines
first_back [] = refl
first_back (line ∷ lines) = refl

head_back : (text : List ℕ) → lines_of text ≡ head text ++ back text
head_back text =
    both_blocks (lines_of text)
    ∙ ap (λ ls. header_block (lines_of text) ++ ls) (first_back (after_block (lines_of text)))
    ∙ sym (append_assoc (header_block (lines_of text)) (take 1 (after_block (lines_of text)))
    (back text))

body_is : (text : List ℕ) → body_of text ≡ concat (back text)
body_is text = ap (λ ls. concat (behind_first ls)) (lines-after_block text)

head_size : (text : List ℕ) → length text - length (body_of text) ≡ length (concat (head text))
head_size text =
    omega (
      arith,
      ap length (body_is text),
      length-append (concat (head text)) (concat (back text)),
      ap length
          (sym (concat-lines_of text) ∙ ap concat (head_back text)
          ∙ concat-append (head text) (back text)),
    )

-- the lines of a part that start in its body are those of its body
body_marked : (start : ℕ) (text : List ℕ)
    → let place = start + (length text - length (body_of text)) in
    from_place place (dash_lines start (lines_of text)) ≡ dash_lines place (lines_of (body_of text))
body_marked start text =
    let place = start + (length text - length (body_of text)) in
    let same : start + length (concat (head text)) ≡ place = omega (arith, head_size text) in
    ap (λ ls. from_place place (dash_lines start ls)) (head_back text)
    ∙ from_front place start (head text) (back text) (omega (arith, same))
    ∙ ap (λ n. from_place place (dash_lines n (back text))) same
    ∙ from_behind place place (back text) (omega arith)
    ∙ ap (dash_lines place) (sym (lines-body_of text))

starts_of : (place : ℕ) (lines : List DashLine)
    → starts_from place (map (λ d. d.start) lines) ≡ map (λ d. d.start) (from_place place lines)
starts_of place [] = refl
starts_of place (line ∷ lines) =
    by_place (nat_lt line.start place) (nat_le place line.start) refl refl
    (starts_of place lines)
  where
    by_place : (before past : Bool) → nat_lt line.start place ≡ before
        → nat_le place line.start ≡ past
        → starts_from place (map (λ d. d.start) lines) ≡ map (λ d. d.start) (from_place place lines)
        → drop (cond (not past)
        (1 + position_or_len (λ at. nat_le place at) (map (λ d. d.start) lines)) 0)
        (line.start ∷ map (λ d. d.start) lines)
        ≡ map (λ d. d.start) (if before then from_place place lines else line ∷ lines)
    by_place true true b p more = absurd (omega (arith, ltb-true _ _ b, leb-true _ _ p))
    by_place false false b p more = absurd (omega (arith, ltb-false _ _ b, leb-false _ _ p))
    by_place true false b p more =
        let next : 1 + position_or_len (λ at. nat_le place at) (map (λ d. d.start) lines)
        ≡ suc (position_or_len (λ at. nat_le place at) (map (λ d. d.start) lines)) = omega arith in
        ap (λ n. drop n (line.start ∷ map (λ d. d.start) lines)) next ∙ more
    by_place false true b p more = refl

-- the places of a part that start in its body are those of its body
pub body_starts : (start : ℕ) (text : List ℕ)
    → let place = start + (length text - length (body_of text)) in
    starts_from place (dash_starts start (lines_of text))
    ≡ dash_starts place (lines_of (body_of text))
body_starts start text =
    let place = start + (length text - length (body_of text)) in
    starts_of place (dash_lines start (lines_of text))
    ∙ ap (map (λ d. d.start)) (body_marked start text)
