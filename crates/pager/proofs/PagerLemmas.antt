-- The lines of a pager, with and without those that quote.
use Rattle.std.proofs.Common.{◌≡◌, ℕ, zero, suc, ◌+◌, ◌-◌, ◌<◌, Bool, true, false, not, List}
use Rattle.std.proofs.Common.{[], ◌∷◌, ◌++◌, cond, length, get_or, take, drop, map, replicate, refl}
use Rattle.std.proofs.Common.{ap, ◌≤◌, ◌^◌, min, sum_by}
use Rattle.std.proofs.lemmas.List.Sums.{sum_by-cons}
use Rattle.std.proofs.Common.{sym, ◌∙◌, arith, append_assoc, length-append}
use Rattle.std.proofs.lemmas.Bool.{and_parts, and_from}
use Rattle.std.proofs.lemmas.List.{at_drop_more, drop_all, get_or_at, length-replicate}
use Rattle.std.proofs.lemmas.List.{length_push}
use Rattle.std.proofs.lemmas.List.{map-append, take_more}
use Rattle.std.proofs.lemmas.List.Folds.{list_all-append}
use Rattle.std.specs.List.{list_all, range_with_len}
use Rattle.std.specs.Prelude.{Some, None, slice_get}
use Rattle.mail_base.specs.Series.{Held}
use Rattle.pager.specs.Broken.{broken, is_shown}
use Rattle.pager.specs.Fields.{IsPaged, texts_at}
use Rattle.pager.specs.Inner.{unquoted_at, unquoted_places}
use Rattle.pager.specs.Pager.{PlainPager, broken_lines, opened}
use Rattle.pager.specs.Quoted.{is_quoted, unquoted}

-- the texts from a place on, as many as stand there
texts_in_range : (front texts more : List (List ℕ))
    → texts_at (front ++ (texts ++ more)) (range_with_len (length front) (length texts)) ≡ texts
texts_in_range front [] more = refl
texts_in_range front (text ∷ texts) more =
    ap (λ s. s ∷ texts_at (front ++ (text ∷ texts ++ more))
    (range_with_len (length front + 1) (length texts)))
    (get_or_at front text (texts ++ more) [] (length front) refl)
    ∙ ap (λ n. text ∷ texts_at (front ++ (text ∷ texts ++ more))
    (range_with_len n (length texts))) (sym (length_push front text))
    ∙ ap (λ s. text ∷ texts_at s (range_with_len (length (front ++ text ∷ [])) (length texts)))
    (sym (append_assoc front (text ∷ []) (texts ++ more)))
    ∙ ap (λ s. text ∷ s) (texts_in_range (front ++ text ∷ []) texts more)

unquoted_from : (cols : ℕ) (front lines : List (List ℕ))
    → texts_at (front ++ broken_lines cols lines) (unquoted_places cols (length front) lines)
    ≡ broken_lines cols (unquoted lines)
unquoted_from cols front [] = refl
unquoted_from cols front (line ∷ lines) =
    by_test (is_quoted line) (unquoted_from cols (front ++ broken cols line) lines)
  where
    later : texts_at ((front ++ broken cols line) ++ broken_lines cols lines)
        (unquoted_places cols (length (front ++ broken cols line)) lines)
        ≡ broken_lines cols (unquoted lines)
        → texts_at (front ++ (broken cols line ++ broken_lines cols lines))
        (unquoted_places cols (length front + length (broken cols line)) lines)
        ≡ broken_lines cols (unquoted lines)
    later same =
        ap (λ n. texts_at (front ++ (broken cols line ++ broken_lines cols lines))
        (unquoted_places cols n lines)) (sym (length-append front (broken cols line)))
        ∙ ap (λ s. texts_at s (unquoted_places cols (length (front ++ broken cols line)) lines))
        (sym (append_assoc front (broken cols line) (broken_lines cols lines))) ∙ same

    by_test : (t : Bool) → texts_at ((front ++ broken cols line) ++ broken_lines cols lines)
        (unquoted_places cols (length (front ++ broken cols line)) lines)
        ≡ broken_lines cols (unquoted lines)
        → texts_at (front ++ (broken cols line ++ broken_lines cols lines))
        (cond t [] (range_with_len (length front) (length (broken cols line)))
        ++ unquoted_places cols (length front + length (broken cols line)) lines)
        ≡ broken_lines cols (cond (not t) (line ∷ unquoted lines) (unquoted lines))
    by_test true same = later same
    by_test false same =
        map-append _ (range_with_len (length front) (length (broken cols line)))
        (unquoted_places cols (length front + length (broken cols line)) lines)
        ∙ ap (λ s. s ++ texts_at (front ++ (broken cols line ++ broken_lines cols lines))
        (unquoted_places cols (length front + length (broken cols line)) lines))
        (texts_in_range front (broken cols line) (broken_lines cols lines))
        ∙ ap (λ s. broken cols line ++ s) (later same)

-- the texts at the places of unquoted lines are their pieces
pub unquoted_texts : (cols : ℕ) (lines : List (List ℕ))
    → texts_at (broken_lines cols lines) (unquoted_places cols 0 lines)
    ≡ broken_lines cols (unquoted lines)
unquoted_texts cols lines = unquoted_from cols [] lines

-- a text of those that can be shown can be shown, and so can none
pub text_shown : (cols : ℕ) (texts : List (List ℕ)) (place : ℕ) → is_shown cols [] ≡ true
    → list_all (is_shown cols) texts ≡ true → is_shown cols (get_or texts place []) ≡ true
text_shown cols [] place none all = none
text_shown cols (text ∷ texts) zero none all =
    (and_parts (is_shown cols text) (list_all (is_shown cols) texts) all).0
text_shown cols (text ∷ texts) (suc place) none all =
    text_shown cols texts place none
    (and_parts (is_shown cols text) (list_all (is_shown cols) texts) all).1

-- so can all at some places
pub texts_shown : (cols : ℕ) (texts : List (List ℕ)) (places : List ℕ) → is_shown cols [] ≡ true
    → list_all (is_shown cols) texts ≡ true
    → list_all (is_shown cols) (texts_at texts places) ≡ true
texts_shown cols texts [] none all = refl
texts_shown cols texts (place ∷ places) none all =
    and_from _ _ (text_shown cols texts place none all) (texts_shown cols texts places none all)

-- the lines behind the last are empty
pub filled_row : (lines : List (List ℕ)) (rows row : ℕ)
    → get_or (lines ++ replicate rows []) row [] ≡ get_or lines row []
filled_row [] zero row = refl
filled_row [] (suc rows) zero = refl
filled_row [] (suc rows) (suc row) = filled_row [] rows row
filled_row (line ∷ lines) rows zero = refl
filled_row (line ∷ lines) rows (suc row) = filled_row lines rows row

range_next : (place to : ℕ) → place < to → range_with_len place (to - place)
    ≡ place ∷ range_with_len (place + 1) (to - (place + 1))
range_next place to below =
    let more : to - place ≡ suc (to - (place + 1)) = omega arith in
    ap (range_with_len place) more

-- one more place is noted
pub places_turn : (places new all : List ℕ) (place to : ℕ) → new ≡ places ++ place ∷ [] → place < to
    → places ++ range_with_len place (to - place) ≡ all
    → new ++ range_with_len (place + 1) (to - (place + 1)) ≡ all
places_turn places new all place to is below before =
    ap (λ s. s ++ range_with_len (place + 1) (to - (place + 1))) is
    ∙ append_assoc places (place ∷ []) (range_with_len (place + 1) (to - (place + 1)))
    ∙ ap (λ s. places ++ s) (sym (range_next place to below))
    ∙ before

-- the text at the place of a number
pub place_text : (texts : List (List ℕ)) (places : List ℕ) (number place : ℕ)
    → slice_get places number ≡ Some place
    → get_or (texts_at texts places) number [] ≡ get_or texts place []
place_text texts [] number place is = absurd (cc)
place_text texts (first ∷ places) zero place is = ap (λ n. get_or texts n []) (some_same is)
  where
    some_same : Some first ≡ Some place → first ≡ place
    some_same is = cc
place_text texts (first ∷ places) (suc number) place is = place_text texts places number place is

-- there is none where there is no place
pub no_text : (texts : List (List ℕ)) (places : List ℕ) (number : ℕ)
    → slice_get places number ≡ None → get_or (texts_at texts places) number [] ≡ []
no_text texts [] number is = refl
no_text texts (first ∷ places) zero is = absurd (cc)
no_text texts (first ∷ places) (suc number) is = no_text texts places number is

-- one more row of a page
pub rows_turn : (done new lines : List (List ℕ)) (rows row : ℕ) (text : List ℕ)
    → new ≡ done ++ text ∷ [] → text ≡ get_or lines row [] → row < rows
    → done ≡ take row (lines ++ replicate rows [])
    → new ≡ take (row + 1) (lines ++ replicate rows [])
rows_turn done new lines rows row text is at below before =
    is ∙ ap (λ s. s ++ text ∷ []) before
    ∙ ap (λ s. take row (lines ++ replicate rows []) ++ s ∷ [])
    (at ∙ sym (filled_row lines rows row))
    ∙ sym (take_more (lines ++ replicate rows []) row [] enough)
  where
    enough : row < length (lines ++ replicate rows [])
    enough =
        omega (
          arith,
          length-append lines (replicate rows []),
          length-replicate {A = List ℕ} rows [],
        )

-- with one more that can be shown all can be
pub shown_push : (cols : ℕ) (done new : List (List ℕ)) (text : List ℕ) → new ≡ done ++ text ∷ []
    → list_all (is_shown cols) done ≡ true → is_shown cols text ≡ true
    → list_all (is_shown cols) new ≡ true
shown_push cols done new text is all one =
    ap (list_all (is_shown cols)) is ∙ list_all-append (is_shown cols) done (text ∷ [])
    ∙ and_from _ _ all (and_from _ _ one refl)

-- one more line
pub plain_push : (lines new : List (Held ℕ)) (line : Held ℕ) (text : List ℕ)
    → new ≡ lines ++ line ∷ [] → line.items ≡ text
    → map (λ (l : Held ℕ). l.items) new ≡ map (λ (l : Held ℕ). l.items) lines ++ text ∷ []
plain_push lines new line text is holds =
    ap (map (λ (l : Held ℕ). l.items)) is
    ∙ map-append (λ (l : Held ℕ). l.items) lines (line ∷ [])
    ∙ ap (λ s. map (λ (l : Held ℕ). l.items) lines ++ s ∷ []) holds

-- the lines from one on, less that one
lines_next : (lines : List (Held ℕ)) (n : ℕ) (line : Held ℕ) → n < length lines
    → line ≡ get_or lines n line
    → map (λ (l : Held ℕ). l.items) (drop n lines)
    ≡ line.items ∷ map (λ (l : Held ℕ). l.items) (drop (n + 1) lines)
lines_next lines n line below is =
    at_drop_more (map (λ (l : Held ℕ). l.items)) lines n line below
    ∙ ap (λ (l : Held ℕ). l.items ∷ map (λ (l : Held ℕ). l.items) (drop (n + 1) lines)) (sym is)

-- the pieces of one more line are added
pub pieces_turn : (cols : ℕ) (done new all : List (List ℕ)) (lines : List (Held ℕ)) (n : ℕ)
    (line : Held ℕ) → n < length lines → line ≡ get_or lines n line
    → new ≡ done ++ broken cols line.items
    → done ++ broken_lines cols (map (λ (l : Held ℕ). l.items) (drop n lines)) ≡ all
    → new ++ broken_lines cols (map (λ (l : Held ℕ). l.items) (drop (n + 1) lines)) ≡ all
pieces_turn cols done new all lines n line below is more before =
    ap (λ s. s ++ broken_lines cols (map (λ (l : Held ℕ). l.items) (drop (n + 1) lines))) more
    ∙ append_assoc done (broken cols line.items) _
    ∙ ap (λ s. done ++ broken_lines cols s) (sym (lines_next lines n line below is))
    ∙ before

-- the places of one more line are noted
pub noted_turn : (cols : ℕ) (done new : List (List ℕ)) (places noted all : List ℕ)
    (lines : List (Held ℕ)) (n : ℕ) (line : Held ℕ) → n < length lines → line ≡ get_or lines n line
    → new ≡ done ++ broken cols line.items
    → noted ≡ places ++ unquoted_at cols (length done) line.items
    → places ++ unquoted_places cols (length done) (map (λ (l : Held ℕ). l.items) (drop n lines))
    ≡ all
    → noted ++ unquoted_places cols (length new)
    (map (λ (l : Held ℕ). l.items) (drop (n + 1) lines)) ≡ all
noted_turn cols done new places noted all lines n line below is more note before =
    ap (λ s. s ++ unquoted_places cols (length new)
    (map (λ (l : Held ℕ). l.items) (drop (n + 1) lines))) note
    ∙ ap (λ k. (places ++ unquoted_at cols (length done) line.items) ++ unquoted_places cols k
    (map (λ (l : Held ℕ). l.items) (drop (n + 1) lines)))
    (ap length more ∙ length-append done (broken cols line.items))
    ∙ append_assoc places (unquoted_at cols (length done) line.items) _
    ∙ ap (λ s. places ++ unquoted_places cols (length done) s)
    (sym (lines_next lines n line below is))
    ∙ before

-- with the pieces of one more line all can be shown
pub shown_turn : (cols : ℕ) (done new more : List (List ℕ)) → new ≡ done ++ more
    → list_all (is_shown cols) done ≡ true → list_all (is_shown cols) more ≡ true
    → list_all (is_shown cols) new ≡ true
shown_turn cols done new more is all these =
    ap (list_all (is_shown cols)) is ∙ list_all-append (is_shown cols) done more
    ∙ and_from _ _ all these

abbrev with_unquoted : PlainPager → List (List ℕ) → PlainPager
with_unquoted pager lines = record pager { unquoted = lines }

-- a pager by its texts and the places of those that quote nothing
abbrev pub pager_of : ℕ → List (List ℕ) → List ℕ → List (List ℕ) → PlainPager
pager_of cols texts places rows = record {
  cols = cols;
  all = texts;
  unquoted = texts_at texts places;
  hidden = false;
  top = 0;
  attachments = rows;
}

-- it keeps what a pager keeps
pub is_paged : (cols : ℕ) (texts : List (List ℕ)) (places : List ℕ) (rows : List (List ℕ))
    → is_shown cols [] ≡ true → list_all (is_shown cols) texts ≡ true
    → IsPaged (pager_of cols texts places rows)
is_paged cols texts places rows none all = record {
  all = all;
  unquoted = texts_shown cols texts places none all;
  top = omega arith;
}

-- it is the pager of lines
pub is_opened : (cols : ℕ) (lines texts : List (List ℕ)) (places : List ℕ) (rows : List (List ℕ))
    → texts ≡ broken_lines cols lines → places ≡ unquoted_places cols 0 lines
    → pager_of cols texts places rows ≡ opened cols lines rows
is_opened cols lines texts places rows all noted =
    ap (λ texts. pager_of cols texts places rows) all
    ∙ ap (λ places. pager_of cols (broken_lines cols lines) places rows) noted
    ∙ ap (with_unquoted (opened cols lines rows)) (unquoted_texts cols lines)

-- the bytes of lines
abbrev pub bytes_in : List (Held ℕ) → ℕ
bytes_in lines = sum_by length (map (λ (l : Held ℕ). l.items) lines)

-- one more line is counted
pub size_turn : (size new len all : ℕ) (lines : List (Held ℕ)) (n : ℕ) (line : Held ℕ)
    → n < length lines → line ≡ get_or lines n line → len ≡ length line.items
    → new ≡ min (size + len) (2 ^ 64 - 1)
    → min (size + bytes_in (drop n lines)) (2 ^ 64 - 1) ≡ all
    → min (new + bytes_in (drop (n + 1) lines)) (2 ^ 64 - 1) ≡ all
size_turn size new len all lines n line below is long more before =
    let total : bytes_in (drop n lines) ≡ length line.items + bytes_in (drop (n + 1) lines) =
    ap (sum_by length) (lines_next lines n line below is)
    ∙ sum_by-cons length line.items (map (λ (l : Held ℕ). l.items) (drop (n + 1) lines)) in
    omega arith

-- all lines are counted
pub size_all : (size all : ℕ) (lines : List (Held ℕ)) (n : ℕ) → length lines ≤ n
    → size ≤ 2 ^ 64 - 1
    → min (size + bytes_in (drop n lines)) (2 ^ 64 - 1) ≡ all → size ≡ all
size_all size all lines n past fits before =
    let none : bytes_in (drop n lines) ≡ 0 = ap bytes_in (drop_all n lines past) in
    omega arith
