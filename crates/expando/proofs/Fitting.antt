-- The shape of a line: no wider than its columns, and without control characters.
use Rattle.std.proofs.Common.{◌≡◌, ◌+◌, ◌-◌, ◌*◌, ◌/◌, ◌%◌, ◌<◌, ◌≤◌, ◌&&◌, ◌==◌, ℕ, zero, suc}
use Rattle.std.proofs.Common.{Bool, true, false, not, List, [], ◌∷◌, ◌++◌, cond, map, replicate}
use Rattle.std.proofs.Common.{nat_le, nat_lt, min, refl, ap, sym, ◌∙◌, arith, append_assoc}
use Rattle.std.proofs.lemmas.Bool.Decides.{nat_tests}
use Rattle.std.specs.List.{flat_map, list_all}
use Rattle.std.specs.Str.{chars}
use Rattle.expando.specs.Columns.{blanks, columns_in, columns_of, is_control, kept, padded}
use Rattle.expando.specs.Columns.{shown_char, shown_text}
use Rattle.expando.specs.Cut.{shown}
use Rattle.expando.specs.Drawing.{Texts, branch_of, drawn, drawn_leaf, drawn_piece, field_chars}
use Rattle.expando.specs.Drawing.{shown_line}
use Rattle.expando.specs.Formats.{PlainPiece, Simple, Either}
use Rattle.expando.specs.Lines.{blank_in, filled, filler, laid, line_chars, spare}
use Rattle.expando.specs.declared.cell.Cell.{Cell}
use Rattle.expando.specs.declared.cell.Cell.TheVariants.{Shown, Gap, Rest}
use Rattle.expando.specs.declared.leaf.Leaf.{Leaf}
use Rattle.expando.specs.declared.leaf.Leaf.TheVariants.{Text, Value, Fill, ToEnd}
use Rattle.expando.proofs.LineLemmas.{blank_width}

-- Columns.

columns_in-append : (xs ys : List ℕ) → columns_in (xs ++ ys) ≡ columns_in xs + columns_in ys
columns_in-append [] ys = omega arith
columns_in-append (x ∷ xs) ys = omega (arith, columns_in-append xs ys)

columns_in-replicate : (n c width : ℕ) → columns_of c ≡ width
    → columns_in (replicate n c) ≡ n * width
columns_in-replicate zero c width is = omega arith
columns_in-replicate (suc n) c width is =
    ap (λ w. w + columns_in (replicate n c)) is
    ∙ ap (λ m. width + m) (columns_in-replicate n c width is)
    ∙ more n width
  where
    more : (n width : ℕ) → width + n * width ≡ suc n * width
    more n width = grind arith

filler_some : (c : ℕ) → 0 < columns_of (filler c)
filler_some c = by_test (columns_of c == 0) refl
  where
    by_test : (t : Bool) → (columns_of c == 0) ≡ t → 0 < columns_of (cond t 32 c)
    by_test true e = omega (arith, blank_width)
    by_test false e = grind (arith, nat_tests)

divided : (n width : ℕ) → 0 < width → n / width * width + n % width * 1 ≡ n
divided n width some = grind arith

-- what fills columns takes exactly these
pub filled-columns : (c count : ℕ) → columns_in (filled c count) ≡ count
filled-columns c count =
    let width = columns_of (filler c) in
    columns_in-append (replicate (count / width) (filler c)) (blanks (count % width))
    ∙ ap (λ n. n + columns_in (blanks (count % width)))
    (columns_in-replicate (count / width) (filler c) width refl)
    ∙ ap (λ n. count / width * width + n) (columns_in-replicate (count % width) 32 1 blank_width)
    ∙ divided count width (filler_some c)

true_le : (a b : ℕ) → nat_le a b ≡ true → a ≤ b
true_le a b test = grind (arith, nat_tests)

fits_more : (width cols more : ℕ) → width ≤ cols → more ≤ cols - width → width + more ≤ cols
fits_more width cols more first then = omega arith

blank_fits : (cols : ℕ) → columns_in (blank_in cols) ≤ cols
blank_fits cols = by_test (nat_lt 0 cols) refl
  where
    some : nat_lt 0 cols ≡ true → 1 ≤ cols
    some test = grind (arith, nat_tests)

    by_test : (t : Bool) → nat_lt 0 cols ≡ t → columns_in (cond t (32 ∷ []) []) ≤ cols
    by_test true e = omega (arith, blank_width, some e)
    by_test false e = omega arith

filled_fits : (c count left : ℕ) (rest : List ℕ) → count ≤ left → columns_in rest ≤ left - count
    → columns_in (filled c count ++ rest) ≤ left
filled_fits c count left rest within fits =
    omega (arith, columns_in-append (filled c count) rest, filled-columns c count)

laid_fits : (gap left : ℕ) (cells : List Cell) → columns_in (laid gap left cells) ≤ left
laid_fits gap left [] = omega arith
laid_fits gap left (Shown c ∷ rest) =
    by_test (nat_le (columns_of c) left) refl (laid_fits gap (left - columns_of c) rest)
  where
    by_test : (t : Bool) → nat_le (columns_of c) left ≡ t
        → columns_in (laid gap (left - columns_of c) rest) ≤ left - columns_of c
        → columns_in (cond t (c ∷ laid gap (left - columns_of c) rest) (blank_in left)) ≤ left
    by_test true e more =
        fits_more (columns_of c) left (columns_in (laid gap (left - columns_of c) rest))
        (true_le (columns_of c) left e) more
    by_test false e more = blank_fits left
laid_fits gap left (Gap c ∷ rest) =
    filled_fits c (min gap left) left (laid 0 (left - min gap left) rest) (omega arith)
    (laid_fits 0 (left - min gap left) rest)
laid_fits gap left (Rest c ∷ rest) =
    filled_fits c left left (laid gap 0 rest) (omega arith) (none (laid_fits gap 0 rest))
  where
    none : columns_in (laid gap 0 rest) ≤ 0 → columns_in (laid gap 0 rest) ≤ left - left
    none fits = omega arith

-- a line takes no more than its columns
pub line_fits : (cols : ℕ) (texts : Texts) (pieces : List PlainPiece)
    → columns_in (shown_line cols texts pieces) ≤ cols
line_fits cols texts pieces = laid_fits (spare cols (drawn texts pieces)) cols (drawn texts pieces)

-- Control characters.

abbrev is_plain : ℕ → Bool
is_plain c = not (is_control c)

abbrev all_plain : List ℕ → Bool
all_plain cs = list_all is_plain cs

and_both : (a b : Bool) → a ≡ true → b ≡ true → (a && b) ≡ true
and_both a b first second = ap (λ (t : Bool). t && b) first ∙ second

and_split : (a b : Bool) → (a && b) ≡ true → (a ≡ true) × (b ≡ true)
and_split true b both = (refl, both)
and_split false b both = absurd (cc)

list_all-append : {X : Type 0} (p : X → Bool) (xs ys : List X) → list_all p xs ≡ true
    → list_all p ys ≡ true
    → list_all p (xs ++ ys) ≡ true
list_all-append p [] ys first second = second
list_all-append p (x ∷ xs) ys first second =
    let both = and_split (p x) (list_all p xs) first in
    and_both (p x) (list_all p (xs ++ ys)) both.0 (list_all-append p xs ys both.1 second)

plain_times : (n c : ℕ) → is_plain c ≡ true → all_plain (replicate n c) ≡ true
plain_times zero c plain = refl
plain_times (suc n) c plain =
    and_both (is_plain c) (all_plain (replicate n c)) plain (plain_times n c plain)

plain_filler : (c : ℕ) → is_plain c ≡ true → is_plain (filler c) ≡ true
plain_filler c plain = by_test (columns_of c == 0)
  where
    by_test : (t : Bool) → is_plain (cond t 32 c) ≡ true
    by_test true = refl
    by_test false = plain

plain_filled : (c count : ℕ) → is_plain c ≡ true → all_plain (filled c count) ≡ true
plain_filled c count plain =
    let width = columns_of (filler c) in
    list_all-append is_plain (replicate (count / width) (filler c)) (blanks (count % width))
    (plain_times (count / width) (filler c) (plain_filler c plain))
    (plain_times (count % width) 32 refl)

plain_blank : (left : ℕ) → all_plain (blank_in left) ≡ true
plain_blank left = by_test (nat_lt 0 left)
  where
    by_test : (t : Bool) → all_plain (cond t (32 ∷ []) []) ≡ true
    by_test true = refl
    by_test false = refl

abbrev char_of : Cell → ℕ
char_of (Shown c) = c
char_of (Gap c) = c
char_of (Rest c) = c

abbrev plain_cell : Cell → Bool
plain_cell cell = is_plain (char_of cell)

laid_plain : (gap left : ℕ) (cells : List Cell) → list_all plain_cell cells ≡ true
    → all_plain (laid gap left cells) ≡ true
laid_plain gap left [] all = refl
laid_plain gap left (Shown c ∷ rest) all =
    let both = and_split (is_plain c) (list_all plain_cell rest) all in
    by_test (nat_le (columns_of c) left) both.0 (laid_plain gap (left - columns_of c) rest both.1)
  where
    by_test : (t : Bool) → is_plain c ≡ true
        → all_plain (laid gap (left - columns_of c) rest) ≡ true
        → all_plain (cond t (c ∷ laid gap (left - columns_of c) rest) (blank_in left)) ≡ true
    by_test true first more =
        and_both (is_plain c) (all_plain (laid gap (left - columns_of c) rest)) first more
    by_test false first more = plain_blank left
laid_plain gap left (Gap c ∷ rest) all =
    let both = and_split (is_plain c) (list_all plain_cell rest) all in
    list_all-append is_plain (filled c (min gap left)) (laid 0 (left - min gap left) rest)
    (plain_filled c (min gap left) both.0) (laid_plain 0 (left - min gap left) rest both.1)
laid_plain gap left (Rest c ∷ rest) all =
    let both = and_split (is_plain c) (list_all plain_cell rest) all in
    list_all-append is_plain (filled c left) (laid gap 0 rest) (plain_filled c left both.0)
    (laid_plain gap 0 rest both.1)

plain_char : (c : ℕ) → is_plain (shown_char c) ≡ true
plain_char c = by_test (is_control c) refl
  where
    by_test : (t : Bool) → is_control c ≡ t → is_plain (cond t 63 c) ≡ true
    by_test true e = refl
    by_test false e = ap not e

plain_chars : (cs : List ℕ) → all_plain (map shown_char cs) ≡ true
plain_chars [] = refl
plain_chars (c ∷ rest) =
    and_both (is_plain (shown_char c)) (all_plain (map shown_char rest)) (plain_char c)
    (plain_chars rest)

plain_kept : (limit : ℕ) (cs : List ℕ) → all_plain cs ≡ true → all_plain (kept limit cs) ≡ true
plain_kept limit [] all = refl
plain_kept limit (c ∷ rest) all =
    let both = and_split (is_plain c) (all_plain rest) all in
    by_test (nat_le (columns_of c) limit) both.0 (plain_kept (limit - columns_of c) rest both.1)
  where
    by_test : (t : Bool) → is_plain c ≡ true → all_plain (kept (limit - columns_of c) rest) ≡ true
        → all_plain (cond t (c ∷ kept (limit - columns_of c) rest) []) ≡ true
    by_test true first more =
        and_both (is_plain c) (all_plain (kept (limit - columns_of c) rest)) first more
    by_test false first more = refl

plain_padded : (left : Bool) (width : ℕ) (cs : List ℕ) → all_plain cs ≡ true
    → all_plain (padded left width cs) ≡ true
plain_padded true width cs all =
    list_all-append is_plain cs (blanks (width - columns_in cs)) all
    (plain_times (width - columns_in cs) 32 refl)
plain_padded false width cs all =
    list_all-append is_plain (blanks (width - columns_in cs)) cs
    (plain_times (width - columns_in cs) 32 refl) all

shown_plain : (cs : List ℕ) → all_plain cs ≡ true → list_all plain_cell (map Shown cs) ≡ true
shown_plain [] all = refl
shown_plain (c ∷ rest) all =
    let both = and_split (is_plain c) (all_plain rest) all in
    and_both (is_plain c) (list_all plain_cell (map Shown rest)) both.0 (shown_plain rest both.1)

one_plain : (c : ℕ) → (is_plain (shown_char c) && true) ≡ true
one_plain c = and_both (is_plain (shown_char c)) true (plain_char c) refl

leaf_plain : (texts : Texts) (leaf : Leaf (List ℕ))
    → list_all plain_cell (drawn_leaf texts leaf) ≡ true
leaf_plain texts (Text c) = one_plain c
leaf_plain texts (Value field) =
    let text = texts field.letter.sign field.letter.inner in
    shown_plain (field_chars texts field)
    (plain_padded field.left field.width (kept field.limit (shown_text text))
    (plain_kept field.limit (shown_text text) (plain_chars (chars text))))
leaf_plain texts (Fill c) = one_plain c
leaf_plain texts (ToEnd c) = one_plain c

flat_plain : {X : Type 0} (f : X → List Cell) (xs : List X)
    → ((x : X) → list_all plain_cell (f x) ≡ true)
    → list_all plain_cell (flat_map f xs) ≡ true
flat_plain f [] each = refl
flat_plain f (x ∷ xs) each =
    list_all-append plain_cell (f x) (flat_map f xs) (each x) (flat_plain f xs each)

piece_plain : (texts : Texts) (piece : PlainPiece)
    → list_all plain_cell (drawn_piece texts piece) ≡ true
piece_plain texts (Simple leaf) = leaf_plain texts leaf
piece_plain texts (Either choice) =
    flat_plain (drawn_leaf texts) (branch_of texts choice) (leaf_plain texts)

-- a line has no control character
pub line_plain : (cols : ℕ) (texts : Texts) (pieces : List PlainPiece)
    → list_all (λ c. not (is_control c)) (shown_line cols texts pieces) ≡ true
line_plain cols texts pieces =
    laid_plain (spare cols (drawn texts pieces)) cols (drawn texts pieces)
    (flat_plain (drawn_piece texts) pieces (piece_plain texts))

-- Texts that are cut.

-- a line that shows a text takes no more than the columns
pub text_fits : (cols : ℕ) (text : List ℕ) → columns_in (shown cols text) ≤ cols
text_fits cols text = laid_fits 0 cols (map Shown (shown_text text))

-- and has no control character
pub text_plain : (cols : ℕ) (text : List ℕ)
    → list_all (λ c. not (is_control c)) (shown cols text) ≡ true
text_plain cols text = laid_plain 0 cols (map Shown (shown_text text))
    (shown_plain (shown_text text) (plain_chars (chars text)))

-- Gaps.

fits_split : (width more cols : ℕ) → width + more ≤ cols → (width ≤ cols) × (more ≤ cols - width)
fits_split width more cols fits = (omega arith, omega arith)

le_true : (a b : ℕ) → a ≤ b → nat_le a b ≡ true
le_true a b le = grind (arith, nat_tests)

-- characters that fit are laid as they are
laid_whole : (gap left : ℕ) (cs : List ℕ) → columns_in cs ≤ left → laid gap left (map Shown cs) ≡ cs
laid_whole gap left [] fits = refl
laid_whole gap left (c ∷ cs) fits =
    let parts = fits_split (columns_of c) (columns_in cs) left fits in
    ap (λ t. cond t (c ∷ laid gap (left - columns_of c) (map Shown cs)) (blank_in left))
    (le_true (columns_of c) left parts.0)
    ∙ ap (λ l. c ∷ l) (laid_whole gap (left - columns_of c) cs parts.1)

-- and those before others, where they leave enough
laid_front : (gap left : ℕ) (cs : List ℕ) (rest : List Cell) → columns_in cs ≤ left
    → laid gap left (map Shown cs ++ rest) ≡ cs ++ laid gap (left - columns_in cs) rest
laid_front gap left [] rest fits = ap (λ n. laid gap n rest) (sym (sub_zero left))
  where
    sub_zero : (n : ℕ) → n - 0 ≡ n
    sub_zero n = omega arith
laid_front gap left (c ∷ cs) rest fits =
    let parts = fits_split (columns_of c) (columns_in cs) left fits in
    ap (λ t. cond t (c ∷ laid gap (left - columns_of c) (map Shown cs ++ rest)) (blank_in left))
    (le_true (columns_of c) left parts.0)
    ∙ ap (λ l. c ∷ l) (laid_front gap (left - columns_of c) cs rest parts.1)
    ∙ ap (λ n. c ∷ (cs ++ laid gap n rest)) (sub_twice left (columns_of c) (columns_in cs))
  where
    sub_twice : (n a b : ℕ) → n - a - b ≡ n - (a + b)
    sub_twice n a b = omega arith

spare_front : (left : ℕ) (cs : List ℕ) (rest : List Cell)
    → spare left (map Shown cs ++ rest) ≡ spare (left - columns_in cs) rest
spare_front left [] rest = ap (λ n. spare n rest) (sub_zero left)
  where
    sub_zero : (n : ℕ) → n ≡ n - 0
    sub_zero n = omega arith
spare_front left (c ∷ cs) rest =
    spare_front (left - columns_of c) cs rest
    ∙ ap (λ n. spare n rest) (sub_twice left (columns_of c) (columns_in cs))
  where
    sub_twice : (n a b : ℕ) → n - a - b ≡ n - (a + b)
    sub_twice n a b = omega arith

spare_whole : (left : ℕ) (cs : List ℕ) → spare left (map Shown cs) ≡ left - columns_in cs
spare_whole left [] = sub_zero left
  where
    sub_zero : (n : ℕ) → n ≡ n - 0
    sub_zero n = omega arith
spare_whole left (c ∷ cs) =
    spare_whole (left - columns_of c) cs ∙ sub_twice left (columns_of c) (columns_in cs)
  where
    sub_twice : (n a b : ℕ) → n - a - b ≡ n - (a + b)
    sub_twice n a b = omega arith

gap_size : (cols front back : ℕ) → front + back ≤ cols
    → min (cols - front - back) (cols - front) ≡ cols - (front + back)
gap_size cols front back fits = omega arith

back_fits : (cols front back : ℕ) → front + back ≤ cols
    → back ≤ cols - front - (cols - (front + back))
back_fits cols front back fits = omega arith

front_fits : (cols front back : ℕ) → front + back ≤ cols → front ≤ cols
front_fits cols front back fits = omega arith

-- what follows a gap ends at the last column
pub ends_at_the_last : (cols c : ℕ) (front back : List ℕ)
    → columns_in front + columns_in back ≤ cols
    → line_chars cols (map Shown front ++ Gap c ∷ map Shown back)
    ≡ front ++ filled c (cols - (columns_in front + columns_in back)) ++ back
ends_at_the_last cols c front back fits =
    let before = columns_in front in
    let after = columns_in back in
    let gap = cols - before - after in
    let size = cols - (before + after) in
    ap (λ n. laid n cols (map Shown front ++ Gap c ∷ map Shown back))
    (spare_front cols front (Gap c ∷ map Shown back) ∙ spare_whole (cols - before) back)
    ∙ laid_front gap cols front (Gap c ∷ map Shown back) (front_fits cols before after fits)
    ∙ ap (λ n. front ++ (filled c n ++ laid 0 (cols - before - n) (map Shown back)))
    (gap_size cols before after fits)
    ∙ ap (λ l. front ++ (filled c size ++ l))
    (laid_whole 0 (cols - before - size) back (back_fits cols before after fits))
    ∙ sym (append_assoc front (filled c size) back)
