-- Formats that are written are read as themselves.
use Rattle.std.proofs.Common.{◌≡◌, ◌==◌, ◌+◌, ◌-◌, ◌<◌, ◌≤◌, ◌^◌, ◌&&◌, ◌++◌, ℕ, Bool, true, false}
use Rattle.std.proofs.Common.{not, List, [], ◌∷◌, Option, Some, None, Ok, drop, take, get_or}
use Rattle.std.proofs.Common.{length, nat_le, nat_lt, option_map, refl, sym, ap, subst, ◌∙◌, arith}
use Rattle.std.proofs.Common.{append_assoc, length-append, position}
use Rattle.std.proofs.Math.Seq.{drop-append_seam, take-append_seam, drop-append-add}
use Rattle.std.proofs.lemmas.Bool.{and_parts, eqb-true, false≢true}
use Rattle.std.proofs.lemmas.Bool.Decides.{nat_tests}
use Rattle.std.proofs.lemmas.List.Folds.{list_all-append}
use Rattle.std.proofs.lemmas.Fmt.{decimal_digit, decimal_nonempty, digits_decimal}
use Rattle.std.proofs.lemmas.Fmt.{digits_value-decimal, first_decimal}
use Rattle.std.proofs.lemmas.Str.{length-encode, len_utf8_bounds}
use Rattle.std.specs.Char.{is_ascii_digit}
use Rattle.std.specs.Fmt.{decimal}
use Rattle.std.specs.List.{flat_map, list_all, list_any, position_or_len}
use Rattle.std.specs.Prelude.{codes, encode_utf8, if◌then◌else◌, is_some, min, ok_or}
use Rattle.std.specs.Str.{all_ascii_digits, bytes_eq}
use Rattle.std.specs.Str.Parse.{digits_value}
use Rattle.bstr.specs.Utf8.{Decoded, decoded, good}
use Rattle.bstr.proofs.lemmas.EncodeLemmas.{decoded-encode}
use Rattle.mail_base.specs.Fronts.{◌>>=◌, behind}
use Rattle.mail_base.specs.Places.{around, split_once}
use Rattle.mail_base.proofs.RoundPlaces.{prefix_stop}
use Rattle.expando.specs.Fields.{field_at, limit_at, limit_behind, side_at, width_at}
use Rattle.expando.specs.Formats.{PlainChoice, PlainPiece, Simple, Either, PlainCondition}
use Rattle.expando.specs.Formats.{begins_condition, branches, choice_of, condition_at, first_choice}
use Rattle.expando.specs.Formats.{first_piece, marked, or_whole}
use Rattle.expando.specs.Laws.{FormatsAreRead}
use Rattle.expando.specs.Leaves.{behind_percent, filler_at, first_leaf, leaf_at, leaves, text_piece}
use Rattle.expando.specs.Letters.{date_at, is_date_text, letter, letter_at, letter_behind}
use Rattle.mail_base.specs.Number.{is_number}
use Rattle.expando.specs.Numbers.{digits_at, digits_len, no_limit, number_of, width_of}
use Rattle.expando.specs.Pieces.{◌>>?◌, Scanned, char_at, char_or_mark, more_bytes, piece_map}
use Rattle.expando.specs.Pieces.{piece_until, pieces, with_front}
use Rattle.expando.specs.Printed.{closing, is_choice, is_empty, is_field, is_field_sign, is_inner}
use Rattle.expando.specs.Printed.{is_leaf, is_letter, is_piece, lacks, printed_branches}
use Rattle.expando.specs.Printed.{printed_char, printed_choice, printed_field, printed_leaf}
use Rattle.expando.specs.Printed.{printed_leaves, printed_letter, printed_limit, printed_piece}
use Rattle.expando.specs.Printed.{printed_side, printed_width}
use Rattle.expando.specs.declared.field.Field.{Field}
use Rattle.expando.specs.declared.leaf.Leaf.{Leaf}
use Rattle.expando.specs.declared.leaf.Leaf.TheVariants.{Text, Value, Fill, ToEnd}
use Rattle.expando.specs.declared.letter.Letter.{Letter}
use Rattle.expando.specs.declared.piece.Piece.{Piece}
use Rattle.mail_base.proofs.NumberLemmas.{own}
use Rattle.expando.proofs.PiecesLemmas.{pieces_step}
use lib.Utf8.{scalar}

-- Pieces.

-- what stands behind a written piece
behind_printed : (p tail : List ℕ) → 0 < length p → drop (length p - 1) (drop 1 (p ++ tail)) ≡ tail
behind_printed [] tail some = absurd (omega arith)
behind_printed (b ∷ p) tail some = ap (λ n. drop n (p ++ tail)) size ∙ drop-append_seam p tail
  where
    size : length (b ∷ p) - 1 ≡ length p
    size = omega arith

more_printed : (p rest : List ℕ) → length (p ++ rest) - length rest - 1 ≡ length p - 1
more_printed p rest = omega (arith, length-append p rest)

some_front : (p tail : List ℕ) → 0 < length p → 0 < length (p ++ tail)
some_front p tail some = omega (arith, length-append p tail)

-- a piece, and how many bytes it takes as it is written
abbrev piece_of : {X : Type 0} → (X → List ℕ) → X → Piece X
piece_of print x = record { value = x; more = length (print x) - 1 }

-- pieces that are read one by one are read one behind the other
printed_read : {X : Type 0} (first : ℕ → List ℕ → Scanned (Piece X)) (print : X → List ℕ)
    (is : X → Bool)
    → ((x : X) → is x ≡ true → 0 < length (print x))
    → ((x : X) (place : ℕ) (rest : List ℕ) → is x ≡ true
    → first place (print x ++ rest) ≡ Ok (piece_of print x))
    → (xs : List X) (place : ℕ) → list_all is xs ≡ true
    → pieces first place (flat_map print xs) ≡ Ok xs
printed_read first print is some each [] place all = refl
printed_read first print is some each (x ∷ xs) place all =
    let both = and_parts (is x) (list_all is xs) all in
    let tail = flat_map print xs in
    let text = print x ++ tail in
    pieces_step first place text (piece_of print x) (some_front (print x) tail (some x both.0))
    (each x place tail both.0)
    ∙ ap (λ rest. with_front (x ∷ []) (pieces first (place + (length text - length rest)) rest))
    (behind_printed (print x) tail (some x both.0))
    ∙ ap (with_front (x ∷ []))
    (printed_read first print is some each xs (place + (length text - length tail)) both.1)

-- Characters.

not_false : (t : Bool) → not t ≡ true → t ≡ false
not_false true e = absurd (false≢true e)
not_false false e = refl

abbrev starts : (ℕ → Bool) → List ℕ → Bool
starts p [] = false
starts p (b ∷ rest) = p b

percent_read : (rest : List ℕ) → decoded (37 ∷ rest) ≡ good 37 1
percent_read rest = grind (arith, nat_tests)

none_read : (c size : ℕ) → decoded [] ≡ good c size → ⊥
none_read c size read = let none : (decoded []).char ≡ Some c =
    ap (λ (d : Decoded). d.char) read in cc

same_char : (text : List ℕ) (c size d more : ℕ) → decoded text ≡ good c size
    → decoded text ≡ good d more → c ≡ d
same_char text c size d more read again =
    let same : Some c ≡ Some d = ap (λ (r : Decoded). r.char) (sym read ∙ again) in cc

-- a text that begins with another character begins with another byte
other_byte : (b c size : ℕ) (rest : List ℕ) → decoded (b ∷ rest) ≡ good c size → (c == 37) ≡ false
    → (b == 37) ≡ false
other_byte b c size rest read other = by_test (b == 37) refl
  where
    by_test : (t : Bool) → (b == 37) ≡ t → t ≡ false
    by_test true e =
        let is : b ≡ 37 = eqb-true b 37 e in
        let char : c ≡ 37 = same_char (37 ∷ rest) c size 37 1
        (subst (λ (x : ℕ). decoded (x ∷ rest) ≡ good c size) is read) (percent_read rest) in
        absurd (false≢true (sym other ∙ ap (λ (x : ℕ). x == 37) char))
    by_test false e = refl

text_read : (letters text : List ℕ) (c size : ℕ) → decoded text ≡ good c size → (c == 37) ≡ false
    → leaf_at letters text ≡ Some (record { value = Text c; more = size - 1 })
text_read letters [] c size read other = absurd (none_read c size read)
text_read letters (b ∷ rest) c size read other =
    ap (λ t. if t then option_map (piece_until (b ∷ rest)) (behind_percent letters rest)
    else Some (text_piece (char_at (b ∷ rest)))) (other_byte b c size rest read other)
    ∙ ap (λ (d : Decoded). Some (text_piece (char_or_mark d.char d.size))) read

some_encoded : (c : ℕ) → 0 < length (encode_utf8 c)
some_encoded c = omega (arith, length-encode c, len_utf8_bounds c)

char_read : (letters : List ℕ) (c : ℕ) (rest : List ℕ) → scalar c ≡ true
    → leaf_at letters (printed_char c ++ rest) ≡ Some (piece_of printed_leaf (Text c))
char_read letters c rest is = by_test (c == 37) refl
  where
    by_test : (t : Bool) → (c == 37) ≡ t
        → leaf_at letters ((if t then codes "%%" else encode_utf8 c) ++ rest)
        ≡ Some (record
        { value = Text c; more = length (if t then codes "%%" else encode_utf8 c) - 1 })
    by_test true e =
        ap (λ n. Some (record { value = Text 37; more = n })) (more_printed (codes "%%") rest)
        ∙ ap (λ x. Some (record { value = Text x; more = 1 })) (sym (eqb-true c 37 e))
    by_test false e =
        text_read letters (encode_utf8 c ++ rest) c (length (encode_utf8 c))
        (decoded-encode c rest is) e

filler_read : (text : List ℕ) (c size : ℕ) → decoded text ≡ good c size
    → filler_at text ≡ Some (c, drop (size - 1) (drop 1 text))
filler_read [] c size read = absurd (none_read c size read)
filler_read (b ∷ rest) c size read =
    ap (λ (d : Decoded). Some
    ((char_or_mark d.char d.size).value, drop (char_or_mark d.char d.size).more rest)) read

filled_read : (c : ℕ) (rest : List ℕ) → scalar c ≡ true
    → filler_at (encode_utf8 c ++ rest) ≡ Some (c, rest)
filled_read c rest is =
    filler_read (encode_utf8 c ++ rest) c (length (encode_utf8 c)) (decoded-encode c rest is)
    ∙ ap (λ r. Some (c, r)) (behind_printed (encode_utf8 c) rest (some_encoded c))

-- a percent sign, and what it begins
percent_leaf : (letters p rest : List ℕ) (leaf : Leaf (List ℕ))
    → behind_percent letters (p ++ rest) ≡ Some (leaf, rest)
    → leaf_at letters (37 ∷ (p ++ rest))
    ≡ Some (record { value = leaf; more = length (37 ∷ p) - 1 })
percent_leaf letters p rest leaf read =
    ap (option_map (piece_until (37 ∷ (p ++ rest)))) read
    ∙ ap (λ n. Some (record { value = leaf; more = n })) (more_printed (37 ∷ p) rest)

-- Fields.

split_read : (b : ℕ) (xs rest : List ℕ) → lacks b xs ≡ true
    → split_once b (xs ++ b ∷ rest) ≡ Some (xs, rest)
split_read b xs rest none =
    let place : position_or_len (λ x. x == b) (xs ++ b ∷ rest) ≡ length xs =
    prefix_stop (λ x. not (x == b)) xs b rest none (grind (arith, nat_tests)) in
    let long = length-append xs (b ∷ rest) in
    let within : nat_lt (length xs) (length (xs ++ b ∷ rest)) ≡ true = grind (arith, nat_tests) in
    let at : position (λ x. x == b) (xs ++ b ∷ rest) ≡ Some (length xs) = rw (place, within) refl in
    ap (option_map (around (xs ++ b ∷ rest))) at
    ∙ ap (λ l. Some (l, drop (length xs + 1) (xs ++ b ∷ rest))) (take-append_seam xs (b ∷ rest))
    ∙ ap (λ l. Some (xs, l)) (drop-append-add xs (b ∷ rest) 1)

date_read : (sign bracket : ℕ) (inner rest : List ℕ)
    → (is_date_text false inner && lacks bracket inner) ≡ true
    → date_at sign bracket ((inner ++ bracket ∷ []) ++ rest) ≡ Some (letter sign inner, rest)
date_read sign bracket inner rest ok =
    let both = and_parts (is_date_text false inner) (lacks bracket inner) ok in
    ap (date_at sign bracket) (append_assoc inner (bracket ∷ []) rest)
    ∙ ap (λ o. o >>=
    (λ parts. if is_date_text false parts.0 then Some (letter sign parts.0, parts.1) else None))
    (split_read bracket inner rest both.1)
    ∙ ap (λ t. if t then Some (letter sign inner, rest) else None) both.0

abbrev found : ℕ → List ℕ → List ℕ → Option (Letter (List ℕ) × List ℕ)
found sign inner rest = Some (letter sign inner, rest)

plain_read : (sign : ℕ) (inner rest : List ℕ) → is_empty inner ≡ true
    → found sign [] ((inner ++ []) ++ rest) ≡ found sign inner rest
plain_read sign [] rest empty = refl
plain_read sign (b ∷ inner) rest empty = absurd (false≢true empty)

behind_letter : (sign : ℕ) (inner rest : List ℕ) → is_inner sign inner ≡ true
    → letter_behind sign ((inner ++ closing sign) ++ rest) ≡ Some (letter sign inner, rest)
behind_letter sign inner rest ok = by_tests (sign == 123) (sign == 91) ok
  where
    by_tests : (t u : Bool)
        → (if t then is_date_text false inner && lacks 125 inner
        else (if u then is_date_text false inner && lacks 93 inner else is_empty inner)) ≡ true
        → (let after =
        (inner ++ (if t then codes "}" else (if u then codes "]" else []))) ++ rest in
        if t then date_at sign 125 after
        else (if u then date_at sign 93 after else found sign [] after))
        ≡ found sign inner rest
    by_tests true u fits = date_read sign 125 inner rest fits
    by_tests false true fits = date_read sign 93 inner rest fits
    by_tests false false fits = plain_read sign inner rest fits

letter_read : (letters : List ℕ) (l : Letter (List ℕ)) (rest : List ℕ) → is_letter letters l ≡ true
    → letter_at letters (printed_letter l ++ rest) ≡ Some (l, rest)
letter_read letters l rest ok =
    let both = and_parts (list_any (λ k. k == l.sign) letters) (is_inner l.sign l.inner) ok in
    ap (λ t. if t then letter_behind l.sign ((l.inner ++ closing l.sign) ++ rest) else None) both.0
    ∙ behind_letter l.sign l.inner rest both.1

-- The numbers of a field.

abbrev no_digit : ℕ → Bool
no_digit b = not (is_ascii_digit b)

twice_not : (ds : List ℕ) → all_ascii_digits ds ≡ true → list_all (λ b. not (no_digit b)) ds ≡ true
twice_not [] all = refl
twice_not (d ∷ ds) all =
    let both = and_parts (is_ascii_digit d) (all_ascii_digits ds) all in
    rw both.0 (twice_not ds both.1)

digits_read : (ds tail : List ℕ) → all_ascii_digits ds ≡ true → starts no_digit tail ≡ true
    → digits_at (ds ++ tail) ≡ (ds, tail)
digits_read ds [] all begins = absurd (false≢true begins)
digits_read ds (b ∷ rest) all begins =
    let len : digits_len (ds ++ b ∷ rest) ≡ length ds =
    prefix_stop (λ x. not (no_digit x)) ds b rest (twice_not ds all) (ap not begins) in
    let P : ℕ → List ℕ × List ℕ = λ n. (take n (ds ++ b ∷ rest), drop n (ds ++ b ∷ rest)) in
    let Q : List ℕ → List ℕ × List ℕ = λ l. (l, drop (length ds) (ds ++ b ∷ rest)) in
    let R : List ℕ → List ℕ × List ℕ = λ l. (ds, l) in
    ap P len ∙ ap Q (take-append_seam ds (b ∷ rest)) ∙ ap R (drop-append_seam ds (b ∷ rest))

no_zero : (b : ℕ) → 48 < b → not (b == 48) ≡ true
no_zero b more = grind (arith, nat_tests)

led_number : (ds : List ℕ) → all_ascii_digits ds ≡ true → 48 < get_or ds 0 0 → is_number ds ≡ true
led_number [] all first = absurd (omega arith)
led_number (b ∷ []) all first = all
led_number (b ∷ c ∷ rest) all first =
    ap (λ t. t && all_ascii_digits (b ∷ c ∷ rest)) (no_zero b first) ∙ all

decimal_number : (n : ℕ) → n < 2 ^ 64 → is_number (decimal n) ≡ true
decimal_number n small = by_test (n == 0) refl
  where
    above : (n == 0) ≡ false → 0 < n
    above e = grind (arith, nat_tests)

    by_test : (t : Bool) → (n == 0) ≡ t → is_number (decimal n) ≡ true
    by_test true e =
        ap is_number (ap decimal (eqb-true n 0 e) ∙ decimal_digit 0 (omega arith))
    by_test false e =
        led_number (decimal n) (digits_decimal own n small) (first_decimal n (above e) small)

le_true : (a b : ℕ) → a ≤ b → nat_le a b ≡ true
le_true a b le = grind (arith, nat_tests)

width_known : (ds : List ℕ) (w : ℕ) → 0 < length ds → is_number ds ≡ true → digits_value 10 ds ≡ w
    → w ≤ 500
    → width_of ds ≡ Some w
width_known [] w some number value small = absurd (omega arith)
width_known (b ∷ rest) w some number value small =
    ap (λ t. if t && nat_le (digits_value 10 (b ∷ rest)) 500 then Some (digits_value 10 (b ∷ rest))
    else None) number
    ∙ ap (λ v. if nat_le v 500 then Some v else None) value
    ∙ ap (λ t. if t then Some w else None) (le_true w 500 small)

small_number : (w : ℕ) → w ≤ 500 → w < 2 ^ 64
small_number w small = omega arith

abbrev some_rest : ℕ → List ℕ → Option (ℕ × List ℕ)
some_rest n rest = Some (n, rest)

width_read : (w : ℕ) (tail : List ℕ) → w ≤ 500 → starts no_digit tail ≡ true
    → width_at (printed_width w ++ tail) ≡ some_rest w tail
width_read w tail small begins = by_test (w == 0) refl
  where
    by_test : (t : Bool) → (w == 0) ≡ t
        → width_at ((if t then [] else decimal w) ++ tail) ≡ some_rest w tail
    by_test true e =
        ap (λ (p : List ℕ × List ℕ). option_map (λ n. (n, p.1)) (width_of p.0))
        (digits_read [] tail refl begins)
        ∙ ap (λ (n : ℕ). some_rest n tail) (sym (eqb-true w 0 e))
    by_test false e =
        let fits = small_number w small in
        ap (λ (p : List ℕ × List ℕ). option_map (λ n. (n, p.1)) (width_of p.0))
        (digits_read (decimal w) tail (digits_decimal own w fits) begins)
        ∙ ap (λ o. option_map (λ n. (n, tail)) o)
        (width_known (decimal w) w (decimal_nonempty w fits) (decimal_number w fits)
        (digits_value-decimal own w fits) small)

capped : (n : ℕ) → n ≤ no_limit → min n no_limit ≡ n
capped n small = omega arith

fits_number : (n : ℕ) → n ≤ no_limit → n < 2 ^ 64
fits_number n small = omega arith

number_known : (n : ℕ) → n ≤ no_limit → number_of (decimal n) ≡ Some n
number_known n small =
    let fits = fits_number n small in
    ap (λ t. if t then Some (min (digits_value 10 (decimal n)) no_limit) else None)
    (decimal_number n fits)
    ∙ ap (λ v. Some (min v no_limit)) (digits_value-decimal own n fits)
    ∙ ap Some (capped n small)

limit_behind_read : (n : ℕ) (tail : List ℕ) → n ≤ no_limit → starts no_digit tail ≡ true
    → limit_behind (decimal n ++ tail) ≡ some_rest n tail
limit_behind_read n tail small begins =
    ap (λ (p : List ℕ × List ℕ). option_map (λ n. (n, p.1)) (number_of p.0))
    (digits_read (decimal n) tail (digits_decimal own n (fits_number n small)) begins)
    ∙ ap (λ o. option_map (λ n. (n, tail)) o) (number_known n small)

no_point : (tail : List ℕ) → starts (λ b. not (b == 46)) tail ≡ true
    → limit_at tail ≡ some_rest no_limit tail
no_point [] begins = absurd (false≢true begins)
no_point (b ∷ rest) begins =
    ap (λ t. if t then limit_behind rest else some_rest no_limit (b ∷ rest))
    (not_false (b == 46) begins)

limit_read : (n : ℕ) (tail : List ℕ) → n ≤ no_limit → starts no_digit tail ≡ true
    → starts (λ b. not (b == 46)) tail ≡ true
    → limit_at (printed_limit n ++ tail) ≡ some_rest n tail
limit_read n tail small begins other = by_test (n == no_limit) refl
  where
    by_test : (t : Bool) → (n == no_limit) ≡ t
        → limit_at ((if t then [] else 46 ∷ decimal n) ++ tail) ≡ some_rest n tail
    by_test true e =
        no_point tail other ∙ ap (λ (m : ℕ). some_rest m tail) (sym (eqb-true n no_limit e))
    by_test false e = limit_behind_read n tail small begins

side_read : (left : Bool) (tail : List ℕ) → starts (λ b. not (b == 45)) tail ≡ true
    → side_at (printed_side left ++ tail) ≡ (left, tail)
side_read true tail begins = refl
side_read false [] begins = absurd (false≢true begins)
side_read false (b ∷ rest) begins =
    let P : Bool → Bool × List ℕ = λ t. if t then (true, rest) else (false, b ∷ rest) in
    ap P (not_false (b == 45) begins)

-- Fields as a whole.

starts_more : (p q : ℕ → Bool) (xs : List ℕ) → ((b : ℕ) → p b ≡ true → q b ≡ true)
    → starts p xs ≡ true
    → starts q xs ≡ true
starts_more p q [] each begins = absurd (false≢true begins)
starts_more p q (b ∷ rest) each begins = each b begins

starts_front : (p : ℕ → Bool) (xs ys : List ℕ) → starts p xs ≡ true → starts p (xs ++ ys) ≡ true
starts_front p [] ys begins = absurd (false≢true begins)
starts_front p (b ∷ rest) ys begins = begins

starts_digit : (ds : List ℕ) → 0 < length ds → all_ascii_digits ds ≡ true
    → starts is_ascii_digit ds ≡ true
starts_digit [] some all = absurd (omega arith)
starts_digit (d ∷ ds) some all = (and_parts (is_ascii_digit d) (all_ascii_digits ds) all).0

-- a byte that may stand behind a percent sign at the front of a field
abbrev is_field_start : ℕ → Bool
is_field_start b = not (b == 37) && not (b == 62) && not (b == 124) && not (b == 63)

abbrev no_side : ℕ → Bool
no_side b = not (b == 45)

abbrev no_point_sign : ℕ → Bool
no_point_sign b = not (b == 46)

sign_no_digit : (b : ℕ) → is_field_sign b ≡ true → no_digit b ≡ true
sign_no_digit b sign = grind (arith, nat_tests)

sign_no_side : (b : ℕ) → is_field_sign b ≡ true → no_side b ≡ true
sign_no_side b sign = grind (arith, nat_tests)

sign_no_point : (b : ℕ) → is_field_sign b ≡ true → no_point_sign b ≡ true
sign_no_point b sign = grind (arith, nat_tests)

sign_start : (b : ℕ) → is_field_sign b ≡ true → is_field_start b ≡ true
sign_start b sign = grind (arith, nat_tests)

digit_no_side : (b : ℕ) → is_ascii_digit b ≡ true → no_side b ≡ true
digit_no_side b digit = grind (arith, nat_tests)

digit_start : (b : ℕ) → is_ascii_digit b ≡ true → is_field_start b ≡ true
digit_start b digit = grind (arith, nat_tests)

-- a limit and what follows it begin with a point or with what follows
limit_starts : (p : ℕ → Bool) (n : ℕ) (tail : List ℕ) → p 46 ≡ true → starts p tail ≡ true
    → starts p (printed_limit n ++ tail) ≡ true
limit_starts p n tail point begins = by_test (n == no_limit)
  where
    by_test : (t : Bool) → starts p ((if t then [] else 46 ∷ decimal n) ++ tail) ≡ true
    by_test true = begins
    by_test false = point

-- a width and what follows it begin with a digit or with what follows
width_starts : (p : ℕ → Bool) (w : ℕ) (tail : List ℕ) → w < 2 ^ 64
    → ((b : ℕ) → is_ascii_digit b ≡ true → p b ≡ true) → starts p tail ≡ true
    → starts p (printed_width w ++ tail) ≡ true
width_starts p w tail small each begins = by_test (w == 0)
  where
    by_test : (t : Bool) → starts p ((if t then [] else decimal w) ++ tail) ≡ true
    by_test true = begins
    by_test false =
        starts_front p (decimal w) tail (starts_more is_ascii_digit p (decimal w) each
        (starts_digit (decimal w) (decimal_nonempty w small) (digits_decimal own w small)))

side_starts : (p : ℕ → Bool) (left : Bool) (tail : List ℕ) → p 45 ≡ true → starts p tail ≡ true
    → starts p (printed_side left ++ tail) ≡ true
side_starts p true tail side begins = side
side_starts p false tail side begins = begins

-- what a field can be written of
record CanBeWritten (letters : List ℕ) (d : Field (List ℕ)) : Type 0 where
  letter_is : is_letter letters d.letter ≡ true
  sign_is : is_field_sign d.letter.sign ≡ true
  width_is : d.width ≤ 500
  limit_is : d.limit ≤ no_limit

true_le : (a b : ℕ) → nat_le a b ≡ true → a ≤ b
true_le a b test = grind (arith, nat_tests)

can_be_written : (letters : List ℕ) (d : Field (List ℕ)) → is_field letters d ≡ true
    → CanBeWritten letters d
can_be_written letters d ok =
    let sign = is_field_sign d.letter.sign in
    let last =
    and_parts (is_letter letters d.letter && sign && nat_le d.width 500)
    (nat_le d.limit no_limit) ok in
    let next = and_parts (is_letter letters d.letter && sign) (nat_le d.width 500) last.0 in
    let first = and_parts (is_letter letters d.letter) sign next.0 in
    record {
      letter_is = first.0;
      sign_is = first.1;
      width_is = true_le d.width 500 next.1;
      limit_is = true_le d.limit no_limit last.1;
    }

-- a field as it is written, before other bytes
abbrev written_field : Field (List ℕ) → List ℕ → List ℕ
written_field d rest =
    printed_side d.left
    ++ (printed_width d.width ++ (printed_limit d.limit ++ (printed_letter d.letter ++ rest)))

written_before : (d : Field (List ℕ)) (rest : List ℕ)
    → printed_field d ++ rest ≡ written_field d rest
written_before d rest =
    let side = printed_side d.left in
    let width = printed_width d.width in
    let limit = printed_limit d.limit in
    let l = printed_letter d.letter in
    append_assoc side (width ++ (limit ++ l)) rest
    ∙ ap (λ s. side ++ s)
    (append_assoc width (limit ++ l) rest ∙ ap (λ s. width ++ s) (append_assoc limit l rest))

abbrev letter_step : List ℕ → Bool → ℕ → ℕ → List ℕ → Option (Field (List ℕ) × List ℕ)
letter_step letters left width limit text =
    letter_at letters text >>= (λ found. Some (
      record {
        letter = found.0;
        left = left;
        width = width;
        limit = limit;
      },
      found.1,
    ))

abbrev limit_step : List ℕ → Bool → ℕ → List ℕ → Option (Field (List ℕ) × List ℕ)
limit_step letters left width text =
    limit_at text >>= (λ limit. letter_step letters left width limit.0 limit.1)

abbrev width_step : List ℕ → Bool → List ℕ → Option (Field (List ℕ) × List ℕ)
width_step letters left text = width_at text >>= (λ width. limit_step letters left width.0 width.1)

field_read : (letters : List ℕ) (d : Field (List ℕ)) (rest : List ℕ) → is_field letters d ≡ true
    → field_at letters (printed_field d ++ rest) ≡ Some (d, rest)
field_read letters d rest ok =
    let can = can_be_written letters d ok in
    let last = printed_letter d.letter ++ rest in
    let limited = printed_limit d.limit ++ last in
    let wide = printed_width d.width ++ limited in
    let last_digit : starts no_digit last ≡ true = sign_no_digit d.letter.sign can.sign_is in
    let last_point : starts no_point_sign last ≡ true = sign_no_point d.letter.sign can.sign_is in
    let last_side : starts no_side last ≡ true = sign_no_side d.letter.sign can.sign_is in
    let limited_digit = limit_starts no_digit d.limit last refl last_digit in
    let wide_side =
    width_starts no_side d.width limited (small_number d.width can.width_is) digit_no_side
    (limit_starts no_side d.limit last refl last_side) in
    ap (field_at letters) (written_before d rest)
    ∙ ap (λ (s : Bool × List ℕ). width_step letters s.0 s.1) (side_read d.left wide wide_side)
    ∙ ap (λ o. o >>= (λ width. limit_step letters d.left width.0 width.1))
    (width_read d.width limited can.width_is limited_digit)
    ∙ ap (λ o. o >>= (λ limit. letter_step letters d.left d.width limit.0 limit.1))
    (limit_read d.limit last can.limit_is last_digit last_point)
    ∙ ap (λ o. o >>= (λ found. Some (
      record {
        letter = found.0;
        left = d.left;
        width = d.width;
        limit = d.limit;
      },
      found.1,
    ))) (letter_read letters d.letter rest can.letter_is)

field_starts : (letters : List ℕ) (d : Field (List ℕ)) (rest : List ℕ) → is_field letters d ≡ true
    → starts is_field_start (printed_field d ++ rest) ≡ true
field_starts letters d rest ok =
    let can = can_be_written letters d ok in
    let last = printed_letter d.letter ++ rest in
    let last_start : starts is_field_start last ≡ true = sign_start d.letter.sign can.sign_is in
    ap (starts is_field_start) (written_before d rest)
    ∙ side_starts is_field_start d.left _ refl
    (width_starts is_field_start d.width (printed_limit d.limit ++ last)
    (small_number d.width can.width_is) digit_start
    (limit_starts is_field_start d.limit last refl last_start))

-- what begins a field begins no other piece
start_parts : (b : ℕ) → is_field_start b ≡ true
    → ((b == 37) ≡ false) × ((b == 62) ≡ false) × ((b == 124) ≡ false) × ((b == 63) ≡ false)
start_parts b start =
    let last = and_parts (not (b == 37) && not (b == 62) && not (b == 124)) (not (b == 63)) start in
    let next = and_parts (not (b == 37) && not (b == 62)) (not (b == 124)) last.0 in
    let first = and_parts (not (b == 37)) (not (b == 62)) next.0 in (
      not_false (b == 37) first.0,
      not_false (b == 62) first.1,
      not_false (b == 124) next.1,
      not_false (b == 63) last.1,
    )

value_behind : (letters text rest : List ℕ) (d : Field (List ℕ)) → starts is_field_start text ≡ true
    → field_at letters text ≡ Some (d, rest) → behind_percent letters text ≡ Some (Value d, rest)
value_behind letters [] rest d begins read = absurd (false≢true begins)
value_behind letters (b ∷ tail) rest d begins read =
    let parts = start_parts b begins in
    ap (λ t. if t then Some (Text b, tail) else other b tail) parts.0
    ∙ ap (λ t. if t then filled Fill tail
    else (if b == 124 then filled ToEnd tail else value (b ∷ tail))) parts.1
    ∙ ap (λ t. if t then filled ToEnd tail else value (b ∷ tail)) parts.2
    ∙ ap (option_map (λ p. (Value p.0, p.1))) read
  where
    filled : (ℕ → Leaf (List ℕ)) → List ℕ → Option (Leaf (List ℕ) × List ℕ)
    filled make s = option_map (λ p. (make p.0, p.1)) (filler_at s)

    value : List ℕ → Option (Leaf (List ℕ) × List ℕ)
    value s = option_map (λ p. (Value p.0, p.1)) (field_at letters s)

    other : ℕ → List ℕ → Option (Leaf (List ℕ) × List ℕ)
    other b s =
        if b == 62 then filled Fill s else (if b == 124 then filled ToEnd s else value (b ∷ s))

-- Leaves.

leaf_read : (letters : List ℕ) (leaf : Leaf (List ℕ)) (rest : List ℕ) → is_leaf letters leaf ≡ true
    → leaf_at letters (printed_leaf leaf ++ rest) ≡ Some (piece_of printed_leaf leaf)
leaf_read letters (Text c) rest ok = char_read letters c rest ok
leaf_read letters (Value d) rest ok =
    percent_leaf letters (printed_field d) rest (Value d)
    (value_behind letters (printed_field d ++ rest) rest d
    (field_starts letters d rest ok) (field_read letters d rest ok))
leaf_read letters (Fill c) rest ok =
    percent_leaf letters (62 ∷ encode_utf8 c) rest (Fill c)
    (ap (option_map (λ p. (Fill p.0, p.1))) (filled_read c rest ok))
leaf_read letters (ToEnd c) rest ok =
    percent_leaf letters (124 ∷ encode_utf8 c) rest (ToEnd c)
    (ap (option_map (λ p. (ToEnd p.0, p.1))) (filled_read c rest ok))

leaf_some : (letters : List ℕ) (leaf : Leaf (List ℕ)) → is_leaf letters leaf ≡ true
    → 0 < length (printed_leaf leaf)
leaf_some letters (Text c) ok = by_test (c == 37)
  where
    by_test : (t : Bool) → 0 < length (if t then codes "%%" else encode_utf8 c)
    by_test true = omega arith
    by_test false = some_encoded c
leaf_some letters (Value d) ok = omega arith
leaf_some letters (Fill c) ok = omega arith
leaf_some letters (ToEnd c) ok = omega arith

-- leaves that are written are read as themselves
leaves_read : (letters : List ℕ) (xs : List (Leaf (List ℕ))) (place : ℕ)
    → list_all (is_leaf letters) xs ≡ true
    → leaves letters place (printed_leaves xs) ≡ Ok xs
leaves_read letters xs place all =
    printed_read (first_leaf letters) printed_leaf (is_leaf letters) (leaf_some letters)
    (λ leaf at rest ok. ap (λ o. ok_or o at) (leaf_read letters leaf rest ok)) xs place all

-- Conditions.

other_front : (b : ℕ) (rest : List ℕ) → (b == 37) ≡ false → begins_condition (b ∷ rest) ≡ false
other_front b rest other =
    ap (λ t. is_some (if t && bytes_eq (take 1 rest) (63 ∷ []) then Some (drop 1 rest) else None))
    other

percent_front : (b : ℕ) (rest : List ℕ) → (b == 63) ≡ false
    → begins_condition (37 ∷ b ∷ rest) ≡ false
percent_front b rest other =
    ap (λ t. is_some (if t && bytes_eq (take 0 rest) [] then Some (drop 0 rest) else None)) other

char_front : (text : List ℕ) (c size : ℕ) → decoded text ≡ good c size → (c == 37) ≡ false
    → begins_condition text ≡ false
char_front [] c size read other = absurd (none_read c size read)
char_front (b ∷ rest) c size read other = other_front b rest (other_byte b c size rest read other)

field_front : (text : List ℕ) → starts is_field_start text ≡ true
    → begins_condition (37 ∷ text) ≡ false
field_front [] begins = absurd (false≢true begins)
field_front (b ∷ rest) begins = percent_front b rest (start_parts b begins).3

leaf_front : (letters : List ℕ) (leaf : Leaf (List ℕ)) (rest : List ℕ) → is_leaf letters leaf ≡ true
    → begins_condition (printed_leaf leaf ++ rest) ≡ false
leaf_front letters (Text c) rest ok = by_test (c == 37) refl
  where
    by_test : (t : Bool) → (c == 37) ≡ t
        → begins_condition ((if t then codes "%%" else encode_utf8 c) ++ rest) ≡ false
    by_test true e = percent_front 37 rest refl
    by_test false e =
        char_front (encode_utf8 c ++ rest) c (length (encode_utf8 c)) (decoded-encode c rest ok) e
leaf_front letters (Value d) rest ok =
    field_front (printed_field d ++ rest) (field_starts letters d rest ok)
leaf_front letters (Fill c) rest ok = percent_front 62 (encode_utf8 c ++ rest) refl
leaf_front letters (ToEnd c) rest ok = percent_front 124 (encode_utf8 c ++ rest) refl

-- what a condition can be written of
record CanBeAsked (letters : List ℕ) (c : PlainChoice) : Type 0 where
  test_is : is_letter letters c.test ≡ true
  some_are : list_all (is_leaf letters) c.some ≡ true
  none_are : list_all (is_leaf letters) c.none ≡ true
  some_one : lacks 38 (printed_leaves c.some) ≡ true
  some_open : lacks 63 (printed_leaves c.some) ≡ true
  none_open : lacks 63 (printed_leaves c.none) ≡ true

can_be_asked : (letters : List ℕ) (c : PlainChoice) → is_choice letters c ≡ true
    → CanBeAsked letters c
can_be_asked letters c ok =
    let test = is_letter letters c.test in
    let some = list_all (is_leaf letters) c.some in
    let none = list_all (is_leaf letters) c.none in
    let one = lacks 38 (printed_leaves c.some) in
    let open_some = lacks 63 (printed_leaves c.some) in
    let fifth =
    and_parts (test && some && none && one && open_some) (lacks 63 (printed_leaves c.none))
    ok in
    let fourth = and_parts (test && some && none && one) open_some fifth.0 in
    let third = and_parts (test && some && none) one fourth.0 in
    let second = and_parts (test && some) none third.0 in
    let first = and_parts test some second.0 in
    record {
      test_is = first.0;
      some_are = first.1;
      none_are = second.1;
      some_one = third.1;
      some_open = fourth.1;
      none_open = fifth.1;
    }

and_both : (a b : Bool) → a ≡ true → b ≡ true → (a && b) ≡ true
and_both a b first second = ap (λ (t : Bool). t && b) first ∙ second

open_branches : (letters : List ℕ) (c : PlainChoice) → CanBeAsked letters c
    → lacks 63 (printed_branches c) ≡ true
open_branches letters c can =
    list_all-append (λ x. not (x == 63)) (printed_leaves c.some) (38 ∷ printed_leaves c.none)
    ∙ and_both (lacks 63 (printed_leaves c.some)) (lacks 63 (38 ∷ printed_leaves c.none))
    can.some_open can.none_open

-- a condition as it is written, before other bytes
abbrev behind_test : PlainChoice → List ℕ → List ℕ
behind_test c rest = 63 ∷ (printed_branches c ++ 63 ∷ rest)

asked_before : (c : PlainChoice) (rest : List ℕ)
    → printed_choice c ++ rest ≡ 37 ∷ 63 ∷ (printed_letter c.test ++ behind_test c rest)
asked_before c rest =
    ap (λ s. 37 ∷ 63 ∷ s)
    (append_assoc (printed_letter c.test) (63 ∷ (printed_branches c ++ 63 ∷ [])) rest
    ∙ ap (λ s. printed_letter c.test ++ 63 ∷ s) (append_assoc (printed_branches c) (63 ∷ []) rest))

abbrev condition_of : PlainChoice → ℕ → List ℕ → PlainCondition
condition_of c front rest = record {
  test = c.test;
  inner = printed_branches c;
  front = front;
  rest = rest;
}

abbrev marked_step : List ℕ → Letter (List ℕ) → List ℕ → Option PlainCondition
marked_step text test inner = marked inner >>= (λ parts. Some (record {
  test = test;
  inner = parts.0;
  front = length text - length inner;
  rest = parts.1;
}))

condition_read : (letters : List ℕ) (c : PlainChoice) (rest : List ℕ) → CanBeAsked letters c
    → (let text = 37 ∷ 63 ∷ (printed_letter c.test ++ behind_test c rest) in
    condition_at letters text
    ≡ Some (condition_of c (length text - length (printed_branches c ++ 63 ∷ rest)) rest))
condition_read letters c rest can =
    let text = 37 ∷ 63 ∷ (printed_letter c.test ++ behind_test c rest) in
    ap (λ o. o >>= (λ found. behind 63 found.1 >>= (λ inner. marked_step text found.0 inner)))
    (letter_read letters c.test (behind_test c rest) can.test_is)
    ∙ ap (λ o. o >>= (λ parts. Some (record {
      test = c.test;
      inner = parts.0;
      front = length text - length (printed_branches c ++ 63 ∷ rest);
      rest = parts.1;
    }))) (split_read 63 (printed_branches c) rest (open_branches letters c can))

branches_read : (letters : List ℕ) (c : PlainChoice) → CanBeAsked letters c
    → branches (printed_branches c) ≡ (printed_leaves c.some, printed_leaves c.none)
branches_read letters c can =
    ap (or_whole (printed_branches c))
    (split_read 38 (printed_leaves c.some) (printed_leaves c.none) can.some_one)

choice_read : (letters : List ℕ) (c : PlainChoice) (place : ℕ) → CanBeAsked letters c
    → choice_of letters place c.test (printed_leaves c.some, printed_leaves c.none) ≡ Ok c
choice_read letters c place can =
    let some = printed_leaves c.some in
    let none = printed_leaves c.none in
    ap (λ r. r >>? (λ shown. leaves letters (place + length some + 1) none
    >>? (λ other. Ok (record { test = c.test; some = shown; none = other }))))
    (leaves_read letters c.some place can.some_are)
    ∙ ap (λ r. r >>? (λ other. Ok (record { test = c.test; some = c.some; none = other })))
    (leaves_read letters c.none (place + length some + 1) can.none_are)

abbrev choice_step : List ℕ → ℕ → List ℕ → Option PlainCondition → Scanned (Piece PlainChoice)
choice_step letters place text o =
    ok_or o place
    >>? (λ c. choice_of letters (place + c.front) c.test (branches c.inner)
    >>? (λ choice. Ok (record { value = choice; more = more_bytes text c.rest })))

first_read : (letters : List ℕ) (c : PlainChoice) (place : ℕ) (rest : List ℕ) → CanBeAsked letters c
    → first_choice letters place (printed_choice c ++ rest) ≡ Ok (piece_of printed_choice c)
first_read letters c place rest can =
    let text = 37 ∷ 63 ∷ (printed_letter c.test ++ behind_test c rest) in
    let front = length text - length (printed_branches c ++ 63 ∷ rest) in
    let more : more_bytes text rest ≡ length (printed_choice c) - 1 =
    ap (λ s. length s - length rest - 1) (sym (asked_before c rest))
    ∙ more_printed (printed_choice c) rest in
    ap (first_choice letters place) (asked_before c rest)
    ∙ ap (choice_step letters place text) (condition_read letters c rest can)
    ∙ ap (λ parts. choice_of letters (place + front) c.test parts
    >>? (λ choice. Ok (record { value = choice; more = more_bytes text rest })))
    (branches_read letters c can)
    ∙ ap (λ r. r >>? (λ choice. Ok (record { value = choice; more = more_bytes text rest })))
    (choice_read letters c (place + front) can)
    ∙ ap (λ n. Ok (record { value = c; more = n })) more

-- Formats.

piece_read : (letters : List ℕ) (piece : PlainPiece) (place : ℕ) (rest : List ℕ)
    → is_piece letters piece ≡ true
    → first_piece letters place (printed_piece piece ++ rest) ≡ Ok (piece_of printed_piece piece)
piece_read letters (Simple leaf) place rest ok =
    let text = printed_leaf leaf ++ rest in
    ap (λ t. if t then (first_choice letters place text >>? (λ piece. Ok (piece_map Either piece)))
    else (first_leaf letters place text >>? (λ piece. Ok (piece_map Simple piece))))
    (leaf_front letters leaf rest ok)
    ∙ ap (λ o. ok_or o place >>? (λ piece. Ok (piece_map Simple piece)))
    (leaf_read letters leaf rest ok)
piece_read letters (Either c) place rest ok =
    ap (λ r. r >>? (λ piece. Ok (piece_map Either piece)))
    (first_read letters c place rest (can_be_asked letters c ok))

piece_some : (letters : List ℕ) (piece : PlainPiece) → is_piece letters piece ≡ true
    → 0 < length (printed_piece piece)
piece_some letters (Simple leaf) ok = leaf_some letters leaf ok
piece_some letters (Either c) ok = omega arith

-- a format that is written is read as itself
pub formats_are_read : FormatsAreRead
formats_are_read letters pieces all =
    printed_read (first_piece letters) printed_piece (is_piece letters) (piece_some letters)
    (λ piece place rest ok. piece_read letters piece place rest ok) pieces 0 all
