-- What is written out can be shown as it stands.
use Rattle.std.proofs.Common.{◌≡◌, ℕ, zero, suc, ◌+◌, ◌-◌, ◌%◌, ◌<◌, ◌≤◌, Bool, true, false, not}
use Rattle.std.proofs.Common.{◌&&◌}
use Rattle.std.proofs.Common.{◌==◌, List, [], ◌∷◌, ◌++◌, cond, map, nat_le, nat_lt, refl, ap}
use Rattle.std.proofs.Common.{sym, ◌∙◌, arith}
use Rattle.std.proofs.Math.Nat.{mod-add-mod}
use Rattle.std.proofs.lemmas.Bool.{and_parts, and_from, le-leb, leb-true, eqb-true}
use Rattle.std.proofs.lemmas.Bool.{eqb-false, ltb-false, not_from_false}
use Rattle.std.proofs.lemmas.Bool.Decides.{nat_tests}
use Rattle.std.proofs.lemmas.List.Folds.{list_all-append}
use Rattle.std.proofs.lemmas.Str.{IsUtf8-from_is_utf8, chars-encodes, is_utf8-from_IsUtf8}
use Rattle.std.proofs.lemmas.Str.{scalars-chars}
use Rattle.std.specs.Char.{is_control}
use Rattle.std.specs.List.{list_all, range_with_len}
use Rattle.std.specs.Str.{IsUtf8, chars, encode_utf8_all, is_utf8}
use lib.Utf8.{low_scalar, scalar, scalars}
use Rattle.expando.specs.Columns.{blanks, columns_in, columns_of}
use Rattle.unicode_width.specs.Width.{char_width}
use Rattle.unicode_width.proofs.Computing.{unicode_width}
use Rattle.pager.specs.Broken.{is_plain, is_shown, line_chars, pieces}
use Rattle.pager.specs.Laws.{PiecesAreFull, PiecesAreShown, PiecesAreTheLine, TabsEndAtEights}
use Rattle.pager.specs.Written.{caret, past_stop, shown, written}
use Rattle.pager.proofs.BrokenLemmas.{all-pieces, are_full-pieces, concat-pieces, within}
use Rattle.pager.proofs.BrokenLemmas.{within-pieces}

-- a character of a text that no terminal obeys
abbrev is_seen : ℕ → Bool
is_seen c = scalar c && not (is_control c)

-- a character that a line of so many columns shows
abbrev has_place : ℕ → ℕ → Bool
has_place cols c = is_seen c && nat_le (columns_of c) cols

-- printable characters of US-ASCII take a column
ascii_width : (c : ℕ) → 32 ≤ c → c < 127 → columns_of c ≡ 1
unfolding char_width
ascii_width c low high = grind (arith, nat_tests)

-- the characters 64 above the control characters behind US-ASCII
high_widths : list_all (λ c. nat_le (columns_of c) 2) (range_with_len 192 32) ≡ true
unfolding unicode_width
high_widths = refl

in_range : (p : ℕ → Bool) (n low c : ℕ) → list_all p (range_with_len low n) ≡ true → low ≤ c
    → c < low + n → p c ≡ true
in_range p zero low c all above below = absurd (omega arith)
in_range p (suc n) low c all above below =
    by_test (c == low) refl (in_range p n (low + 1) c parts.1)
  where
    parts : (p low ≡ true) × (list_all p (range_with_len (low + 1) n) ≡ true)
    parts = and_parts (p low) (list_all p (range_with_len (low + 1) n)) all

    by_test : (t : Bool) → (c == low) ≡ t → (low + 1 ≤ c → c < low + 1 + n → p c ≡ true)
        → p c ≡ true
    by_test true e later = ap p (eqb-true c low e) ∙ parts.0
    by_test false e later =
        let other : c ≡ low → ⊥ = eqb-false c low e in later (omega arith) (omega arith)

placed : (cols c : ℕ) → c < 55296 → is_control c ≡ false → columns_of c ≤ cols
    → has_place cols c ≡ true
placed cols c low seen narrow =
    and_from _ _ (and_from _ _ (low_scalar c low) (not_from_false (is_control c) seen))
    (le-leb (columns_of c) cols narrow)

blank_placed : (cols : ℕ) → 2 ≤ cols → has_place cols 32 ≡ true
blank_placed cols wide = placed cols 32 (omega arith) refl
    (omega (arith, ascii_width 32 (omega arith) (omega arith)))

blanks_placed : (cols n : ℕ) → 2 ≤ cols → list_all (has_place cols) (blanks n) ≡ true
blanks_placed cols zero wide = refl
blanks_placed cols (suc n) wide =
    and_from _ _ (blank_placed cols wide) (blanks_placed cols n wide)

no_control : (c : ℕ) → 32 ≤ c → c < 127 → is_control c ≡ false
no_control c low high = grind (arith, nat_tests)

no_control_above : (c : ℕ) → 160 ≤ c → is_control c ≡ false
no_control_above c low = grind (arith, nat_tests)

control_ranges : (c : ℕ) → is_control c ≡ true → 32 ≤ c → 127 ≤ c
control_ranges c is high = grind (arith, nat_tests)

control_below : (c : ℕ) → is_control c ≡ true → c < 160
control_below c is = grind (arith, nat_tests)

above_placed : (cols c : ℕ) → 2 ≤ cols → is_control c ≡ true → (c == 127) ≡ false
    → has_place cols (c + 64) ≡ true
above_placed cols c wide is other = by_test (nat_lt c 32) refl
  where
    by_test : (t : Bool) → nat_lt c 32 ≡ t → has_place cols (c + 64) ≡ true
    by_test true e =
        let low : c < 32 = grind (arith, nat_tests) in
        placed cols (c + 64) (omega arith) (no_control (c + 64) (omega arith) (omega arith))
        (omega (arith, ascii_width (c + 64) (omega arith) (omega arith)))
    by_test false e =
        let past : 32 ≤ c = ltb-false c 32 e in
        let del : 127 ≤ c = control_ranges c is past in
        let other : c ≡ 127 → ⊥ = eqb-false c 127 other in
        let below : c < 160 = control_below c is in
        let two : columns_of (c + 64) ≤ 2 = leb-true (columns_of (c + 64)) 2
        (in_range (λ c. nat_le (columns_of c) 2) 32 192 (c + 64) high_widths (omega arith)
        (omega arith)) in
        placed cols (c + 64) (omega arith) (no_control_above (c + 64) (omega arith)) (omega arith)

caret_placed : (cols c : ℕ) → 2 ≤ cols → is_control c ≡ true
    → list_all (has_place cols) (caret c) ≡ true
caret_placed cols c wide is =
    and_from _ _ (placed cols 94 (omega arith) refl
    (omega (arith, ascii_width 94 (omega arith) (omega arith))))
    (and_from _ _ (by_test (c == 127) refl) refl)
  where
    by_test : (t : Bool) → (c == 127) ≡ t → has_place cols (cond t 63 (c + 64)) ≡ true
    by_test true e =
        placed cols 63 (omega arith) refl
        (omega (arith, ascii_width 63 (omega arith) (omega arith)))
    by_test false e = above_placed cols c wide is e

shown_placed : (cols past c : ℕ) → 2 ≤ cols → scalar c ≡ true
    → list_all (has_place cols) (shown cols past c) ≡ true
shown_placed cols past c wide is = by_tab (c == 9)
  where
    by_width : (t : Bool) → nat_lt cols (columns_of c) ≡ t → is_control c ≡ false
        → list_all (has_place cols) (cond t (32 ∷ []) (c ∷ [])) ≡ true
    by_width true e seen = and_from _ _ (blank_placed cols wide) refl
    by_width false e seen =
        and_from _ _ (and_from _ _ (and_from _ _ is (not_from_false (is_control c) seen))
        (le-leb (columns_of c) cols (ltb-false cols (columns_of c) e))) refl

    by_control : (t : Bool) → is_control c ≡ t → list_all (has_place cols) (cond t (caret c)
        (cond (nat_lt cols (columns_of c)) (32 ∷ []) (c ∷ []))) ≡ true
    by_control true e = caret_placed cols c wide e
    by_control false e = by_width (nat_lt cols (columns_of c)) refl e

    by_tab : (t : Bool) → list_all (has_place cols) (cond t (blanks (8 - past)) (cond (is_control c)
        (caret c) (cond (nat_lt cols (columns_of c)) (32 ∷ []) (c ∷ [])))) ≡ true
    by_tab true = blanks_placed cols (8 - past) wide
    by_tab false = by_control (is_control c) refl

written_placed : (cols past : ℕ) (cs : List ℕ) → 2 ≤ cols → scalars cs ≡ true
    → list_all (has_place cols) (written cols past cs) ≡ true
written_placed cols past [] wide are = refl
written_placed cols past (c ∷ cs) wide are =
    let parts = and_parts (scalar c) (scalars cs) are in
    list_all-append (has_place cols) (shown cols past c) _
    ∙ and_from _ _ (shown_placed cols past c wide parts.0)
    (written_placed cols (past_stop past (shown cols past c)) cs wide parts.1)

seen_all : (cols : ℕ) (cs : List ℕ) → list_all (has_place cols) cs ≡ true
    → list_all is_seen cs ≡ true
seen_all cols [] all = refl
seen_all cols (c ∷ cs) all =
    let parts = and_parts (has_place cols c) (list_all (has_place cols) cs) all in
    and_from _ _ (and_parts (is_seen c) (nat_le (columns_of c) cols) parts.0).0
    (seen_all cols cs parts.1)

narrow_all : (cols : ℕ) (cs : List ℕ) → list_all (has_place cols) cs ≡ true
    → list_all (λ c. nat_le (columns_of c) cols) cs ≡ true
narrow_all cols [] all = refl
narrow_all cols (c ∷ cs) all =
    let parts = and_parts (has_place cols c) (list_all (has_place cols) cs) all in
    and_from _ _ (and_parts (is_seen c) (nat_le (columns_of c) cols) parts.0).1
    (narrow_all cols cs parts.1)

seen_scalars : (cs : List ℕ) → list_all is_seen cs ≡ true → scalars cs ≡ true
seen_scalars [] all = refl
seen_scalars (c ∷ cs) all =
    let parts = and_parts (is_seen c) (list_all is_seen cs) all in
    and_from _ _ (and_parts (scalar c) (not (is_control c)) parts.0).0 (seen_scalars cs parts.1)

seen_plain : (cs : List ℕ) → list_all is_seen cs ≡ true → is_plain cs ≡ true
seen_plain [] all = refl
seen_plain (c ∷ cs) all =
    let parts = and_parts (is_seen c) (list_all is_seen cs) all in
    and_from _ _ (and_parts (scalar c) (not (is_control c)) parts.0).1 (seen_plain cs parts.1)

-- the bytes of characters that are seen and have a place can be shown
pub piece_shown : (cols : ℕ) (cs : List ℕ) → list_all is_seen cs ≡ true
    → within cols cs ≡ true → is_shown cols (encode_utf8_all cs) ≡ true
piece_shown cols cs seen narrow =
    let are = seen_scalars cs seen in
    let same = chars-encodes cs are in
    and_from _ _ (is_utf8-from_IsUtf8 (encode_utf8_all cs) (cs, (are, refl)))
    (and_from _ _ (ap (within cols) same ∙ narrow) (ap is_plain same ∙ seen_plain cs seen))

pieces_shown : (cols : ℕ) (ps : List (List ℕ)) → list_all (list_all is_seen) ps ≡ true
    → list_all (within cols) ps ≡ true
    → list_all (is_shown cols) (map encode_utf8_all ps) ≡ true
pieces_shown cols [] seen narrow = refl
pieces_shown cols (p ∷ ps) seen narrow =
    let seen = and_parts (list_all is_seen p) (list_all (list_all is_seen) ps) seen in
    let narrow = and_parts (within cols p) (list_all (within cols) ps) narrow in
    and_from _ _ (piece_shown cols p seen.0 narrow.0) (pieces_shown cols ps seen.1 narrow.1)

-- the pieces of a line can be shown
pub broken_shown : PiecesAreShown
broken_shown cols text wide utf8 =
    let placed = written_placed cols 0 (chars text) wide (scalars-chars text utf8) in
    pieces_shown cols (pieces cols cols (line_chars cols text))
    (all-pieces is_seen cols cols (line_chars cols text)
    (seen_all cols (line_chars cols text) placed))
    (within-pieces cols (line_chars cols text) (narrow_all cols (line_chars cols text) placed))

-- the pieces of a line are the line
pub broken_whole : PiecesAreTheLine
broken_whole cols text = concat-pieces cols cols (line_chars cols text)

-- each piece of a line but the last is full
pub broken_full : PiecesAreFull
broken_full cols text = are_full-pieces cols (line_chars cols text)

-- an empty line can be shown
pub empty_shown : (cols : ℕ) → is_shown cols [] ≡ true
empty_shown cols = piece_shown cols [] refl (le-leb 0 cols (omega arith))

-- what can be shown is text
pub shown_utf8 : (cols : ℕ) (text : List ℕ) → is_shown cols text ≡ true → IsUtf8 text
shown_utf8 cols text shown =
    IsUtf8-from_is_utf8 text (and_parts (is_utf8 text)
    (nat_le (columns_in (chars text)) cols && is_plain (chars text)) shown).0

columns_in-append : (xs ys : List ℕ) → columns_in (xs ++ ys) ≡ columns_in xs + columns_in ys
columns_in-append [] ys = omega arith
columns_in-append (x ∷ xs) ys = omega (arith, columns_in-append xs ys)

columns_in-blanks : (n : ℕ) → columns_in (blanks n) ≡ n
columns_in-blanks zero = refl
columns_in-blanks (suc n) =
    omega (arith, columns_in-blanks n, ascii_width 32 (omega arith) (omega arith))

past_more : (past a b : ℕ) → ((past + a) % 8 + b) % 8 ≡ (past + (a + b)) % 8
past_more past a b = mod-add-mod (past + a) 8 b ∙ ap (λ n. n % 8) (regroup past a b)
  where
    regroup : (a b c : ℕ) → a + b + c ≡ a + (b + c)
    regroup a b c = omega arith

-- where a tab ends behind characters
tab_ends : (cols past : ℕ) (front : List ℕ) → past < 8
    → (past + columns_in (written cols past (front ++ 9 ∷ []))) % 8 ≡ 0
tab_ends cols past [] small =
    ap (λ n. (past + n) % 8) (columns_in-append (blanks (8 - past)) []
    ∙ ap (λ n. n + 0) (columns_in-blanks (8 - past)))
    ∙ full past small
  where
    full : (past : ℕ) → past < 8 → (past + (8 - past + 0)) % 8 ≡ 0
    full past small = ap (λ n. n % 8) (eight past small)
      where
        eight : (past : ℕ) → past < 8 → past + (8 - past + 0) ≡ 8
        eight past small = omega arith
tab_ends cols past (c ∷ front) small =
    let out = shown cols past c in
    let behind = written cols (past_stop past out) (front ++ 9 ∷ []) in
    ap (λ n. (past + n) % 8) (columns_in-append out behind)
    ∙ sym (past_more past (columns_in out) (columns_in behind))
    ∙ tab_ends cols (past_stop past out) front (mod_small (past + columns_in out))
  where
    mod_small : (n : ℕ) → n % 8 < 8
    mod_small n = omega arith

-- a tab ends at a multiple of eight
pub tabs_end : TabsEndAtEights
tabs_end cols front =
    ap (λ n. n % 8) (sym (none (columns_in (written cols 0 (front ++ 9 ∷ [])))))
    ∙ tab_ends cols 0 front (omega arith)
  where
    none : (n : ℕ) → 0 + n ≡ n
    none n = omega arith
