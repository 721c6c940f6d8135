-- The characters of a line, one cell after the other.
use Rattle.std.proofs.Common.{◌≡◌, ℕ, ◌+◌, ◌-◌, ◌≤◌, List, [], ◌∷◌, ◌++◌, replicate, ap, ◌∙◌, sym}
use Rattle.std.proofs.Common.{refl, arith, append_assoc, drop, get_or, length, min, take}
use Rattle.std.proofs.lemmas.Grind.{replicate_next}
use Rattle.std.proofs.lemmas.List.{append-nil, take_all}
use Rattle.std.specs.Prelude.{encode_utf8}
use Rattle.std.specs.Str.{encode_utf8_all}
use Rattle.unicode_width.specs.Width.{char_width}
use Rattle.expando.specs.Columns.{columns_of}
use Rattle.expando.specs.Lines.{filled, laid}
use Rattle.expando.specs.declared.cell.Cell.{Cell}
use Rattle.expando.specs.declared.cell.Cell.TheVariants.{Gap, Rest}
use Rattle.std.proofs.lemmas.Str.{encodes-append}

-- a blank takes a column
pub blank_width : columns_of 32 ≡ 1
unfolding char_width
blank_width = refl

-- the bytes of one more character
pub times_next : (n c : ℕ)
    → encode_utf8_all (replicate (n + 1) c) ≡ encode_utf8_all (replicate n c) ++ encode_utf8 c
times_next n c =
    ap encode_utf8_all (replicate_next n c)
    ∙ encodes-append (replicate n c) (c ∷ [])
    ∙ ap (λ s. encode_utf8_all (replicate n c) ++ s) (append-nil (encode_utf8 c))

-- bytes added twice
pub added_twice : (start : List ℕ) (xs ys : List ℕ)
    → start ++ encode_utf8_all xs ++ encode_utf8_all ys ≡ start ++ encode_utf8_all (xs ++ ys)
added_twice start xs ys =
    append_assoc start (encode_utf8_all xs) (encode_utf8_all ys)
    ∙ ap (λ s. start ++ s) (sym (encodes-append xs ys))

-- the first cell, and those behind it
first_cell : (cells : List Cell) (d cell : Cell) → 1 ≤ length cells → get_or cells 0 d ≡ cell
    → cells ≡ cell ∷ take (length cells - 1) (drop 1 cells)
first_cell [] d cell some is = absurd (omega arith)
first_cell (x ∷ behind) d cell some is =
    let whole : take (length (x ∷ behind) - 1) behind ≡ behind =
    take_all (length (x ∷ behind) - 1) behind (omega arith) in
    ap (λ c. c ∷ behind) is ∙ ap (λ l. cell ∷ l) (sym whole)

-- bytes added, and those of what is left
added_then : (start line : List ℕ) (xs ys : List ℕ) → line ≡ start ++ encode_utf8_all xs
    → line ++ encode_utf8_all ys ≡ start ++ encode_utf8_all (xs ++ ys)
added_then start line xs ys is =
    ap (λ l. l ++ encode_utf8_all ys) is ∙ added_twice start xs ys

-- a gap is filled
pub gap_turn : (start line all : List ℕ) (cells : List Cell) (d : Cell) (c gap left taken : ℕ)
    → 1 ≤ length cells → get_or cells 0 d ≡ Gap c → taken ≡ min gap left
    → line ≡ start ++ encode_utf8_all (filled c taken)
    → start ++ encode_utf8_all (laid gap left cells) ≡ all
    → line ++ encode_utf8_all (laid 0 (left - taken) (take (length cells - 1) (drop 1 cells))) ≡ all
gap_turn start line all cells d c gap left taken some is least grows before =
    let behind = take (length cells - 1) (drop 1 cells) in
    added_then start line (filled c taken) (laid 0 (left - taken) behind) grows
    ∙ ap (λ n. start ++ encode_utf8_all (filled c n ++ laid 0 (left - n) behind)) least
    ∙ ap (λ l. start ++ encode_utf8_all (laid gap left l))
    (sym (first_cell cells d (Gap c) some is))
    ∙ before

-- the rest of a line is filled
pub rest_turn : (start line all : List ℕ) (cells : List Cell) (d : Cell) (c gap left : ℕ)
    → 1 ≤ length cells → get_or cells 0 d ≡ Rest c
    → line ≡ start ++ encode_utf8_all (filled c left)
    → start ++ encode_utf8_all (laid gap left cells) ≡ all
    → line ++ encode_utf8_all (laid gap 0 (take (length cells - 1) (drop 1 cells))) ≡ all
rest_turn start line all cells d c gap left some is grows before =
    let behind = take (length cells - 1) (drop 1 cells) in
    added_then start line (filled c left) (laid gap 0 behind) grows
    ∙ ap (λ l. start ++ encode_utf8_all (laid gap left l))
    (sym (first_cell cells d (Rest c) some is))
    ∙ before
