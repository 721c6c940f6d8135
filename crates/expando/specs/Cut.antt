-- Texts cut at display columns (Unicode Standard Annex 11, as unicode_width reads it).
use Rattle.std.specs.Prelude.{ℕ, List, map}
use Rattle.std.specs.Str.{encode_utf8_all}
use Rattle.expando.specs.Columns.{shown_text}
use Rattle.expando.specs.Lines.{laid}
use Rattle.expando.specs.declared.cell.Cell.TheVariants.{Shown}

-- the characters at the front whose columns add up to no more than these; a blank stands for a
-- wide one that is cut
abbrev pub fitting : ℕ → List ℕ → List ℕ
fitting cols cs = laid 0 cols (map Shown cs)

-- the characters of a line of the screen that shows a text
abbrev pub shown : ℕ → List ℕ → List ℕ
shown cols text = fitting cols (shown_text text)

-- the bytes of that line
abbrev pub cut : ℕ → List ℕ → List ℕ
cut cols text = encode_utf8_all (shown cols text)
