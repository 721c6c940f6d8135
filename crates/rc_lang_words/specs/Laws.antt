-- Laws of how muttrc text is read.
use Rattle.std.specs.Prelude.{◌≡◌, ◌==◌, ◌||◌, ℕ, Bool, true, not, List, [], ◌∷◌, ◌++◌, None}
use Rattle.std.specs.Prelude.{if◌then◌else◌}
use Rattle.std.specs.List.{flat_map}
use Rattle.std.specs.Str.{is_utf8}
use Rattle.rc_lang_words.specs.Words.{PlainLine, PlainPiece, lines_of, with_text}

-- one command on the first line, with these words
abbrev pub one_line : List (List PlainPiece) → List PlainLine
one_line words = record { line = 1; words = words; fault = None } ∷ []

-- a byte as it is written in double quotes: `\n` for a line end, and a backslash before a quote, a
-- backslash or a `$`
abbrev pub escape : ℕ → List ℕ
escape b =
    if b == 10 then 92 ∷ 110 ∷ []
    else (if b == 34 || b == 36 || b == 92 then 92 ∷ b ∷ [] else b ∷ [])

-- a word in double quotes
abbrev pub quoted_word : List ℕ → List ℕ
quoted_word word = 34 ∷ flat_map escape word ++ 34 ∷ []

-- a byte that stands for itself in double quotes
abbrev pub needs_no_escape : ℕ → Bool
needs_no_escape b = not (b == 10 || b == 34 || b == 36 || b == 92)

-- any word of UTF-8 is read back from its quotes
abbrev pub QuotedIsRead : Type 0
QuotedIsRead =
    (word : List ℕ) → is_utf8 word ≡ true
    → lines_of (quoted_word word) ≡ one_line (with_text word [] ∷ [])
