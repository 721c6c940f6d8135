-- Words, with blanks between them.
use Rattle.std.specs.Prelude.{ℕ, List}
use Rattle.std.specs.List.{before_first, after_first}
use Rattle.mail_base.specs.Blanks.{is_blank, without_blanks}

-- the bytes up to the first blank
abbrev pub first_word : List ℕ → List ℕ
first_word text = before_first is_blank text

-- what stands behind the first word and the blanks after it
abbrev pub behind_word : List ℕ → List ℕ
behind_word text = without_blanks (after_first is_blank text)
