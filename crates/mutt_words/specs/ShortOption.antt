-- Options of a letter with a value, which stands in the next word or behind the letter.
use Rattle.std.specs.Prelude.{◌==◌, ℕ, List, [], ◌∷◌, Option, Some, None, if◌then◌else◌}
use Rattle.std.specs.Str.{byte}
use Rattle.mail_base.specs.Fronts.{◌>>=◌, behind}
use Rattle.mutt_words.specs.declared.short_option.ShortOption.{ShortOption}
use Rattle.mutt_words.specs.declared.short_option.ShortOption.TheVariants.{Folder, RcFile, Command}
use Rattle.mutt_words.specs.declared.short_option.ShortOption.TheVariants.{FolderKind, Query}

-- the option of a letter
abbrev pub option_of : ℕ → Option ShortOption
option_of letter =
    if letter == byte "f" then Some Folder
    else (if letter == byte "F" then Some RcFile
    else (if letter == byte "e" then Some Command
    else (if letter == byte "m" then Some FolderKind
    else (if letter == byte "Q" then Some Query else None))))

-- a letter's option, and what stands behind the letter
abbrev pub read_letter : List ℕ → Option (ShortOption × List ℕ)
read_letter [] = None
read_letter (letter ∷ value) = do
  option ← option_of letter
  Some (option, value)

-- the option with which a word begins, and what stands behind its letter
abbrev pub read_short : List ℕ → Option (ShortOption × List ℕ)
read_short word = do
  text ← behind (byte "-") word
  read_letter text
