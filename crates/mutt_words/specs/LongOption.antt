-- Options of a name with a value behind an equals sign.
use Rattle.std.specs.Prelude.{◌&&◌, ℕ, Bool, nat_le, List, length, Option, Some, None, codes}
use Rattle.std.specs.Char.{is_ascii_alphanumeric}
use Rattle.std.specs.List.{list_all}
use Rattle.mail_base.specs.Fronts.{behind_text}
use Rattle.mutt_words.specs.declared.long_option.LongOption.{LongOption}
use Rattle.mutt_words.specs.declared.long_option.LongOption.TheVariants.{Rows, Cols, Offset, Owner}

-- the option with its value where there is one, and else what another reads
abbrev pub valued : LongOption → Option (List ℕ) → Option (LongOption × List ℕ)
    → Option (LongOption × List ℕ)
valued option (Some value) others = Some (option, value)
valued option None others = others

-- the option with which a word begins, and the value behind it
abbrev pub read_long : List ℕ → Option (LongOption × List ℕ)
read_long word =
    valued Rows (behind_text (codes "--rows=") word)
    (valued Cols (behind_text (codes "--cols=") word)
    (valued Offset (behind_text (codes "--offset=") word)
    (valued Owner (behind_text (codes "--owner=") word) None)))

-- a text has no byte but ASCII letters and digits
abbrev pub are_letters_or_digits : List ℕ → Bool
are_letters_or_digits text = list_all is_ascii_alphanumeric text

-- letters and digits, at most 64
abbrev pub is_owner : List ℕ → Bool
is_owner text = nat_le (length text) 64 && are_letters_or_digits text
