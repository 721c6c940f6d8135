-- Bytes as text on one line.
use Rattle.std.specs.Prelude.{ℕ, List, map, if◌then◌else◌}
use Rattle.std.specs.Str.{byte}
use Rattle.mail_base.specs.Shown.{utf8_text}
use Rattle.mail_base.specs.Written.{is_line_byte}

-- a blank in place of LF and CR
abbrev pub on_line : ℕ → ℕ
on_line b = if is_line_byte b then b else byte " "

-- UTF-8 with a blank in place of each LF and CR, and a `?` in place of each malformed byte
abbrev pub clean : List ℕ → List ℕ
clean bytes = utf8_text (map on_line bytes)
