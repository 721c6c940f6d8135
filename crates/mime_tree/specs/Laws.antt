-- Laws of the definitions: what was written so is read back.
use Rattle.std.specs.Prelude.{◌≡◌, ◌+◌, ◌-◌, ◌/◌, ◌%◌, ◌&&◌, ℕ, Bool, true, false, not, nat_lt}
use Rattle.std.specs.Prelude.{List, [], ◌∷◌, ◌++◌, length, map, Some, codes, if◌then◌else◌}
use Rattle.std.specs.List.{list_all, list_any, flat_map}
use Rattle.std.specs.Str.{byte}
use Rattle.bstr.specs.Text.{lines_of}
use Rattle.mail_base.specs.Tokens.{is_token_byte}
use Rattle.mail_base.specs.Written.{escaped, is_line_byte}
use Rattle.mime_tree.specs.Delimiter.{is_delimiter, kind_of}
use Rattle.mime_tree.specs.Parameter.{parameters, value_of}
use Rattle.mime_tree.specs.Quoted.{from_quoted}
use Rattle.mime_tree.specs.Section.{sections}

-- the hexadecimal digit of a number below 16
abbrev pub hex_digit : ℕ → ℕ
hex_digit n = if nat_lt n 10 then byte "0" + n else byte "A" + (n - 10)

-- a byte as `=` and two digits (RFC 2045, section 6.7, rule 1)
abbrev pub written_byte : ℕ → List ℕ
written_byte b = byte "=" ∷ hex_digit (b / 16) ∷ hex_digit (b % 16) ∷ []

-- each byte that is written so is read back
abbrev pub QuotedBytesAreRead : Type 0
QuotedBytesAreRead =
    (bytes : List ℕ) → list_all (λ b. nat_lt b 256) bytes ≡ true
    → from_quoted (flat_map written_byte bytes) ≡ bytes

-- a token (RFC 2045, section 5.1)
abbrev pub is_token : List ℕ → Bool
is_token [] = false
is_token (b ∷ name) = is_token_byte b && list_all is_token_byte name

-- `; NAME="VALUE"`
abbrev pub written_parameter : List ℕ → List ℕ → List ℕ
written_parameter name value =
    byte ";" ∷ byte " " ∷ (name ++ byte "=" ∷ byte "\"" ∷ (escaped value ++ byte "\"" ∷ []))

-- a parameter that is written so is read back, whatever bytes its value has
abbrev pub WrittenParameterIsRead : Type 0
WrittenParameterIsRead =
    (name value : List ℕ) → is_token name ≡ true
    → value_of name (parameters (written_parameter name value)) ≡ Some value

-- a boundary: bytes of one line
abbrev pub is_boundary : List ℕ → Bool
is_boundary boundary = nat_lt 0 (length boundary) && list_all is_line_byte boundary

-- no line of the text, with a line end behind it, is a delimiter line
abbrev pub is_apart : List ℕ → List ℕ → Bool
is_apart boundary text =
    not (list_any (λ line. is_delimiter (kind_of boundary line)) (lines_of (text ++ codes "\r\n")))

-- a line of two dashes, the boundary and an end
abbrev pub dashed : List ℕ → List ℕ → List ℕ
dashed boundary end = codes "--" ++ (boundary ++ end)

-- texts each behind a delimiter line, and the closing line (RFC 2046, section 5.1.1)
abbrev pub written_sections : List ℕ → List (List ℕ) → List ℕ
written_sections boundary [] = dashed boundary (codes "--\r\n")
written_sections boundary (text ∷ texts) =
    dashed boundary (codes "\r\n") ++ ((text ++ codes "\r\n") ++ written_sections boundary texts)

-- texts that are written so are cut apart again
abbrev pub WrittenSectionsAreCut : Type 0
WrittenSectionsAreCut =
    (boundary : List ℕ) (texts : List (List ℕ)) → is_boundary boundary ≡ true
    → list_all (is_apart boundary) texts ≡ true
    → map (λ s. s.text) (sections boundary false 0 (lines_of (written_sections boundary texts)))
    ≡ texts
