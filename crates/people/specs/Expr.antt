-- What is searched for: a literal as it stands, and anything else as the regex crate reads it.
use Rattle.std.specs.Prelude.{◌≡◌, ◌==◌, ◌+◌, ℕ, Bool, false, not, nat_le, List, length, Option}
use Rattle.std.specs.Prelude.{Some, None, is_some}
use Rattle.std.specs.Prelude.{chars, codes, if◌then◌else◌}
use Rattle.std.specs.Char.{is_ascii_uppercase}
use Rattle.std.specs.List.{list_any, range_with_len}
use Rattle.std.specs.Str.{str_to_ascii_lowercase}
use Rattle.mail_base.specs.Shown.{utf8_text}
use Rattle.memchr.specs.Find.{occurs_at}
use Rattle.regex.specs.Patterns.{Config, Re, default_config, find_str}
use Rattle.regex.specs.Strings.{IsReadFromSource, regex_config, regex_source}
use Rattle.regex.specs.declared.string.regex.Regex.{Regex}
use Rattle.regex_syntax.specs.Brackets.{Nested}
use Rattle.regex_syntax.specs.Grammar.{Names, read}

-- it has a meaning of its own in an expression
unfoldable pub is_special : ℕ → Bool
is_special b = list_any (λ s. s == b) (codes "\\.+*?()[]{}|^$")

-- no byte of the text has such a meaning, so it is searched for as it stands
abbrev pub is_literal : List ℕ → Bool
is_literal text = not (list_any is_special text)

-- a search regards case exactly where its text holds an ASCII capital
abbrev pub is_folded : List ℕ → Bool
is_folded text = not (list_any is_ascii_uppercase text)

-- the literal stands somewhere in the text
abbrev pub stands_in : List ℕ → List ℕ → Bool
stands_in literal text = list_any (occurs_at text literal) (range_with_len 0 (length text + 1))

-- the same, where ASCII letters of both cases are equal unless it regards case
abbrev pub literal_found : List ℕ → List ℕ → Bool
literal_found literal text =
    let lower = str_to_ascii_lowercase in
    if is_folded literal then stands_in (lower literal) (lower text) else stands_in literal text

-- the options with which an expression is read, where a search does or does not regard case
abbrev pub config : Bool → Config
config fold = record default_config {
  flags = record default_config.flags { case_insensitive = fold };
}

-- what was read is there, and does not nest too deep
abbrev pub is_read : Config → Option (Nested Re × Names) → Bool
is_read options None = false
is_read options (Some (re, names)) = nat_le re.depth options.nest_limit

-- regex reads a pattern in the text
unfoldable pub is_pattern : Bool → List ℕ → Bool
is_pattern fold text = is_read (config fold) (read (config fold) (chars text))

-- what was read has a match in the text
abbrev pub read_found : Option (Nested Re × Names) → List ℕ → Bool
read_found None text = false
read_found (Some (re, names)) text = is_some (find_str re.value text 0)

-- what regex reads in the expression has a match in the text
unfoldable pub pattern_found : List ℕ → List ℕ → Bool
pattern_found expr text = read_found (read (config (is_folded expr)) (chars expr)) text

-- The expression is found in the text. It is searched for in UTF-8, where a malformed byte is a
-- `?`; a literal has none.
abbrev pub finds : List ℕ → List ℕ → Bool
finds expr text =
    if is_literal expr then literal_found expr text else pattern_found expr (utf8_text text)

-- what is built for a text: what regex reads in it
pub record IsBuilt (fold : Bool) (text : List ℕ) (regex : Regex) : Type 0 where
  pub source : regex_source regex ≡ text
  pub options : regex_config regex ≡ config fold
  pub reads : IsReadFromSource regex
