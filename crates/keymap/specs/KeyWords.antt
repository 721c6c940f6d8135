-- The keys that a key word names.
use Rattle.std.specs.Prelude.{◌-◌, ◌+◌, ℕ, Bool, List, [], ◌∷◌, Option, Some, None, codes, find}
use Rattle.std.specs.Prelude.{length}
use Rattle.std.specs.Prelude.{take, is_some, option_map, if◌then◌else◌}
use Rattle.std.specs.Str.{str_eq_ignore_ascii_case}
use Rattle.mail_base.specs.Fronts.{◌>>=◌, behind, behind_text}
use Rattle.keymap.specs.Functions.{TableRow, rows}
use Rattle.keymap.specs.Pieces.{Piece, one_char, pieces}
use Rattle.keymap.specs.declared.key.Key.{Key}
use Rattle.keymap.specs.declared.key_word.KeyName.{KeyName}
use Rattle.keymap.specs.declared.key.Key.TheVariants.{Char, Up, Down, Left, Right, Home, End}
use Rattle.keymap.specs.declared.key.Key.TheVariants.{PageUp, PageDown, Insert, Delete, F1, F2, F3}
use Rattle.keymap.specs.declared.key.Key.TheVariants.{F4, Call}

-- a key's name in brackets, and the key
pub record NamedKey : Type 0 where
  pub name : List ℕ
  pub key : Key

-- a name of a key
abbrev pub named : List ℕ → Key → NamedKey
named name key = record { name = name; key = key }

-- the keys that have a name
abbrev pub key_names : List NamedKey
key_names =
    named (codes "<Up>") Up ∷
    named (codes "<Down>") Down ∷
    named (codes "<Left>") Left ∷
    named (codes "<Right>") Right ∷
    named (codes "<Home>") Home ∷
    named (codes "<End>") End ∷
    named (codes "<PageUp>") PageUp ∷
    named (codes "<PageDown>") PageDown ∷
    named (codes "<Insert>") Insert ∷
    named (codes "<Delete>") Delete ∷
    named (codes "<F1>") F1 ∷
    named (codes "<F2>") F2 ∷
    named (codes "<F3>") F3 ∷
    named (codes "<F4>") F4 ∷
    named (codes "<Enter>") (Char 13) ∷
    named (codes "<Return>") (Char 13) ∷
    named (codes "<Tab>") (Char 9) ∷
    named (codes "<Esc>") (Char 27) ∷
    named (codes "<Space>") (Char 32) ∷
    named (codes "<BackSpace>") (Char 127) ∷ []

-- a line of the table of names in the code
abbrev pub plain_name : KeyName → NamedKey
plain_name n = named n.0.now n.1

-- the name stands at the front of the text, in any case of ASCII letters
abbrev pub begins_alike : List ℕ → List ℕ → Bool
begins_alike text name = str_eq_ignore_ascii_case (take (length name) text) name

-- the name of a key that stands at the front
abbrev pub name_at : List ℕ → Option NamedKey
name_at text = find (λ n. begins_alike text n.name) key_names

-- the key whose name stands at the front
abbrev pub named_key : List ℕ → Option (Piece Key)
named_key text = option_map (λ n. record { value = n.key; more = length n.name - 1 }) (name_at text)

-- what follows a function's name in brackets, where that stands at the front
abbrev pub behind_name : List ℕ → List ℕ → Option (List ℕ)
behind_name name text = do
  inside ← behind 60 text
  closing ← behind_text name inside
  behind 62 closing

-- the row of the function whose name in brackets stands at the front
abbrev pub row_at : List ℕ → Option TableRow
row_at text = find (λ r. is_some (behind_name r.name text)) rows

-- that function as a key
abbrev pub called_key : List ℕ → Option (Piece Key)
called_key text =
    option_map (λ r. record { value = Call r.function; more = length r.name + 1 }) (row_at text)

-- the same, where names of functions count
abbrev pub called_if : Bool → List ℕ → Option (Piece Key)
called_if functions text = if functions then called_key text else None

-- the first that there is
abbrev pub either : Option (Piece Key) → Piece Key → Piece Key
either None other = other
either (Some piece) other = piece

-- the first key of a text: a name in brackets, or a character
abbrev pub first_word_key : Bool → List ℕ → Piece Key
first_word_key functions text =
    either (named_key text) (either (called_if functions text) (one_char text))

-- the keys of a word
abbrev pub word_keys : Bool → List ℕ → List Key
word_keys functions word = pieces (first_word_key functions) word
