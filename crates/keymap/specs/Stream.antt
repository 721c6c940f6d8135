-- The keys of a stream of bytes.
use Rattle.std.specs.Prelude.{◌==◌, ◌-◌, ◌&&◌, ◌||◌, ℕ, Bool, true, false, List, [], ◌∷◌, Option}
use Rattle.std.specs.Prelude.{Some, None}
use Rattle.std.specs.Prelude.{codes, find, length, take, nat_lt, nat_le, is_none}
use Rattle.std.specs.List.{list_any}
use Rattle.std.specs.Str.{bytes_eq}
use Rattle.bstr.specs.Utf8.{decoded}
use Rattle.keymap.specs.Pieces.{Piece, one_char, pieces}
use Rattle.keymap.specs.declared.escape.Form.{Form}
use Rattle.keymap.specs.declared.key.Key.{Key}
use Rattle.keymap.specs.declared.key.Key.TheVariants.{Up, Down, Left, Right, Home, End, PageUp}
use Rattle.keymap.specs.declared.key.Key.TheVariants.{PageDown, Insert, Delete, F1, F2, F3, F4}

-- an escape form: the bytes that a terminal sends for a key
pub record Sent : Type 0 where
  pub text : List ℕ
  pub key : Key

-- the bytes of a key
abbrev pub sent : List ℕ → Key → Sent
sent text key = record { text = text; key = key }

-- the escape forms
abbrev pub forms : List Sent
forms =
    sent (codes "\u{1b}[A") Up ∷
    sent (codes "\u{1b}[B") Down ∷
    sent (codes "\u{1b}[C") Right ∷
    sent (codes "\u{1b}[D") Left ∷
    sent (codes "\u{1b}[H") Home ∷
    sent (codes "\u{1b}[F") End ∷
    sent (codes "\u{1b}[2~") Insert ∷
    sent (codes "\u{1b}[3~") Delete ∷
    sent (codes "\u{1b}[5~") PageUp ∷
    sent (codes "\u{1b}[6~") PageDown ∷
    sent (codes "\u{1b}OP") F1 ∷
    sent (codes "\u{1b}OQ") F2 ∷
    sent (codes "\u{1b}OR") F3 ∷
    sent (codes "\u{1b}OS") F4 ∷ []

-- a line of the table of forms in the code
abbrev pub plain_form : Form → Sent
plain_form f = sent f.0.now f.1

-- the text begins with the front
abbrev pub begins : List ℕ → List ℕ → Bool
begins text front = bytes_eq (take (length front) text) front

-- the escape form at the front
abbrev pub form_at : List ℕ → Option Sent
form_at bytes = find (λ f. begins bytes f.text) forms

-- the key of an escape form, or else the character, ESC among them
abbrev pub form_or : Option Sent → Piece Key → Piece Key
form_or None piece = piece
form_or (Some f) piece = record { value = f.key; more = length f.text - 1 }

-- the first key
abbrev pub first_key : List ℕ → Piece Key
first_key bytes = form_or (form_at bytes) (one_char bytes)

-- the keys of a stream
abbrev pub keys_of : List ℕ → List Key
keys_of bytes = pieces first_key bytes

-- some escape form begins with these bytes and goes on
abbrev pub is_in_form : List ℕ → Bool
is_in_form bytes = list_any (λ f. nat_lt (length bytes)
    (length f.text) && begins f.text bytes) forms

-- the byte begins a character of several bytes
abbrev pub is_lead : List ℕ → Bool
is_lead [] = false
is_lead (b ∷ rest) = nat_le 0xC2 b && nat_le b 0xF4

-- a character of several bytes begins with these and goes on
abbrev pub is_in_char : List ℕ → Bool
is_in_char bytes =
    is_lead bytes && is_none (decoded bytes).char && (decoded bytes).size == length bytes

-- the bytes do not tell their first key: it depends on the next byte
abbrev pub is_open : List ℕ → Bool
is_open [] = true
is_open (b ∷ rest) = is_in_form (b ∷ rest) || is_in_char (b ∷ rest)
