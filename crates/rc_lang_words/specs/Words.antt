-- Commands, their words and the parts of these (Mutt's manual, "Syntax of Initialization Files").
use Rattle.std.specs.Prelude.{◌+◌, ◌-◌, ◌&&◌, ◌||◌, ℕ, zero, suc, Bool, true, false, not, nat_lt}
use Rattle.std.specs.Prelude.{List, [], ◌∷◌, ◌++◌, length, take, drop, map, position, Option, Some}
use Rattle.std.specs.Prelude.{None, option_to_list, unwrap_or, if◌then◌else◌}
use Rattle.std.specs.List.{filter_map}
use Rattle.std.specs.declared.alloc.Global.{Global}
use Rattle.std.specs.declared.vec.Vec.{Vec}
use Rattle.mail_base.specs.Series.{Held}
use Rattle.mail_base.specs.Shown.{utf8_text}
use Rattle.rc_lang_words.specs.declared.fault.RcFault.{RcFault}
use Rattle.rc_lang_words.specs.declared.fault.RcFault.TheVariants as fault
use Rattle.rc_lang_words.specs.declared.rc_line.RcLine.{RcLine}
use Rattle.rc_lang_words.specs.declared.sign.Sign.{Sign}
use Rattle.rc_lang_words.specs.declared.word.FoundName.{FoundName}
use Rattle.rc_lang_words.specs.declared.word.RcPiece.{RcPiece}
use Rattle.rc_lang_words.specs.declared.word.RcPiece.TheVariants as piece
use Rattle.rc_lang_words.specs.declared.word.RcWord.{RcWord}
use Rattle.rc_lang_words.specs.Signs.{signs_of, is_blank, is_end, is_open_quote, is_plain}
use Rattle.rc_lang_words.specs.Signs.{is_active, is_in_name, byte_of}

-- a part of a word: text, or a variable by its name
pub data PlainPiece : Type 0 where
  Text : List ℕ → PlainPiece
  Variable : List ℕ → PlainPiece

-- a part, without the room of its text
abbrev pub plain_piece : RcPiece → PlainPiece
plain_piece (piece.Text t) = Text t.items
plain_piece (piece.Variable name) = Variable name.items

-- the pieces of a word as contracts see them
abbrev pub plain_pieces : Held RcPiece → List PlainPiece
plain_pieces pieces = map plain_piece pieces.items

-- a word as contracts see it
abbrev pub plain_word : RcWord → List PlainPiece
plain_word w = plain_pieces w.pieces

-- words as contracts see them
abbrev pub plain_words : Held RcWord → List (List PlainPiece)
plain_words words = map plain_word words.items

-- the bytes for which characters stand
abbrev pub text_of : List Sign → List ℕ
text_of signs = filter_map byte_of signs

-- how many characters at the front may stand in a name
unfoldable pub name_len : List Sign → ℕ
name_len signs = unwrap_or (position (λ s. not (is_in_name s)) signs) (length signs)

-- a variable's name, and how many characters it takes behind its `$`
pub record Found : Type 0 where
  pub name : List ℕ
  pub size : ℕ

-- a found name as contracts see it
abbrev pub found_view : FoundName → Found
found_view f = record { name = text_of f.name.now; size = f.size }

-- signs begin with a byte that is not escaped
abbrev pub begins_active : ℕ → List Sign → Bool
begins_active byte [] = false
begins_active byte (s ∷ rest) = is_active byte s

-- the name that the first n characters spell
abbrev pub found_name : List Sign → ℕ → ℕ → Found
found_name signs n size = record { name = text_of (take n signs); size = size }

-- behind `${`: a name of this length and a `}`
abbrev pub braced_name : List Sign → ℕ → Option Found
braced_name signs n =
    if nat_lt 0 n && begins_active 125 (drop n signs) then Some (found_name signs n
    (n + 2)) else None

-- a name without braces, of so many signs
abbrev pub bare_name : List Sign → ℕ → Option Found
bare_name signs n = if nat_lt 0 n then Some (found_name signs n n) else None

-- the variable behind a `$`, in braces or not
abbrev pub name_behind : List Sign → Option Found
name_behind [] = None
name_behind (s ∷ rest) =
    if is_active 123 s then braced_name rest (name_len rest)
    else bare_name (s ∷ rest) (name_len (s ∷ rest))

-- the variable that the character begins
abbrev pub name_at : Sign → List Sign → Option Found
name_at s rest = if is_active 36 s then name_behind rest else None

-- a text before parts; a text at their front continues it
abbrev pub with_text : List ℕ → List PlainPiece → List PlainPiece
with_text [] pieces = pieces
with_text (b ∷ t) [] = Text (b ∷ t) ∷ []
with_text (b ∷ t) (Text u ∷ pieces) = Text ((b ∷ t) ++ u) ∷ pieces
with_text (b ∷ t) (Variable name ∷ pieces) = Text (b ∷ t) ∷ Variable name ∷ pieces

-- a character that begins a variable, or gives its byte; `more` are the parts behind so many
-- further characters
abbrev pub pieces_at : Sign → Option Found → (ℕ → List PlainPiece) → List PlainPiece
pieces_at s None more = with_text (option_to_list (byte_of s)) (more 0)
pieces_at s (Some f) more = Variable f.name ∷ more f.size

-- the parts of a word behind so many characters
abbrev pub pieces_behind : ℕ → List Sign → List PlainPiece
pieces_behind n [] = []
pieces_behind zero (s ∷ rest) = pieces_at s (name_at s rest) (λ n. pieces_behind n rest)
pieces_behind (suc n) (s ∷ rest) = pieces_behind n rest

-- the parts of a word
abbrev pub pieces_of : List Sign → List PlainPiece
pieces_of word = pieces_behind 0 word

-- a command as it is written: its characters, and whether it ends in quotes
pub record Command : Type 0 where
  pub signs : List Sign
  pub is_open : Bool

-- the commands of which the first has these characters so far
abbrev pub commands_from : List Sign → List Sign → List Command
commands_from so_far [] = record { signs = so_far; is_open = false } ∷ []
commands_from so_far (s ∷ rest) =
    if is_end s then record { signs = so_far; is_open = is_open_quote s } ∷ commands_from [] rest
    else commands_from (so_far ++ s ∷ []) rest

-- a word that ends is one where it has a character
abbrev pub ended_word : List Sign → List (List Sign)
ended_word [] = []
ended_word (s ∷ word) = (s ∷ word) ∷ []

-- the words of a command of which the first has these characters so far
abbrev pub words_from : List Sign → List Sign → List (List Sign)
words_from so_far [] = ended_word so_far
words_from so_far (s ∷ rest) =
    if is_blank s then ended_word so_far ++ words_from [] rest
    else words_from (so_far ++ s ∷ []) rest

-- words as lists of their characters
abbrev pub written_words : List (Vec Sign Global) → List (List Sign)
written_words words = map (λ w. w.items) words

-- `set` without quotes
abbrev pub is_set : List Sign → Bool
is_set (s ∷ e ∷ t ∷ []) = is_plain 115 s && is_plain 101 e && is_plain 116 t
is_set _ = false

-- the word begins with an equals sign
abbrev pub begins_equals : List Sign → Bool
begins_equals [] = false
begins_equals (s ∷ word) = is_plain 61 s

-- it ends with one
abbrev pub ends_equals : List Sign → Bool
ends_equals word = begins_equals (drop (length word - 1) word)

-- blanks round an equals sign part no words
abbrev pub joined_from : List Sign → List (List Sign) → List (List Sign)
joined_from word [] = word ∷ []
joined_from word (next ∷ words) =
    if ends_equals word || begins_equals next then joined_from (word ++ next) words
    else word ∷ joined_from next words

-- the words of a command, in which `set` joins those behind it round an equals sign
abbrev pub joined_words : List (List Sign) → List (List Sign)
joined_words [] = []
joined_words (word ∷ []) = word ∷ []
joined_words (word ∷ next ∷ words) =
    if is_set word then word ∷ joined_from next words else word ∷ next ∷ words

-- a command with the line of its first word, its words and its fault
pub record PlainLine : Type 0 where
  pub line : ℕ
  pub words : List (List PlainPiece)
  pub fault : Option RcFault

-- the line of the first sign
abbrev pub first_line : List Sign → ℕ
first_line [] = 1
first_line (s ∷ word) = s.line

-- a command with a quote that is not closed has no words
abbrev pub line_of : Bool → List (List Sign) → Option PlainLine
line_of is_open [] = None
line_of true (word ∷ words) =
    Some (record { line = first_line word; words = []; fault = Some fault.OpenQuote })
line_of false (word ∷ words) =
    let read = map pieces_of (joined_words (word ∷ words)) in
    Some (record { line = first_line word; words = read; fault = None })

-- a command without words is none
abbrev pub command_line : Command → Option PlainLine
command_line command = line_of command.is_open (words_from [] command.signs)

-- the commands of muttrc text
abbrev pub lines_of : List ℕ → List PlainLine
lines_of text = filter_map command_line (commands_from [] (signs_of (utf8_text text)))

-- a command, without the rooms of its lists
abbrev pub plain_line : RcLine → PlainLine
plain_line l = record { line = l.line; words = plain_words l.words; fault = l.fault }

-- commands as contracts see them
abbrev pub plain_lines : Held RcLine → List PlainLine
plain_lines lines = map plain_line lines.items
