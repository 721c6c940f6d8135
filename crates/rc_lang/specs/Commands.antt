-- The commands of muttrc, and how many words they take (Mutt's manual, "Configuration Commands").
use Rattle.std.specs.Prelude.{ℕ, Bool, true, false, ◌&&◌, nat_lt, List, [], ◌∷◌, codes, find}
use Rattle.std.specs.Prelude.{length, drop, Option, Some, None, Result, Ok, Err, slice_get}
use Rattle.std.specs.Prelude.{if◌then◌else◌}
use Rattle.std.specs.List.{flat_map}
use Rattle.std.specs.Str.{bytes_eq}
use Rattle.rc_lang.specs.declared.command.Command.{Command}
use Rattle.rc_lang.specs.declared.command.Command.TheVariants.{Set, Unset, Toggle, Reset, Bind}
use Rattle.rc_lang.specs.declared.command.Command.TheVariants.{Macro, Push, Exec, Source}
use Rattle.rc_lang.specs.declared.command.Command.TheVariants.{FolderHook, MessageHook, SaveHook}
use Rattle.rc_lang.specs.declared.command.Command.TheVariants.{Score, Unscore, Lists, Subscribe}
use Rattle.rc_lang.specs.declared.command.Command.TheVariants.{Alternates, Alias, Ignore, Unignore}
use Rattle.rc_lang.specs.declared.command.Command.TheVariants.{HdrOrder, Mailboxes, Idle}
use Rattle.rc_lang.specs.declared.command.CommandRow.{CommandRow}
use Rattle.rc_lang_words.specs.declared.fault.RcFault.TheVariants.{UnknownCommand, MissingWord}
use Rattle.rc_lang_words.specs.declared.fault.RcFault.TheVariants.{ExtraWord}
use Rattle.rc_lang.specs.Expansion.{word_text}
use Rattle.rc_lang_words.specs.Faults.{Fault}
use Rattle.rc_lang.specs.Settings.{fault_of}
use Rattle.rc_lang.specs.Values.{PlainValue}
use Rattle.rc_lang_words.specs.Words.{PlainPiece, Text, Variable}

-- a command with its name, and the least and the greatest number of words behind its own
pub record Row : Type 0 where
  pub name : List ℕ
  pub command : Command
  pub least : ℕ
  pub most : Option ℕ

-- a row of the table of commands
abbrev pub row : List ℕ → Command → ℕ → Option ℕ → Row
row name command least most = record { name = name; command = command; least = least; most = most }

-- the table
abbrev pub rows : List Row
rows =
    row (codes "set") Set 0 None
    ∷ row (codes "unset") Unset 0 None
    ∷ row (codes "toggle") Toggle 0 None
    ∷ row (codes "reset") Reset 0 None
    ∷ row (codes "bind") Bind 3 (Some 3)
    ∷ row (codes "macro") Macro 3 (Some 4)
    ∷ row (codes "push") Push 1 (Some 1)
    ∷ row (codes "exec") Exec 1 None
    ∷ row (codes "source") Source 1 (Some 1)
    ∷ row (codes "folder-hook") FolderHook 2 None
    ∷ row (codes "message-hook") MessageHook 2 None
    ∷ row (codes "save-hook") SaveHook 2 (Some 2)
    ∷ row (codes "score") Score 2 (Some 2)
    ∷ row (codes "unscore") Unscore 1 None
    ∷ row (codes "lists") Lists 1 None
    ∷ row (codes "subscribe") Subscribe 1 None
    ∷ row (codes "alternates") Alternates 1 None
    ∷ row (codes "alias") Alias 2 None
    ∷ row (codes "ignore") Ignore 1 None
    ∷ row (codes "unignore") Unignore 1 None
    ∷ row (codes "hdr_order") HdrOrder 1 None
    ∷ row (codes "mailboxes") Mailboxes 1 None
    ∷ row (codes "color") Idle 0 None
    ∷ row (codes "uncolor") Idle 0 None
    ∷ row (codes "mono") Idle 0 None
    ∷ row (codes "auto_view") Idle 0 None
    ∷ row (codes "alternative_order") Idle 0 None
    ∷ row (codes "my_hdr") Idle 0 None
    ∷ row (codes "mime_lookup") Idle 0 None
    ∷ row (codes "charset-hook") Idle 0 None
    ∷ row (codes "send-hook") Idle 0 None
    ∷ row (codes "fcc-hook") Idle 0 None
    ∷ row (codes "reply-hook") Idle 0 None
    ∷ []

-- a row of the code's table as contracts see it
abbrev pub plain_row : CommandRow → Row
plain_row r = record { name = r.0.now; command = r.1; least = r.2; most = r.3 }

-- the row of a name
abbrev pub row_of : List ℕ → Option Row
row_of name = find (λ r. bytes_eq r.name name) rows

-- a `!` alone before its expression or pattern is not counted
abbrev pub is_hook : Command → Bool
is_hook FolderHook = true
is_hook MessageHook = true
is_hook SaveHook = true
is_hook _ = false

-- a part as it is written
abbrev pub written_piece : PlainPiece → List ℕ
written_piece (Text text) = text
written_piece (Variable name) = 36 ∷ name

-- a word as it is written, without its quotes
abbrev pub written_word : List PlainPiece → List ℕ
written_word word = flat_map written_piece word

-- the word is `!`
abbrev pub is_negation : List PlainPiece → Bool
is_negation word = bytes_eq (written_word word) (codes "!")

-- the first word is an exclamation mark
abbrev pub begins_negated : List (List PlainPiece) → Bool
begins_negated [] = false
begins_negated (word ∷ words) = is_negation word

-- the words that are counted
abbrev pub counted_words : Command → List (List PlainPiece) → List (List PlainPiece)
counted_words command words = if is_hook command && begins_negated words then drop 1 words else
    words

-- the first word too many
abbrev pub extra_word : Option ℕ → List (List PlainPiece) → Option (List PlainPiece)
extra_word None words = None
extra_word (Some most) words = slice_get words most

-- the command, where no word is too many
abbrev pub without_extra : Command → Option (List PlainPiece) → Result Command Fault
without_extra command None = Ok command
without_extra command (Some word) = Err (fault_of ExtraWord (written_word word))

-- the command, if the number of these words is right
abbrev pub command_if_right : Row → List (List PlainPiece) → Result Command Fault
command_if_right r words =
    if nat_lt (length words) r.least then Err (fault_of MissingWord [])
    else without_extra r.command (extra_word r.most words)

-- the command of a row, or its first fault in the words
abbrev pub judged_row : List ℕ → Option Row → List (List PlainPiece) → Result Command Fault
judged_row name None words = Err (fault_of UnknownCommand name)
judged_row name (Some r) words = command_if_right r (counted_words r.command words)

-- the command of a name that was expanded
abbrev pub command_named : Result (List ℕ) Fault → List (List PlainPiece) → Result Command Fault
command_named (Ok name) words = judged_row name (row_of name) words
command_named (Err fault) words = Err fault

-- the command that the first word names, if the number of the others is right
abbrev pub command_of : List PlainValue → List (List PlainPiece) → Result Command Fault
command_of values [] = Err (fault_of UnknownCommand [])
command_of values (first ∷ words) = command_named (word_text values first) words
