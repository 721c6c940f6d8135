-- Which texts a variable takes.
use Rattle.std.specs.Prelude.{◌≡◌, ◌⊎◌, Result, Ok, Err, false}
use Rattle.std.specs.Prelude.{ℕ, Bool, true, ◌&&◌, ◌||◌, ◌==◌, nat_eq, nat_lt, List, codes, drop}
use Rattle.std.specs.Prelude.{is_ok, is_some, length, if◌then◌else◌}
use Rattle.std.specs.List.{list_all, starts_with}
use Rattle.std.specs.Str.{bytes_eq}
use Rattle.mail_base.specs.Kind.{kind_named}
use Rattle.expando.specs.Formats.{format_of}
use Rattle.rc_lang.specs.declared.rule.Rule.{Rule}
use Rattle.rc_lang.specs.declared.rule.Rule.TheVariants.{Any, FolderKind, SixAscii, Sort, SortAux}
use Rattle.rc_lang.specs.declared.rule.Rule.TheVariants.{RowFormat, StatusFormat}
use Rattle.rc_lang_words.specs.declared.fault.RcFault.{RcFault}
use Rattle.rc_lang_words.specs.declared.fault.RcFault.TheVariants.{BadFormat, BadValue, NoMemory}

-- a byte is ASCII
abbrev pub is_ascii_byte : ℕ → Bool
is_ascii_byte b = nat_lt b 128

-- the text without the front, where it begins with it
abbrev pub behind_front : List ℕ → List ℕ → List ℕ
behind_front front text = if starts_with nat_eq text front then drop (length front) text else text

-- the name of a kind of folders
abbrev pub is_folder_kind : List ℕ → Bool
is_folder_kind text = is_some (kind_named text)

-- the orders of messages; `date` is another name of `date-sent`
abbrev pub is_order : List ℕ → Bool
is_order text =
    bytes_eq text (codes "date") || bytes_eq text (codes "date-sent")
    || bytes_eq text (codes "date-received") || bytes_eq text (codes "from")
    || bytes_eq text (codes "mailbox-order") || bytes_eq text (codes "score")
    || bytes_eq text (codes "size") || bytes_eq text (codes "subject")
    || bytes_eq text (codes "threads") || bytes_eq text (codes "to")

-- the letters of a row of the index and of the status line
abbrev pub row_letters : List ℕ
row_letters = codes "CmZS{[anFLtiscNly"

-- the letters of the status line
abbrev pub status_letters : List ℕ
status_letters = codes "frmMnoudFtVsSP"

-- a format of these letters
abbrev pub is_format : List ℕ → List ℕ → Bool
is_format letters text = is_ok (format_of letters text)

-- a rule takes a text
abbrev pub allows : Rule → List ℕ → Bool
allows Any text = true
allows FolderKind text = is_folder_kind text
allows SixAscii text = length text == 6 && list_all is_ascii_byte text
allows Sort text = is_order (behind_front (codes "reverse-") text)
allows SortAux text = is_order (behind_front (codes "last-") (behind_front (codes "reverse-") text))
allows RowFormat text = is_format row_letters text
allows StatusFormat text = is_format status_letters text

-- what is wrong with a text that a variable does not take
abbrev pub refusal_of : Rule → RcFault
refusal_of RowFormat = BadFormat
refusal_of StatusFormat = BadFormat
refusal_of _ = BadValue

-- For the code alone.

-- a text is taken, or refused for the rule's cause, or memory ran out
abbrev pub IsJudged : Rule → List ℕ → Result Unit RcFault → Type 0
IsJudged rule text (Ok taken) = allows rule text ≡ true
IsJudged rule text (Err fault) =
    ((allows rule text ≡ false) × (fault ≡ refusal_of rule)) ⊎ (fault ≡ NoMemory)
