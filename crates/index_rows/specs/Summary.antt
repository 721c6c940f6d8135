-- The texts of the letters of the status line (Mutt's manual, "status_format").
use Rattle.std.specs.Prelude.{◌*◌, ◌/◌, ◌==◌, ◌++◌, ℕ, Bool, List, [], Option, Some, None}
use Rattle.std.specs.Prelude.{codes, nat_le, option_map, unwrap_or, if◌then◌else◌}
use Rattle.std.specs.Fmt.{decimal}
use Rattle.std.specs.Str.{byte}
use Rattle.mail_base.specs.Shown.{utf8_text}
use Rattle.expando.specs.Drawing.{line}
use Rattle.expando.specs.Formats.{PlainPiece}
use Rattle.index_rows.specs.declared.summary.Summary.{Summary}

-- a listing as the status line shows it, and the settings that count
pub record PlainSummary : Type 0 where
  pub path : List ℕ
  pub read_only : Bool
  pub changed : Bool
  pub count : ℕ
  pub new : ℕ
  pub old : ℕ
  pub unread : ℕ
  pub deleted : ℕ
  pub flagged : ℕ
  pub tagged : ℕ
  pub limit : Option (List ℕ)
  pub visible : ℕ
  pub before : ℕ
  pub last : ℕ
  pub sort : List ℕ
  pub sort_aux : List ℕ

-- a summary without the places of its texts
abbrev pub plain_summary : Summary → PlainSummary
plain_summary s = record {
  path = s.path.now;
  read_only = s.read_only;
  changed = s.changed;
  count = s.count;
  new = s.new;
  old = s.old;
  unread = s.unread;
  deleted = s.deleted;
  flagged = s.flagged;
  tagged = s.tagged;
  limit = option_map (λ text. text.now) s.limit;
  visible = s.visible;
  before = s.before;
  last = s.last;
  sort = s.sort.now;
  sort_aux = s.sort_aux.now;
}

-- read only, changed, or as it is stored
abbrev pub state_text : PlainSummary → List ℕ
state_text s = if s.read_only then codes "%" else (if s.changed then codes "*" else codes "-")

-- a count where there is a limit
abbrev pub limited : Option (List ℕ) → ℕ → List ℕ
limited None count = []
limited (Some limit) count = decimal count

-- how many messages are visible, where there is a limit
abbrev pub visible_text : PlainSummary → List ℕ
visible_text s = limited s.limit s.visible

-- the text of the limit, or nothing
abbrev pub limit_text : PlainSummary → List ℕ
limit_text s = utf8_text (unwrap_or s.limit [])

-- where the page stands among the visible messages
abbrev pub page_text : PlainSummary → List ℕ
page_text s =
    if nat_le s.visible s.last then (if s.before == 0 then codes "all" else codes "end")
    else (if s.before == 0 then codes "top" else decimal (100 * s.last / s.visible) ++ codes "%")

-- the text of a letter
unfoldable pub summary_text : PlainSummary → ℕ → List ℕ
summary_text s letter =
    if letter == byte "f" then utf8_text s.path
    else if letter == byte "r" then state_text s
    else if letter == byte "m" then decimal s.count
    else if letter == byte "M" then visible_text s
    else if letter == byte "n" then decimal s.new
    else if letter == byte "o" then decimal s.old
    else if letter == byte "u" then decimal s.unread
    else if letter == byte "d" then decimal s.deleted
    else if letter == byte "F" then decimal s.flagged
    else if letter == byte "t" then decimal s.tagged
    else if letter == byte "V" then limit_text s
    else if letter == byte "s" then utf8_text s.sort
    else if letter == byte "S" then utf8_text s.sort_aux
    else if letter == byte "P" then page_text s
    else []

-- the status line by a format, in so many columns
abbrev pub status_line : ℕ → PlainSummary → List PlainPiece → List ℕ
status_line cols s format = line cols (λ letter _. summary_text s letter) format
