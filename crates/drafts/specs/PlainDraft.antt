-- Drafts without the rooms of their lists, and which of them may be.
use Rattle.std.specs.Prelude.{◌&&◌, ℕ, Bool, true, nat_lt, List, length, Option, Some, None}
use Rattle.std.specs.List.{list_all}
use Rattle.std.specs.Str.{is_utf8}
use Rattle.mail_base.specs.Written.{is_line_byte}

-- a message that is being written
pub record PlainDraft : Type 0 where
  pub to : List ℕ
  pub subject : List ℕ
  pub in_reply_to : Option (List ℕ)
  pub references : List (List ℕ)
  pub body : List (List ℕ)

-- text on one line: UTF-8 without LF and CR
abbrev pub is_text : List ℕ → Bool
is_text s = is_utf8 s && list_all is_line_byte s

-- neither a blank nor a control character of ASCII
abbrev pub is_id_byte : ℕ → Bool
is_id_byte b = nat_lt 32 b

-- an id: such bytes, and at least one
abbrev pub is_id : List ℕ → Bool
is_id s = nat_lt 0 (length s) && list_all is_id_byte s

-- an id, where there is one
abbrev pub is_id_if_any : Option (List ℕ) → Bool
is_id_if_any None = true
is_id_if_any (Some id) = is_id id

-- the draft may be: each text stands on one line, and each id is one
abbrev pub can_be : PlainDraft → Bool
can_be d =
    is_text d.to && is_text d.subject && is_id_if_any d.in_reply_to && list_all is_id d.references
    && list_all is_text d.body
