-- What decides how listed messages are seen, one mark for each in listing order.
use Rattle.std.specs.Prelude.{ℕ, Bool, false, List, if◌then◌else◌, slice_index_or}
use Rattle.index_listed.specs.declared.mark.Mark.{Mark}

-- what stands at a place where there is no message
abbrev pub no_mark : Mark
no_mark = record { satisfies = false; is_shut = false; is_new = false; is_old = false }

-- the mark of the message at a place
abbrev pub mark_at : List Mark → ℕ → Mark
mark_at marks p = slice_index_or marks p no_mark

-- a message is unread and old, or unread and not old
abbrev pub is_unread : Bool → Mark → Bool
is_unread old m = if old then m.is_old else m.is_new
