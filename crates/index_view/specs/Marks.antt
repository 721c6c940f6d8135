-- What decides how the listed messages are seen.
use Rattle.std.specs.Prelude.{ℕ, Bool, false, List, length, map, slice_index_or}
use Rattle.std.specs.List.{range_with_len}
use Rattle.mail_base.specs.Flags as flags
use Rattle.patterns_match.specs.declared.row.Row.{Row}
use Rattle.index_listed.specs.declared.mark.Mark.{Mark}
use Rattle.index_view.specs.Tables.{row_at}

-- the mark of the message at a place, by the rows and by which messages satisfy the limit
abbrev pub mark_of : List Row → List Bool → ℕ → Mark
mark_of rows within p = record {
  satisfies = slice_index_or within p false;
  is_shut = (row_at rows p).collapsed;
  is_new = flags.is_new (row_at rows p).flags;
  is_old = flags.is_old (row_at rows p).flags;
}

-- the marks of the messages
abbrev pub marks_of : List Row → List Bool → List Mark
marks_of rows within = map (mark_of rows within) (range_with_len 0 (length rows))
