use Rattle.std.proofs.Common.{◌≡◌, ◌++◌, drop, map}
use Rattle.mail_base.specs.Series.{plain_texts}
use Rattle.mime_tree.specs.Part.{plain_part}
use Rattle.message_text.specs.Rows.{rows_behind}
use Rattle.message_text.proofs.rows.add_rows.Given as goal

-- the rows so far, and those of the parts that are left
abbrev pub invariant-loop-before : goal.invariant-loop-before
invariant-loop-before l =
    plain_texts l.lines ++ rows_behind l.before (map plain_part (drop l.before l.parts))
    ≡ plain_texts l.initial.lines ++ rows_behind 0 (map plain_part l.parts)
