use Rattle.std.proofs.Common.{◌≡◌, ◌++◌, length, drop, map}
use Rattle.std.specs.Str.{chars}
use Rattle.expando.specs.Columns.{kept, shown_text}
use Rattle.expando.specs.declared.cell.Cell.TheVariants.{Shown}
use Rattle.expando.proofs.ColumnsLemmas.{kept_from}
use Rattle.expando.proofs.columns.push_kept.Given as goal

-- what was added, and what the characters that are left add
abbrev pub invariant-loop-c : goal.invariant-loop-c
invariant-loop-c l =
    l.cells.items ++ map Shown (kept_from l.left (drop (length l.yielded) (chars l.text)))
    ≡ l.initial.cells.items ++ map Shown (kept l.limit (shown_text l.text))
