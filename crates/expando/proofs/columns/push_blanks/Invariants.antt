use Rattle.std.proofs.Common.{◌≡◌, ◌++◌, map}
use Rattle.expando.specs.Columns.{blanks}
use Rattle.expando.specs.declared.cell.Cell.TheVariants.{Shown}
use Rattle.expando.proofs.columns.push_blanks.Given as goal

abbrev pub invariant-loop-i : goal.invariant-loop-i
invariant-loop-i l = l.cells.items ≡ l.initial.cells.items ++ map Shown (blanks l._i)
