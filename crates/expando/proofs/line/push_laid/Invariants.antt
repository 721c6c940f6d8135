use Rattle.std.proofs.Common.{◌≡◌, ◌++◌, length}
use Rattle.std.specs.Str.{encode_utf8_all}
use Rattle.expando.specs.Lines.{laid}
use Rattle.expando.proofs.line.push_laid.Given as goal

-- what was added, and what the cells that are left add
abbrev pub invariant-loop-rest : goal.invariant-loop-rest
invariant-loop-rest l =
    l.line.items ++ encode_utf8_all (laid l.gap l.left l.rest)
    ≡ l.initial.line.items ++ encode_utf8_all (laid l.initial.gap l.cols l.cells)

abbrev pub decreases-loop-rest : goal.decreases-loop-rest
decreases-loop-rest l = length l.rest
