use Rattle.std.proofs.Common.{◌≡◌, ◌++◌, length, map}
use Rattle.mutt_run.specs.Screens.{printed_lines}
use Rattle.mutt_run.proofs.printing.put_each.Given as goal

abbrev pub invariant-loop-line : goal.invariant-loop-line
invariant-loop-line l =
    l.out.items ++ printed_lines (map (λ line. line.items) l.left)
    ≡ l.initial.out.items ++ printed_lines (map (λ line. line.items) l.lines)

abbrev pub decreases-loop-line : goal.decreases-loop-line
decreases-loop-line l = length l.left
