use Rattle.std.proofs.Common.{◌≡◌, ◌++◌, length, map}
use Rattle.patterns_match.specs.declared.all.Turn.{Turn}
use Rattle.patterns_match.proofs.all.held_of.Given as goal

-- the answers so far, and those of the turns that are left
abbrev pub invariant-loop-left : goal.invariant-loop-left
invariant-loop-left l =
    l.held.items ++ map (λ (turn : Turn). turn.held) l.left
    ≡ map (λ (turn : Turn). turn.held) l.turns

abbrev pub decreases-loop-left : goal.decreases-loop-left
decreases-loop-left l = length l.left
