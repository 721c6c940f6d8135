use Rattle.std.proofs.Common.{◌≡◌, length}
use Rattle.joined_texts.specs.Joined.{begins, joined}
use Rattle.joined_texts.proofs.joined.Joined.begins.Given as goal

-- what is left stands at the front of what is left
abbrev pub invariant-loop-left : goal.invariant-loop-left
invariant-loop-left l =
    begins l.case (joined l.text) l.left ≡ begins l.case (joined l.fn.self) l.literal

abbrev pub decreases-loop-left : goal.decreases-loop-left
decreases-loop-left l = length l.left
