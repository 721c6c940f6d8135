use Rattle.std.proofs.Common.{◌≡◌, length}
use Rattle.session_index.specs.Hiding.{is_part}
use Rattle.session_index.proofs.hiding.is_part.Given as goal

-- what is left tells the same
abbrev pub invariant-loop-wanted : goal.invariant-loop-wanted
invariant-loop-wanted l = is_part l.wanted l.left ≡ is_part l.ids l.all

abbrev pub decreases-loop-wanted : goal.decreases-loop-wanted
decreases-loop-wanted l = length l.left
