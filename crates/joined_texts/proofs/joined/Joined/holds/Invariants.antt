use Rattle.std.proofs.Common.{◌≡◌, length}
use Rattle.joined_texts.specs.Joined.{holds, joined}
use Rattle.joined_texts.proofs.joined.Joined.holds.Given as goal

-- it stands in what is left or nowhere
abbrev pub invariant-loop-text : goal.invariant-loop-text
invariant-loop-text l =
    holds l.case (joined l.text) l.literal ≡ holds l.case (joined l.fn.self) l.literal

abbrev pub decreases-loop-text : goal.decreases-loop-text
decreases-loop-text l = length (joined l.text)
