use Rattle.std.proofs.Common.{◌≡◌, length}
use Rattle.joined_texts.specs.Joined.{behind_first, whole}
use Rattle.joined_texts.proofs.joined.Joined.behind_first.Given as goal

-- the byte stands in what is left or nowhere
abbrev pub invariant-loop-first : goal.invariant-loop-first
invariant-loop-first l =
    behind_first l.byte (whole l.text) ≡ behind_first l.byte (whole l.fn.self)

abbrev pub decreases-loop-first : goal.decreases-loop-first
decreases-loop-first l = length (whole l.text)
