use Rattle.std.proofs.Common.{◌≡◌, ◌≤◌, length}
use Rattle.joined_texts.specs.Joined.{behind_first, whole}
use Rattle.joined_texts.proofs.joined.Joined.next_id.Given as goal

-- a bracket is opened in what is left or nowhere
abbrev pub invariant-loop-first : goal.invariant-loop-first
invariant-loop-first l = record {
  same : behind_first 60 (whole l.text) ≡ behind_first 60 (whole l.fn.self);
  within : length (whole l.text) ≤ length (whole l.fn.self);
}

abbrev pub decreases-loop-first : goal.decreases-loop-first
decreases-loop-first l = length (whole l.text)
