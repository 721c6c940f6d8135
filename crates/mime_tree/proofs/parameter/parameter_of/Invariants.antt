use Rattle.std.proofs.Common.{◌≡◌, ℕ, ◌≤◌, length}
use Rattle.mime_tree.specs.Parameter.{value_of, parameters, parameters_from}
use Rattle.mime_tree.proofs.parameter.parameter_of.Given as goal

abbrev pub invariant-loop-text : goal.invariant-loop-text
invariant-loop-text l =
    (n : ℕ) × (length l.left ≤ n) ×
    (value_of l.name (parameters_from n l.left) ≡ value_of l.name (parameters l.fn.text))

abbrev pub decreases-loop-text : goal.decreases-loop-text
decreases-loop-text l = length l.left
