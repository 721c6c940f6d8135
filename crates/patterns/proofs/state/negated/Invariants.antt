use Rattle.std.proofs.Common.{◌≡◌}
use Rattle.patterns.specs.States.{tree_in}
use Rattle.patterns_match.specs.Trees.{negated}
use Rattle.patterns.proofs.state.negated.Given as goal

abbrev pub invariant-loop : goal.invariant-loop
invariant-loop l = tree_in l.draft ≡ negated l.counter (tree_in l.fn.term)
