use Rattle.std.proofs.Common.{◌≡◌, ◌++◌, length, map}
use Rattle.patterns_match.specs.Asked.{asked_operations}
use Rattle.patterns.specs.Exprs.{asked}
use Rattle.patterns.specs.Causes.{Halfway}
use Rattle.patterns_match.specs.Operations.{operation_map}
use Rattle.patterns.specs.Needs.{plain_operations}
use Rattle.patterns.proofs.pattern_text.read_exprs.Given as goal

abbrev pub invariant-loop-operation : goal.invariant-loop-operation
invariant-loop-operation g l = record {
  value : asked_operations l.asked.items
      ++ map (operation_map asked) (plain_operations l.left)
      ≡ map (operation_map asked) (plain_operations l.operations);
  halfway : Halfway (plain_operations l.operations) (plain_operations l.left)
      l.fn.verdicts.kept l.verdicts.kept
      ((goal.Builder-dyn g (l.fn.verdicts.builder.vtable, l.fn.verdicts.builder.value)).refused
      l.fn.verdicts.builder.value)
      ((goal.Builder-dyn g (l.verdicts.builder.vtable, l.verdicts.builder.value)).refused
      l.verdicts.builder.value);
}

abbrev pub decreases-loop-operation : goal.decreases-loop-operation
decreases-loop-operation g l = length l.left
