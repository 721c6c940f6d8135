use Rattle.std.proofs.Common.{refl}
use Rattle.patterns.proofs.DraftLemmas.{with_last}
use Rattle.patterns_match.specs.Trees.{Not}
use Rattle.patterns_match.specs.declared.operation.Operation.TheVariants as operation
use Rattle.patterns.proofs.draft.Draft.negate.Goals as goal

pub invariant_of-result : goal.invariant_of-result
invariant_of-result c = record {
  code = (with_last Not operation.Negate c.args.self.operations.items
      c.in_ok-operations.operations.items
      c.in_ok-operations.ensures c.args.self.code (λ _. refl)).is_code;
}

pub returns : goal.returns
returns c =
    (with_last Not operation.Negate c.args.self.operations.items c.in_ok-operations.operations.items
    c.in_ok-operations.ensures c.args.self.code (λ _. refl)).tree_is
