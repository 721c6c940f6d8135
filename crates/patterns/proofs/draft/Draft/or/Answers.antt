use Rattle.std.proofs.Common.{◌∙◌, ◌++◌, [], ◌∷◌, ap, sym}
use Rattle.patterns.proofs.DraftLemmas.{joined, vec_length}
use Rattle.patterns_match.specs.Operations.{code}
use Rattle.patterns_match.specs.Trees.{Or}
use Rattle.patterns_match.specs.declared.operation.Operation.TheVariants as operation
use Rattle.patterns.proofs.draft.Draft.or.Goals as goal

pub invariant_of-result : goal.invariant_of-result
invariant_of-result c = record {
  code = (joined Or (operation.SkipIf c.len.result) operation.Either c.args.self.operations.items
      c.args.other.operations.items c.in_ok-operations.operations.items c.in_ok-operations.ensures
      c.args.self.code c.args.other.code
      (λ a b long. ap (λ n. code a ++ operation.SkipIf n ∷ [] ++ code b ++ operation.Either ∷ [])
      (long ∙ sym (c.len.ensures ∙ vec_length c.args.other.operations)))).is_code;
}

pub returns : goal.returns
returns c =
    (joined Or (operation.SkipIf c.len.result) operation.Either c.args.self.operations.items
    c.args.other.operations.items c.in_ok-operations.operations.items c.in_ok-operations.ensures
    c.args.self.code c.args.other.code
    (λ a b long. ap (λ n. code a ++ operation.SkipIf n ∷ [] ++ code b ++ operation.Either ∷ [])
    (long ∙ sym (c.len.ensures ∙ vec_length c.args.other.operations)))).tree_is
