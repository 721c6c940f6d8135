use Rattle.std.proofs.Common.{◌∙◌, ◌++◌, [], ◌∷◌, ap, sym}
use Rattle.patterns.proofs.DraftLemmas.{related, vec_length}
use Rattle.patterns_match.specs.Operations.{code}
use Rattle.patterns_match.specs.Trees.{Related}
use Rattle.patterns_match.specs.declared.operation.Operation.TheVariants as operation
use Rattle.patterns.proofs.draft.Draft.relate.Goals as goal

pub invariant_of-result : goal.invariant_of-result
invariant_of-result c =
    let kind = c.args.relation in record {
      code = (related (Related kind) (operation.Others kind c.len.result) (operation.Related kind)
          c.args.self.operations.items c.in_ok-operations.operations.items
          (rw c.new.ensures.items at c.in_ok-operations.ensures) c.args.self.code
          (λ b long. ap (λ n. operation.Others kind n ∷ [] ++ code b ++ operation.Related kind ∷ [])
          (long ∙ sym (c.len.ensures ∙ vec_length c.args.self.operations)))).is_code;
    }

pub returns : goal.returns
returns c =
    let kind = c.args.relation in
    (related (Related kind) (operation.Others kind c.len.result) (operation.Related kind)
    c.args.self.operations.items c.in_ok-operations.operations.items
    (rw c.new.ensures.items at c.in_ok-operations.ensures) c.args.self.code
    (λ b long. ap (λ n. operation.Others kind n ∷ [] ++ code b ++ operation.Related kind ∷ [])
    (long ∙ sym (c.len.ensures ∙ vec_length c.args.self.operations)))).tree_is
