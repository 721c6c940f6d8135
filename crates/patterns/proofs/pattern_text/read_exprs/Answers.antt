use Rattle.std.proofs.Common.{false, ◌≡◌, ◌∙◌, ◌++◌, map, sym, ap}
use Rattle.std.proofs.lemmas.List.{nil_from_length}
use Rattle.std.proofs.lemmas.Result.{err_from_is_err_and}
use Rattle.patterns_match.specs.Asked.{asked_operations, plain_asked}
use Rattle.patterns.specs.Exprs.{asked}
use Rattle.patterns.specs.Needs.{plain_need}
use Rattle.patterns_match.specs.Operations.{operation_map}
use Rattle.patterns.specs.Needs.{plain_operations}
use Rattle.patterns_match.specs.Trees.{Searches}
use Rattle.patterns_match.specs.declared.operation.Operation.TheVariants as operation
use Rattle.patterns.proofs.CauseLemmas.{asked_more, expr_asked, halfway_on, halfway_skip}
use Rattle.patterns.proofs.CauseLemmas.{halfway_end, halfway_start, halfway_stop, no_memory}
use Rattle.patterns.proofs.pattern_text.read_exprs.Goals as goal
use Rattle.patterns.proofs.pattern_text.read_exprs.Goals.{}
use Rattle.patterns.proofs.pattern_text.read_exprs.Goals.{in-Some-expr_of+in_ok-expr-in-Some-expr_of}
use Rattle.patterns.proofs.pattern_text.read_exprs.Goals.{in-None+in_ok-next-in-None}

pub loop-operation-init : goal.loop-operation-init
loop-operation-init g c = record {
  value = ap (λ l. asked_operations l
      ++ map (operation_map asked) (plain_operations c.args.operations.now))
      c.new-asked.ensures.items;
  halfway = halfway_start _ _ _;
}

pub returns-clause-judges : goal.returns-clause-judges
returns-clause-judges g c =
    let left = ap plain_operations
    (nil_from_length c.loop-operation.left.now c.in_default.ensures.cases) in
    halfway_end (rw left at c.loop-operation.invariant.halfway)

pub returns-in_err-asked-clause-judges : goal.returns-in_err-asked-clause-judges
returns-in_err-asked-clause-judges g c =
    let p = err_from_is_err_and c.from_residual-in_err-asked.result
    c.from_residual-in_err-asked.ensures.1 in
    let left = ap plain_operations c.in-Some.ensures.cases.0 in
    let so = rw left at c.loop-operation.invariant.halfway in
    rw (p.1, p.2)
    (elim c.match-expr_of.branch [
      | in-Some-expr_of+in_ok-expr-in-Some-expr_of w ↦
          rw w.verdicts-is
          (no_memory (halfway_on so (sym w.in-Some-expr_of.ensures)
          w.in_ok-expr-in-Some-expr_of.ensures.reads))
      | in-None+in_ok-next-in-None w ↦ rw w.verdicts-is (no_memory so)
    ])

pub returns-in_err-next-in-None-clause-judges : goal.returns-in_err-next-in-None-clause-judges
returns-in_err-next-in-None-clause-judges g c =
    let p = err_from_is_err_and c.from_residual-in_err-next-in-None.result
    c.from_residual-in_err-next-in-None.ensures.1 in
    rw (p.1, p.2) (no_memory c.loop-operation.invariant.halfway)

pub returns-in_err-expr-in-Some-expr_of-clause-judges :
    goal.returns-in_err-expr-in-Some-expr_of-clause-judges
returns-in_err-expr-in-Some-expr_of-clause-judges g c =
    let p = err_from_is_err_and c.from_residual.result
    c.from_residual.ensures.1 in
    let left = ap plain_operations c.in-Some.ensures.cases.0 in
    let so = rw left at c.loop-operation.invariant.halfway in
    rw (p.1, p.2)
    (halfway_stop so (sym c.in-Some-expr_of.ensures) c.in_err-expr-in-Some-expr_of.field-0.0
    c.in_err-expr-in-Some-expr_of.ensures.reads)

pub loop-operation-preserved : goal.loop-operation-preserved
loop-operation-preserved g c =
    let left = ap plain_operations c.in-Some.ensures.cases.0 in
    let so = rw left at c.loop-operation.invariant.halfway in
    let before = rw left at c.loop-operation.invariant.value in
    let o = operation_map plain_need c.in-Some.operation.now in
    let same : operation_map plain_asked c.match-expr_of.next ≡ operation_map asked o =
    elim c.match-expr_of.branch [
      | in-Some-expr_of+in_ok-expr-in-Some-expr_of w ↦
          ap (operation_map plain_asked) w.next-is
          ∙ ap (λ t. operation.Ask (Searches w.in-Some-expr_of.field false t))
          w.in_ok-expr-in-Some-expr_of.ensures.value
          ∙ sym (expr_asked o _ _ (sym w.in-Some-expr_of.ensures))
      | in-None+in_ok-next-in-None w ↦
          ap (operation_map plain_asked) w.next-is ∙ w.in_ok-next-in-None.ensures
    ] in
    record {
      value = asked_more c.loop-operation.asked.items c.in_ok-asked.asked.items
          c.match-expr_of.next o (plain_operations c.in-Some.rest.now) _ c.in_ok-asked.ensures same
          before;
      halfway = elim c.match-expr_of.branch [
        | in-Some-expr_of+in_ok-expr-in-Some-expr_of w ↦
            rw w.verdicts-is (halfway_on so (sym w.in-Some-expr_of.ensures)
            w.in_ok-expr-in-Some-expr_of.ensures.reads)
        | in-None+in_ok-next-in-None w ↦
            rw w.verdicts-is (halfway_skip so (sym w.in-None.ensures))
      ];
    }
