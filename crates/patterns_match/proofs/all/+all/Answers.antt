use Rattle.std.proofs.Common.{◌≡◌, ◌≤◌, ◌∙◌, FitsSigned, ap, arith, length, length-take, map, of_z}
use Rattle.std.proofs.Common.{refl, rules, sym, to_z, w32}
use Rattle.std.proofs.lemmas.Int.{to_z-of_z}
use Rattle.std.proofs.lemmas.List.FromFn.{length-map-range_with_len}
use Rattle.jiff.proofs.SpanFacts.{signed_arith}
use Rattle.patterns_match.specs.Asked.{asked_operations, asked_tree, plain_asked}
use Rattle.patterns_match.specs.Operations.{operation_map, tree_of}
use Rattle.patterns_match.specs.Satisfies.{satisfies}
use Rattle.patterns_match.specs.Trees.{Tells}
use Rattle.patterns_match.specs.declared.all.Turn.{Turn}
use Rattle.patterns_match.specs.declared.letter.Mark.TheVariants.{Childless}
use Rattle.patterns_match.specs.declared.operation.Operation.TheVariants.{Ask}
use Rattle.patterns_match.proofs.AllLemmas.{found_children, found_others, lead_first, lead_last}
use Rattle.patterns_match.proofs.AskingLemmas.{asked_front, framed, whole_front}
use Rattle.patterns_match.proofs.all.+all.Goals as goal

pub all_answers-loop-left-init : goal.all_answers-loop-left-init
all_answers-loop-left-init g t c =
    let ops = asked_operations c.args.operations.now in
    record {
      lead = lead_first c.args.people.now (to_z w32 (of_z w32 c.args.offset))
          (g.T.Table.messages c.args.table.now) ops c.len.result c.in_ok-turns.turns.items
          c.len.ensures (c.in_ok-turns.ensures.items_if_clones_equal (λ y same. same)) c.requires;
      framed = framed ops c.requires;
      within = omega arith;
      same = refl;
    }

pub all_answers-returns-clause-value : goal.all_answers-returns-clause-value
all_answers-returns-clause-value g t c =
    let fits : FitsSigned w32 c.args.offset = omega (arith, signed_arith) in
    let lead = simp to_z-of_z at c.loop-left.invariant.lead in
    lead_last c.args.people.now c.args.offset (g.T.Table.messages c.args.table.now)
    (asked_tree c.args.operations.now) c.loop-left.turns.items c.loop-left.left.now
    c.in_ok-answers.answers.items (omega (arith, c.in_default.len_below))
    (c.in_ok-answers.ensures ∙ ap (map (λ (turn : Turn). turn.held)) c.deref-2.ensures.value)
    lead

pub all_found-all_answers-requires : goal.all_found-all_answers-requires
all_found-all_answers-requires g t c κs within =
    let framed_here = rw c.in-Others.is at c.requires.framed in
    let size : length c.front.result.now ≤ length c.args.rest.now =
    omega (arith, ap length c.front.ensures, length-take c.in-Others.count c.args.rest.now) in (
      omega (arith, size, c.decreases),
      (
        within,
        whole_front c.in-Others.relation c.in-Others.count c.args.rest.now c.front.result.now
            c.front.ensures framed_here,
      ),
    )

pub all_found-all_related-requires : goal.all_found-all_related-requires
all_found-all_related-requires g t c =
    let fits : FitsSigned w32 c.args.offset = omega (arith, signed_arith) in
    let value = simp to_z-of_z at c.in_ok-answers-in-Others.ensures.value in
    ap length (c.deref.ensures.value ∙ value)
    ∙ length-map-range_with_len (satisfies c.args.people.now c.args.offset
    (g.T.Table.messages c.args.table.now) (asked_tree c.front.result.now)) 0
    (length (g.T.Table.messages c.args.table.now))

pub all_found-returns-in_ok-found-in-Others-clause-found :
    goal.all_found-returns-in_ok-found-in-Others-clause-found
all_found-returns-in_ok-found-in-Others-clause-found g t c =
    let fits : FitsSigned w32 c.args.offset = omega (arith, signed_arith) in
    let answers = c.in_ok-answers-in-Others in
    let value = simp to_z-of_z at answers.ensures.value in
    rw c.in-Others.is
    (found_others c.args.people.now c.args.offset (g.T.Table.messages c.args.table.now)
    c.in-Others.relation c.in-Others.count (asked_operations c.args.rest.now)
    (asked_tree c.front.result.now) c.args.turns.now answers.answers.items c.deref.result.now
    c.in_ok-found-in-Others.found.items
    (ap tree_of (asked_front c.in-Others.count c.args.rest.now
    ∙ ap asked_operations (sym c.front.ensures)))
    c.deref.ensures.value value c.in_ok-found-in-Others.ensures)

pub all_found-returns-in_ok-found-in-Ask-Tells-Childless-clause-found :
    goal.all_found-returns-in_ok-found-in-Ask-Tells-Childless-clause-found
all_found-returns-in_ok-found-in-Ask-Tells-Childless-clause-found g t c =
    let is : operation_map plain_asked c.args.operation.now ≡ Ask (Tells Childless) =
    search rules in
    let answers = c.in_ok-answers-in-Ask-Tells-Childless in
    rw is
    (found_children c.args.people.now c.args.offset (g.T.Table.messages c.args.table.now)
    (asked_operations c.args.rest.now) c.len.result c.args.turns.now answers.answers.items
    c.deref-in-Ask-Tells-Childless.result.now c.in_ok-found-in-Ask-Tells-Childless.found.items
    c.len.ensures (answers.ensures.items_if_clones_equal (λ y same. same))
    c.deref-in-Ask-Tells-Childless.ensures.value c.in_ok-found-in-Ask-Tells-Childless.ensures)
