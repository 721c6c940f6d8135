use Rattle.std.proofs.Common.{◌≡◌, ◌∙◌, ◌≤◌, refl, length, sym, subst, ap, arith, FitsSigned, w32}
use Rattle.std.proofs.Common.{to_z, of_z, length-take}
use Rattle.std.specs.Prelude.{IfOk}
use Rattle.std.proofs.lemmas.Bool.{false≢true}
use Rattle.std.proofs.lemmas.Int.{to_z-of_z}
use Rattle.jiff.proofs.SpanFacts.{signed_arith}
use Rattle.people.specs.People.{PlainPeople}
use Rattle.patterns_match.specs.Asked.{asked_operations, asked_tree}
use Rattle.patterns_match.specs.Entries.{plain_entry}
use Rattle.patterns_match.specs.Satisfies.{satisfies}
use Rattle.patterns_match.proofs.AskingLemmas.{framed, ordered, steps_if, steps_others}
use Rattle.patterns_match.proofs.AskingLemmas.{steps_unless, free_front, whole_front}
use Rattle.patterns_match.proofs.ListingLemmas.{nobody_related, none_related, one_related}
use Rattle.patterns_match.proofs.ListingLemmas.{parent_alone, parentless}
use Rattle.patterns_match.proofs.asking.+asking.Goals as goal

pub answer-loop-left-init : goal.answer-loop-left-init
answer-loop-left-init g t c =
    let ops = asked_operations c.args.operations.now in
    record {
      value = ordered c.args.people.now (to_z w32 (of_z w32 c.args.offset))
          (g.T.Table.messages c.args.table.now) c.args.place ops c.requires.whole;
      framed = framed ops c.requires.whole;
      free = λ f. f;
      within = omega arith;
      kept = c.requires.kept;
      same = refl;
    }

pub some_related-returns-in_default-clause-value :
    goal.some_related-returns-in_default-clause-value
some_related-returns-in_default-clause-value g t c =
    let listing = g.T.Table.messages c.args.table.now in
    sym (none_related listing c.args.relation c.args.place
    (satisfies c.args.people.now c.args.offset listing (asked_tree c.args.operations.now))
    c.in_default.ensures.value)

pub some_related-returns-in-None-clause-value : goal.some_related-returns-in-None-clause-value
some_related-returns-in-None-clause-value g t c =
    let listing = g.T.Table.messages c.args.table.now in
    let tree = asked_tree c.args.operations.now in
    let test = satisfies c.args.people.now c.args.offset listing tree in
    rw c.in-Parent.is
    (sym (parentless listing c.args.place test (plain_entry c.in-Some.entry) c.in-Some.ensures.value
    (sym c.in-None.is)))

pub some_related-returns-in-Some-parent-clause-value :
    goal.some_related-returns-in-Some-parent-clause-value
some_related-returns-in-Some-parent-clause-value g t c =
    let listing = g.T.Table.messages c.args.table.now in
    let tree = asked_tree c.args.operations.now in
    let test = satisfies c.args.people.now c.args.offset listing tree in
    let fits : FitsSigned w32 c.args.offset = omega (arith, signed_arith) in
    let value = simp to_z-of_z at c.answer.ensures.value in
    let alone = parent_alone listing c.args.place test (plain_entry c.in-Some.entry)
    c.in-Some-parent.parent c.in-Some.ensures.value (sym c.in-Some-parent.is)
    (rw c.in-Some-parent.is at c.in-Some.ensures.within) in
    rw c.in-Parent.is (subst (λ b. IfOk c.answer.result (λ held. held ≡ b)) (sym alone) value)

pub some_related-returns-then-branch-clause-value :
    goal.some_related-returns-then-branch-clause-value
some_related-returns-then-branch-clause-value g t c =
    let listing = g.T.Table.messages c.args.table.now in
    let tree = asked_tree c.args.operations.now in
    let fits : FitsSigned w32 c.args.offset = omega (arith, signed_arith) in
    let value = simp to_z-of_z at c.in_ok-answer.ensures.value in
    sym (one_related listing c.args.relation c.args.place
    (satisfies c.args.people.now c.args.offset listing tree) (plain_entry c.in-Some.entry)
    c.loop-other.other c.in-Some.ensures.value
    (omega (arith, c.loop-other-test.true, c.len-other-end.ensures))
    (sym c.is_related.ensures ∙ c.if-is_related.true)
    (ap (λ (p : PlainPeople). satisfies p c.args.offset listing tree c.loop-other.other)
    (sym c.loop-other.invariant.same) ∙ sym value ∙ c.if-branch.true))

pub some_related-returns-clause-value : goal.some_related-returns-clause-value
some_related-returns-clause-value g t c =
    let listing = g.T.Table.messages c.args.table.now in
    let tree = asked_tree c.args.operations.now in
    let fits : FitsSigned w32 c.args.offset = omega (arith, signed_arith) in
    let none = simp to_z-of_z at c.loop-other.invariant.none in
    sym (nobody_related listing c.args.relation c.args.place
    (satisfies c.args.people.now c.args.offset listing tree)
    (λ k within. none k (omega (arith, c.loop-other-test.false, c.len-other-end.ensures))))

pub step-some_related-requires : goal.step-some_related-requires
step-some_related-requires g t c κs within =
    let framed_here = rw c.in-Others.is at c.requires.framed in
    let size : length c.front-others.result.now ≤ length c.args.rest.now =
    omega (
      arith,
      ap length c.front-others.ensures,
      length-take c.in-Others.count c.args.rest.now,
    ) in (
      omega (arith, size, c.decreases),
      (
        within,
        whole_front c.in-Others.relation c.in-Others.count c.args.rest.now c.front-others.result.now
            c.front-others.ensures framed_here,
      ),
    )

pub step-returns-in_err-found-in-Others-clause-memory :
    goal.step-returns-in_err-found-in-Others-clause-memory
step-returns-in_err-found-in-Others-clause-memory g t c = λ free.
    let free_here = rw c.in-Others.is at free in
    absurd (false≢true (c.in_err-found-in-Others.ensures.memory
    (free_front c.in-Others.relation c.in-Others.count c.args.rest.now c.front-others.result.now
    c.front-others.ensures free_here)))

pub step-returns-in-SkipUnless-clause-steps : goal.step-returns-in-SkipUnless-clause-steps
step-returns-in-SkipUnless-clause-steps g t c =
    rw c.in-SkipUnless.is
    (steps_unless c.args.people.now c.args.offset (g.T.Table.messages c.args.table.now) c.args.place
    c.in-SkipUnless.count c.args.held c.args.rest.now c.skipped.result.now c.skipped.ensures)

pub step-returns-in-SkipIf-clause-steps : goal.step-returns-in-SkipIf-clause-steps
step-returns-in-SkipIf-clause-steps g t c =
    rw c.in-SkipIf.is
    (steps_if c.args.people.now c.args.offset (g.T.Table.messages c.args.table.now) c.args.place
    c.in-SkipIf.count c.args.held c.args.rest.now c.skipped-in-SkipIf.result.now
    c.skipped-in-SkipIf.ensures)

pub step-returns-in_ok-found-in-Others-clause-steps :
    goal.step-returns-in_ok-found-in-Others-clause-steps
step-returns-in_ok-found-in-Others-clause-steps g t c =
    let fits : FitsSigned w32 c.args.offset = omega (arith, signed_arith) in
    let value = simp to_z-of_z at c.in_ok-found-in-Others.ensures.value in
    rw c.in-Others.is
    (steps_others c.args.people.now c.args.offset (g.T.Table.messages c.args.table.now)
    c.args.place c.in-Others.relation c.in-Others.count c.args.held c.in_ok-found-in-Others.found
    c.args.rest.now c.front-others.result.now c.behind.result.now value c.front-others.ensures
    c.behind.ensures)
