use Rattle.std.proofs.Common.{FitsSigned, arith, of_z, rules, to_z, w32}
use Rattle.std.proofs.lemmas.Int.{to_z-of_z}
use Rattle.jiff.proofs.SpanFacts.{signed_arith}
use Rattle.patterns_match.specs.Asked.{plain_asked}
use Rattle.patterns_match.specs.Operations.{operation_map}
use Rattle.patterns_match.proofs.AllLemmas.{next_more}
use Rattle.patterns_match.proofs.all.next_turns.Goals as goal

pub loop-place-preserved : goal.loop-place-preserved
loop-place-preserved g c = record {
  long = search rules;
  next =
      next_more c.args.people.now c.loop-place.people (to_z w32 (of_z w32 c.args.offset))
      (g.T.Table.messages c.args.table.now) (operation_map plain_asked c.args.operation.now)
      c.args.found.now c.args.turns.now c.loop-place.next.items c.push.new.self.items
      c.in_ok-next_turn.field-0 c.loop-place.place c.unwrap_or-found.result
      c.loop-place.invariant.same c.in_ok-push.ensures.items (search rules) (search rules)
      c.loop-place.invariant.long c.in_ok-next_turn.ensures.next c.loop-place.invariant.next;
  same = search rules;
}

pub returns-clause-next : goal.returns-clause-next
returns-clause-next g c rest related place low =
    let fits : FitsSigned w32 c.args.offset = omega (arith, signed_arith) in
    let next = simp to_z-of_z at c.loop-place.invariant.next in
    next rest related place (omega (arith, low, c.loop-place-test.false, c.requires))
