use Rattle.std.proofs.Common.{◌<◌, length, drop, subst, sym}
use Rattle.threads.specs.Walk.{Each, KeepsSeen, LeadsTo}
use Rattle.threads.proofs.CloseLemmas.{cycle_closed, drop_within, seen-ended, slice_get-within}
use Rattle.threads.proofs.WalkLemmas.{seen_within}
use Rattle.threads.proofs.walk.close.Goals as goal

pub returns-in-OnWay : goal.returns-in-OnWay
returns-in-OnWay c = record {
  closed = λ links order count walk leads.
      cycle_closed _ _ order links c.args.marks.now c.args.way.now.items c.in-OnWay.number
      c.in-Some.place
      c.close_cycle.result _ count walk (subst (LeadsTo links _) c.in-Some.is leads)
      (sym c.in-OnWay.ensures)
      c.close_cycle.ensures;
  keeps = subst (λ m. KeepsSeen c.args.marks.now m) (sym c.close_cycle.ensures.marks)
      (seen-ended c.close_cycle.result c.args.marks.now
      (drop c.in-OnWay.number c.args.way.now.items)
      (drop_within (λ p. p < length c.args.marks.now) c.in-OnWay.number c.args.way.now.items
      (subst (λ n. Each (λ p. p < n) c.args.way.now.items)
      (sym c.requires.long) c.requires.within)));
}

pub close_cycle-requires-clause-number : goal.close_cycle-requires-clause-number
close_cycle-requires-clause-number c =
    slice_get-within c.args.way.now.items c.in-OnWay.number c.in-Some.place
    (c.requires.only c.in-Some.place c.in-OnWay.number (sym c.in-OnWay.ensures))

pub mark_of-requires : goal.mark_of-requires
mark_of-requires c = seen_within c.args.marks.now c.in-Some.place
    (c.requires.met c.in-Some.place c.in-Some.is)
