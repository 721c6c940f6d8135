use Rattle.std.proofs.Common.{◌<◌, length, reverse, subst, refl, arith}
use Rattle.std.proofs.lemmas.List.{nil_from_length}
use Rattle.threads.specs.Walk.{CanEnd, Each, IsWalk}
use Rattle.threads.specs.declared.walk.Mark.TheVariants.{Ended}
use Rattle.threads.proofs.WalkLemmas.{reverse_push, seen-mark, settled, within-set}
use Rattle.threads.proofs.walk.settle.Goals as goal

pub loop-place-preserved : goal.loop-place-preserved
loop-place-preserved c =
    let marks = c.loop-place.marks in
    let place = c.in-Some.place in
    let way = c.pop.new.self.items in
    let within = subst (Each (λ p. p < length marks)) (reverse_push way place)
    (subst (λ w. Each (λ p. p < length marks) (reverse w)) c.in-Some.ensures.items
    c.loop-place.invariant.within) in
    record {
      within = within-set marks place (Ended c.args.root) (reverse way) within.1;
      walk = λ is_before links closed.
          let before = c.loop-place.invariant.walk is_before links closed in
          settled is_before links marks way place c.args.root
          (subst (IsWalk is_before links marks) c.in-Some.ensures.items before.walk)
          (subst (λ w. CanEnd links marks
          (reverse w) c.args.root) c.in-Some.ensures.items before.can_end);
      keeps = λ p s. seen-mark marks place (Ended c.args.root) within.0 refl p
          (c.loop-place.invariant.keeps p s);
    }

pub returns-clause-walk : goal.returns-clause-walk
returns-clause-walk c = λ is_before links closed.
    subst (IsWalk is_before links c.loop-place.marks)
    (nil_from_length c.loop-place.way.items (omega (arith, c.in_default.ensures.cases)))
    (c.loop-place.invariant.walk is_before links closed).walk
