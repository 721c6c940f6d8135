use Rattle.std.proofs.Common.{inr, refl}
use Rattle.folder_tails.specs.Sides.{home_of}
use Rattle.folder_tails.proofs.Causes.{stat_around}
use Rattle.folder_tails.proofs.Leads as L
use Rattle.folder_tails.proofs.Locking.{had_tail}
use Rattle.folder_tails.proofs.Traces.{meets}
use Rattle.folder_tails.proofs.finish.has_tail.Goals as goal

pub returns-in-Ok-clause-stays : goal.returns-in-Ok-clause-stays
returns-in-Ok-clause-stays g c ours held =
    L.looked (home_of c.args.sides.now) ours c.stat_tail.ensures.step.called refl tt
    (L.entered (home_of c.args.sides.now) ours held)

pub returns-in-Err-Missing-clause-stays : goal.returns-in-Err-Missing-clause-stays
returns-in-Err-Missing-clause-stays g c ours held =
    L.looked (home_of c.args.sides.now) ours c.stat_tail.ensures.step.called refl tt
    (L.entered (home_of c.args.sides.now) ours held)

pub returns-in-Err-clause-stays : goal.returns-in-Err-clause-stays
returns-in-Err-clause-stays g c ours held =
    L.looked (home_of c.args.sides.now) ours c.stat_tail.ensures.step.called refl tt
    (L.entered (home_of c.args.sides.now) ours held)

pub returns-in-Err-Missing-clause-none : goal.returns-in-Err-Missing-clause-none
returns-in-Err-Missing-clause-none g c is ours held =
    L.tail_unseen (home_of c.args.sides.now) ours held c.in-Err-Missing.field-0
    c.in-Err-Missing.field-0-is c.in-Err-Missing.ensures.step.called

pub returns-in-Ok-clause-looked : goal.returns-in-Ok-clause-looked
returns-in-Ok-clause-looked g c = (_, c.in-Ok.ensures.step.called)

pub returns-in-Err-Missing-clause-looked : goal.returns-in-Err-Missing-clause-looked
returns-in-Err-Missing-clause-looked g c = (_, c.in-Err-Missing.ensures.step.called)

pub returns-in-Err-clause-looked : goal.returns-in-Err-clause-looked
returns-in-Err-clause-looked g c = (_, c.in-Err.ensures.step.called)

pub returns-in-Ok-clause-tells : goal.returns-in-Ok-clause-tells
returns-in-Ok-clause-tells g c = record {
  missed = λ is. absurd (cc);
  met = λ is. meets (home_of c.args.sides.now) c.in-Ok.ensures.step.called;
  had = λ is. had_tail (home_of c.args.sides.now) c.in-Ok.ensures.step.called;
  why = tt;
}

pub returns-in-Err-Missing-clause-tells : goal.returns-in-Err-Missing-clause-tells
returns-in-Err-Missing-clause-tells g c = record {
  missed = λ is. L.misses_tail (home_of c.args.sides.now) c.in-Err-Missing.field-0
      c.in-Err-Missing.field-0-is c.in-Err-Missing.ensures.step.called;
  met = λ is. absurd (cc);
  had = λ is. absurd (cc);
  why = tt;
}

pub returns-in-Err-clause-tells : goal.returns-in-Err-clause-tells
returns-in-Err-clause-tells g c = record {
  missed = tt;
  met = tt;
  had = tt;
  why = stat_around (home_of c.args.sides.now) (inr refl) c.in-Err.ensures.step.called;
}
