use Rattle.folder_tails.specs.Sides.{home_of}
use Rattle.folder_tails.proofs.Finishes as F
use Rattle.folder_tails.proofs.Locking.{had_nothing}
use Rattle.folder_tails.proofs.Reasons as R
use Rattle.folder_tails.proofs.recover.leave_foreign.Goals as goal

pub returns-in-Ok-true-clause-part : goal.returns-in-Ok-true-clause-part
returns-in-Ok-true-clause-part g c owner =
    F.left_foreign (home_of c.args.sides.now) owner c.args.held c.in-Ok-true.field-0 _ _
    c.requires.held c.in-Ok-true.ensures.stays c.in-Ok-true.ensures.looks
    (c.in-Ok-true.ensures.tells.met c.in-Ok-true.field-0-test)
    c.in-Ok-true.ensures.counts

pub returns-in-Ok-false-clause-part : goal.returns-in-Ok-false-clause-part
returns-in-Ok-false-clause-part g c owner =
    F.left_idle (home_of c.args.sides.now) owner c.args.held c.in-Ok-false.field-0 _ _
    c.requires.held (c.in-Ok-false.ensures.none c.in-Ok-false.field-0-test)
    c.in-Ok-false.ensures.looks c.in-Ok-false.ensures.counts

pub returns-in-Err-clause-part : goal.returns-in-Err-clause-part
returns-in-Err-clause-part g c owner =
    F.look_refused (home_of c.args.sides.now) owner c.args.held c.args.held _ c.scan_error.result _
    _
    c.scan_error.ensures (λ ours. c.in-Err.ensures.stays ours c.args.held) c.in-Err.ensures.looks
    c.in-Err.ensures.counts

pub returns-in-Ok-true-clause-why : goal.returns-in-Ok-true-clause-why
returns-in-Ok-true-clause-why g c = record {
  missing = λ is. absurd (cc);
  unfinished = λ is. c.in-Ok-true.ensures.tells.had c.in-Ok-true.field-0-test;
  done = tt;
}

pub returns-in-Ok-false-clause-why : goal.returns-in-Ok-false-clause-why
returns-in-Ok-false-clause-why g c = record {
  missing = λ is. absurd (cc);
  unfinished = λ is. absurd (cc);
  done = had_nothing (home_of c.args.sides.now)
      (c.in-Ok-false.ensures.tells.missed c.in-Ok-false.field-0-test);
}

pub returns-in-Err-clause-why : goal.returns-in-Err-clause-why
returns-in-Err-clause-why g c =
    R.left_refused (home_of c.args.sides.now) _ c.scan_error.result c.scan_error.ensures
    c.in-Err.ensures.tells.why
