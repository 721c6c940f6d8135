use Rattle.std.proofs.Common.{Err, Ok, refl}
use Rattle.disk_model.specs.Judge.{done_by}
use Rattle.folder_changes.proofs.TraceLemmas.{calls_one}
use Rattle.maildir_folder.specs.Causes.{IsCallOf}
use Rattle.maildir_folder.specs.Steps.{call_of}
use Rattle.maildir_folder.proofs.CauseLemmas.{call_cause}
use Rattle.maildir_folder.specs.Steps.{plain_step}
use Rattle.maildir_folder.proofs.StepLemmas.{step_refused}
use Rattle.maildir_folder.proofs.StopLemmas.{keeps_step}
use Rattle.maildir_folder.proofs.steps.take_step.Goals as goal

pub returns-in-Ok-clause-takes : goal.returns-in-Ok-clause-takes
returns-in-Ok-clause-takes g c = record {
  done = c.in-Ok.ensures.called.goes;
  refused = tt;
  holds = λ path base change keys is may.
      keeps_step path base change keys (plain_step c.args.step.now) is may
      c.in-Ok.ensures.called;
}

pub returns-in-Err-clause-takes : goal.returns-in-Err-clause-takes
returns-in-Err-clause-takes g c = record {
  done = tt;
  refused = λ path. step_refused path (plain_step c.args.step.now) c.in-Err.why _ _
      c.in-Err.ensures.called.goes;
  holds = λ path base change keys is may.
      keeps_step path base change keys (plain_step c.args.step.now) is may
      c.in-Err.ensures.called;
}

pub returns-in-Ok-clause-calls : goal.returns-in-Ok-clause-calls
returns-in-Ok-clause-calls g c =
    let step = plain_step c.args.step.now in
    calls_one (IsCallOf step) (Ok _) (call_of step) (done_by (call_of step)) _ _ refl
    c.in-Ok.ensures.called.goes

pub returns-in-Err-clause-calls : goal.returns-in-Err-clause-calls
returns-in-Err-clause-calls g c =
    let step = plain_step c.args.step.now in
    calls_one (IsCallOf step) (Err c.in-Err.why) (call_of step) (done_by (call_of step)) _ _ refl
    c.in-Err.ensures.called.goes

pub returns-in-Err-clause-cause : goal.returns-in-Err-clause-cause
returns-in-Err-clause-cause g c =
    let step = plain_step c.args.step.now in
    call_cause (IsCallOf step) c.in-Err.why (call_of step) c.error_at.result _ _ refl
    c.error_at.ensures.changed c.in-Err.ensures.called.goes
