use Rattle.std.proofs.Common.{Err, Ok, ap}
use Rattle.disk_model.specs.Judge.{done_by}
use Rattle.folder_changes.proofs.TraceLemmas.{calls_one}
use Rattle.maildir_folder.specs.Causes.{IsMakeNew}
use Rattle.maildir_folder.proofs.CauseLemmas.{make_cause}
use Rattle.std.proofs.Common.{◌∙◌, ℕ, List, refl, subst, sym}
use Rattle.disk_model.specs.Journal.{MakeDir, Own}
use Rattle.folder_changes.proofs.CallLemmas.{make_new_leaves}
use Rattle.folder_changes.proofs.WorkLemmas.{LeavesMessages}
use Rattle.maildir_folder.proofs.StepLemmas.{call_did, refused_did, there_did}
use Rattle.maildir_folder.proofs.StopLemmas.{keeps_made, leaves_first}
use Rattle.maildir_folder.proofs.steps.make_new.Goals as goal

pub returns-in-Ok-make_dir-clause-leaves : goal.returns-in-Ok-make_dir-clause-leaves
returns-in-Ok-make_dir-clause-leaves g c = record {
  does = call_did c.args.path.now _ (MakeDir c.as_str.result.now) _ _ _
      (λ answer. subst
      (λ (dir : List ℕ). LeavesMessages c.args.path.now (Own (MakeDir dir) answer))
      (sym (c.as_str.ensures.value ∙ c.in-Ok.ensures)) (make_new_leaves c.args.path.now answer))
      c.in-Ok-make_dir.ensures.called.goes;
  holds = λ keys. keeps_made c.args.path.now c.as_str.result.now keys
      (c.as_str.ensures.value ∙ c.in-Ok.ensures) c.in-Ok-make_dir.ensures.called;
}

pub returns-in-None-clause-leaves : goal.returns-in-None-clause-leaves
returns-in-None-clause-leaves g c = record {
  does = there_did c.args.path.now c.in-Err-make_dir.why c.as_str.result.now _ _
      (c.unmade.ensures.there c.in-None.is) (c.as_str.ensures.value ∙ c.in-Ok.ensures)
      c.in-Err-make_dir.ensures.called.goes;
  holds = λ keys. keeps_made c.args.path.now c.as_str.result.now keys
      (c.as_str.ensures.value ∙ c.in-Ok.ensures) c.in-Err-make_dir.ensures.called;
}

pub returns-clause-leaves : goal.returns-clause-leaves
returns-clause-leaves g c = record {
  does = refused_did c.args.path.now c.in-Err-make_dir.why (MakeDir c.as_str.result.now) _ _
      (λ w wrote state own single. (single, refl)) c.in-Err-make_dir.ensures.called.goes;
  holds = λ keys. keeps_made c.args.path.now c.as_str.result.now keys
      (c.as_str.ensures.value ∙ c.in-Ok.ensures) c.in-Err-make_dir.ensures.called;
}

pub returns-in-Err-clause-leaves : goal.returns-in-Err-clause-leaves
returns-in-Err-clause-leaves g c = leaves_first c.args.path.now _

pub returns-in-Ok-make_dir-clause-calls : goal.returns-in-Ok-make_dir-clause-calls
returns-in-Ok-make_dir-clause-calls g c =
    let call = MakeDir c.as_str.result.now in
    calls_one (IsMakeNew c.args.path.now) (Ok _) call (done_by call) _ _
    (ap MakeDir (c.as_str.ensures.value ∙ c.in-Ok.ensures)) c.in-Ok-make_dir.ensures.called.goes

pub returns-in-None-clause-calls : goal.returns-in-None-clause-calls
returns-in-None-clause-calls g c =
    let call = MakeDir c.as_str.result.now in
    calls_one (IsMakeNew c.args.path.now) (Err c.in-Err-make_dir.why) call (done_by call) _ _
    (ap MakeDir (c.as_str.ensures.value ∙ c.in-Ok.ensures)) c.in-Err-make_dir.ensures.called.goes

pub returns-clause-calls : goal.returns-clause-calls
returns-clause-calls g c =
    let call = MakeDir c.as_str.result.now in
    calls_one (IsMakeNew c.args.path.now) (Err c.in-Err-make_dir.why) call (done_by call) _ _
    (ap MakeDir (c.as_str.ensures.value ∙ c.in-Ok.ensures)) c.in-Err-make_dir.ensures.called.goes

pub returns-clause-cause : goal.returns-clause-cause
returns-clause-cause g c =
    make_cause c.args.path.now c.as_str.result.now c.in-Err-make_dir.why c.in-Some.told _ _
    (c.as_str.ensures.value ∙ c.in-Ok.ensures) c.in-Some.ensures.changed
    c.in-Err-make_dir.ensures.called.goes
