use Rattle.std.proofs.Common.{◌≡◌, ◌∙◌, Err, Ok, ap}
use Rattle.disk_model.specs.Judge.{done_by}
use Rattle.folder_core.specs.Directory.{path_in}
use Rattle.folder_changes.proofs.TraceLemmas.{calls_one}
use Rattle.maildir_folder.proofs.CauseLemmas.{call_cause}
use Rattle.disk_model.specs.Journal.{Refused, SyncDir}
use Rattle.folder_changes.proofs.CallLemmas.{sync_dir_leaves}
use Rattle.maildir_folder.proofs.StepLemmas.{call_did, refused_did}
use Rattle.maildir_folder.proofs.StopLemmas.{keeps_named, leaves_first}
use Rattle.maildir_folder.proofs.steps.keep_names_in.Goals as goal

pub returns-in-Ok-sync_dir-clause-leaves : goal.returns-in-Ok-sync_dir-clause-leaves
returns-in-Ok-sync_dir-clause-leaves g c = record {
  does = call_did c.args.path.now _ (SyncDir c.as_str.result.now) _ _ _
      (λ answer. sync_dir_leaves c.args.path.now c.as_str.result.now answer)
      c.in-Ok-sync_dir.ensures.called.goes;
  holds = λ keys. keeps_named c.args.path.now c.as_str.result.now keys
      c.in-Ok-sync_dir.ensures.called;
}

pub returns-clause-leaves : goal.returns-clause-leaves
returns-clause-leaves g c = record {
  does = refused_did c.args.path.now c.in-Err-sync_dir.why (SyncDir c.as_str.result.now) _ _
      (λ w wrote. sync_dir_leaves c.args.path.now c.as_str.result.now (Refused w wrote))
      c.in-Err-sync_dir.ensures.called.goes;
  holds = λ keys. keeps_named c.args.path.now c.as_str.result.now keys
      c.in-Err-sync_dir.ensures.called;
}

pub returns-in-Err-clause-leaves : goal.returns-in-Err-clause-leaves
returns-in-Err-clause-leaves g c = leaves_first c.args.path.now _

pub returns-in-Ok-sync_dir-clause-calls : goal.returns-in-Ok-sync_dir-clause-calls
returns-in-Ok-sync_dir-clause-calls g c =
    let call = SyncDir c.as_str.result.now in
    calls_one (λ other. other ≡ SyncDir (path_in c.args.path.now c.args.name.now)) (Ok _) call
    (done_by call) _ _ (ap SyncDir (c.as_str.ensures.value ∙ c.in-Ok.ensures))
    c.in-Ok-sync_dir.ensures.called.goes

pub returns-clause-calls : goal.returns-clause-calls
returns-clause-calls g c =
    let call = SyncDir c.as_str.result.now in
    calls_one (λ other. other ≡ SyncDir (path_in c.args.path.now c.args.name.now))
    (Err c.in-Err-sync_dir.why) call (done_by call) _ _
    (ap SyncDir (c.as_str.ensures.value ∙ c.in-Ok.ensures))
    c.in-Err-sync_dir.ensures.called.goes

pub returns-clause-cause : goal.returns-clause-cause
returns-clause-cause g c =
    call_cause (λ other. other ≡ SyncDir (path_in c.args.path.now c.args.name.now))
    c.in-Err-sync_dir.why (SyncDir c.as_str.result.now) c.error_at.result _ _
    (ap SyncDir (c.as_str.ensures.value ∙ c.in-Ok.ensures)) c.error_at.ensures.changed
    c.in-Err-sync_dir.ensures.called.goes
