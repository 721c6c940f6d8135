use Rattle.std.proofs.Common.{◌∙◌, Err, Ok, ap}
use Rattle.mh_syncs.proofs.Calling.{leaves_first, removed_leaves, unremoved_leaves}
use Rattle.mh_syncs.proofs.Clearing.{missing_is_gone, removed_is_gone}
use Rattle.disk_model.specs.Journal.{Remove}
use Rattle.disk_model.specs.Judge.{done_by}
use Rattle.folder_core.specs.Directory.{path_in}
use Rattle.folder_changes.proofs.TraceLemmas.{calls_one}
use Rattle.mh_syncs.specs.Causes.{IsRemove}
use Rattle.mh_syncs.proofs.Causing.{call_cause}
use Rattle.mh_syncs.proofs.leftovers.remove_side.Goals as goal

pub returns-in-Ok-remove-clause-leaves : goal.returns-in-Ok-remove-clause-leaves
returns-in-Ok-remove-clause-leaves g c =
    removed_leaves c.args.path.now c.as_str.result.now c.args.name.now _ _ c.requires
    (c.as_str.ensures.value ∙ c.in-Ok.ensures) c.in-Ok-remove.ensures.called

pub returns-in-Err-Missing-clause-leaves : goal.returns-in-Err-Missing-clause-leaves
returns-in-Err-Missing-clause-leaves g c =
    unremoved_leaves c.args.path.now c.as_str.result.now c.args.name.now
    c.in-Err-Missing.field-0 _ _ c.requires
    (c.as_str.ensures.value ∙ c.in-Ok.ensures) c.in-Err-Missing.ensures.called

pub returns-in-Err-clause-leaves : goal.returns-in-Err-clause-leaves
returns-in-Err-clause-leaves g c = leaves_first c.args.path.now _

pub returns-clause-leaves : goal.returns-clause-leaves
returns-clause-leaves g c =
    unremoved_leaves c.args.path.now c.as_str.result.now c.args.name.now
    c.in-Err-remove.why _ _ c.requires
    (c.as_str.ensures.value ∙ c.in-Ok.ensures) c.in-Err-remove.ensures.called

pub returns-in-Ok-remove-clause-gone : goal.returns-in-Ok-remove-clause-gone
returns-in-Ok-remove-clause-gone g c =
    removed_is_gone c.args.path.now c.as_str.result.now c.args.name.now _ _ c.requires
    (c.as_str.ensures.value ∙ c.in-Ok.ensures) c.in-Ok-remove.ensures.called

pub returns-in-Err-Missing-clause-gone : goal.returns-in-Err-Missing-clause-gone
returns-in-Err-Missing-clause-gone g c =
    missing_is_gone c.args.path.now c.as_str.result.now c.args.name.now
    c.in-Err-Missing.field-0 _ _ c.in-Err-Missing.field-0-is
    (c.as_str.ensures.value ∙ c.in-Ok.ensures) c.in-Err-Missing.ensures.called

pub returns-in-Ok-remove-clause-calls : goal.returns-in-Ok-remove-clause-calls
returns-in-Ok-remove-clause-calls g c =
    let call = Remove c.as_str.result.now in
    calls_one (IsRemove (path_in c.args.path.now c.args.name.now)) (Ok _) call (done_by call) _ _
    (ap Remove (c.as_str.ensures.value ∙ c.in-Ok.ensures)) c.in-Ok-remove.ensures.called.goes

pub returns-in-Err-Missing-clause-calls : goal.returns-in-Err-Missing-clause-calls
returns-in-Err-Missing-clause-calls g c =
    let call = Remove c.as_str.result.now in
    calls_one (IsRemove (path_in c.args.path.now c.args.name.now)) (Err c.in-Err-Missing.field-0)
    call (done_by call) _ _ (ap Remove (c.as_str.ensures.value ∙ c.in-Ok.ensures))
    c.in-Err-Missing.ensures.called.goes

pub returns-clause-calls : goal.returns-clause-calls
returns-clause-calls g c =
    let call = Remove c.as_str.result.now in
    calls_one (IsRemove (path_in c.args.path.now c.args.name.now)) (Err c.in-Err-remove.why) call
    (done_by call) _ _ (ap Remove (c.as_str.ensures.value ∙ c.in-Ok.ensures))
    c.in-Err-remove.ensures.called.goes

pub returns-clause-cause : goal.returns-clause-cause
returns-clause-cause g c =
    call_cause (IsRemove (path_in c.args.path.now c.args.name.now)) c.in-Err-remove.why
    (Remove c.as_str.result.now) c.error_at.result _ _
    (ap Remove (c.as_str.ensures.value ∙ c.in-Ok.ensures)) c.error_at.ensures.changed
    c.in-Err-remove.ensures.called.goes
