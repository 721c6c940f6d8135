use Rattle.maildir_folder.specs.Causes.{IsMakeNew}
use Rattle.folder_changes.proofs.TraceLemmas.{calls_looked, calls_then}
use Rattle.disk_model.proofs.Looking.{looks_grows}
use Rattle.maildir_folder.proofs.CauseLemmas.{list_cause, lists_earlier}
use Rattle.std.proofs.Common.{Err}
use Rattle.folder_changes.proofs.ServingLemmas.{serves_then}
use Rattle.maildir_folder.proofs.StopLemmas.{leaves_looked, leaves_then}
use Rattle.folder_changes.proofs.ServingLemmas.{serves_unlisted}
use Rattle.maildir_folder.proofs.syncing.find_files.Goals as goal

pub returns-in-Ok-list_files-clause-leaves : goal.returns-in-Ok-list_files-clause-leaves
returns-in-Ok-list_files-clause-leaves g c =
    leaves_then c.args.path.now _ _ _ c.in-Ok.ensures.leaves
    (leaves_looked c.args.path.now _ _ c.list_files.ensures.only.looks)

pub returns-in-Err-list_files-clause-leaves : goal.returns-in-Err-list_files-clause-leaves
returns-in-Err-list_files-clause-leaves g c =
    leaves_then c.args.path.now _ _ _ c.in-Ok.ensures.leaves
    (leaves_looked c.args.path.now _ _ c.list_files.ensures.only.looks)

pub returns-in-Err-list_files-clause-serves : goal.returns-in-Err-list_files-clause-serves
returns-in-Err-list_files-clause-serves g c =
    serves_then tt (Err c.unlisted.result) _ _ _ c.in-Ok.ensures.serves
    (serves_unlisted c.in-Err-list_files.why c.unlisted.result _ _ c.list_files.ensures.only
    c.unlisted.ensures.fault
    c.in-Err-list_files.ensures.cause)

pub returns-in-Ok-list_files-clause-calls : goal.returns-in-Ok-list_files-clause-calls
returns-in-Ok-list_files-clause-calls g c =
    calls_then (IsMakeNew c.args.path.now) _ _ _ c.in-Ok.ensures.calls
    (calls_looked (IsMakeNew c.args.path.now) _ _ c.list_files.ensures.only.looks)

pub returns-in-Err-list_files-clause-calls : goal.returns-in-Err-list_files-clause-calls
returns-in-Err-list_files-clause-calls g c =
    calls_then (IsMakeNew c.args.path.now) _ _ _ c.in-Ok.ensures.calls
    (calls_looked (IsMakeNew c.args.path.now) _ _ c.list_files.ensures.only.looks)

pub returns-in-Ok-list_files-clause-lists : goal.returns-in-Ok-list_files-clause-lists
returns-in-Ok-list_files-clause-lists g c =
    lists_earlier c.args.path.now c.in-Ok-list_files.files.items _ _ _ c.in-Ok.ensures.serves.grows
    c.in-Ok-list_files.ensures.saw

pub returns-in-Err-list_files-clause-cause : goal.returns-in-Err-list_files-clause-cause
returns-in-Err-list_files-clause-cause g c =
    list_cause c.args.path.now c.in-Err-list_files.why c.unlisted.result _ _ _
    c.in-Ok.ensures.calls (looks_grows _ _ c.list_files.ensures.only.looks)
    c.list_files.ensures.only.looks c.in-Err-list_files.ensures.refused c.unlisted.ensures.changed
