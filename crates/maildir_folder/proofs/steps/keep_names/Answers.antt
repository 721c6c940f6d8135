use Rattle.std.proofs.Common.{false}
use Rattle.maildir_folder.proofs.CauseLemmas.{dir_cause, dirs_cause}
use Rattle.folder_changes.proofs.ServingLemmas.{serves_then}
use Rattle.maildir_folder.proofs.StopLemmas.{leaves_then}
use Rattle.maildir_folder.proofs.steps.keep_names.Goals as goal

pub returns-clause-serves : goal.returns-clause-serves
returns-clause-serves g c = serves_then tt c.keep_names_in-2.result _ _ _ c.in-Ok.ensures.serves
    c.keep_names_in-2.ensures.serves

pub returns-clause-leaves : goal.returns-clause-leaves
returns-clause-leaves g c = leaves_then c.args.path.now _ _ _ c.in-Ok.ensures.leaves
    c.keep_names_in-2.ensures.leaves

pub returns-in-Err-clause-cause : goal.returns-in-Err-clause-cause
returns-in-Err-clause-cause g c =
    dir_cause c.args.path.now false c.in-Err.why _ _ c.in-Err.ensures.cause

pub returns-clause-cause : goal.returns-clause-cause
returns-clause-cause g c =
    dirs_cause c.args.path.now c.keep_names_in-2.result _ _ _ c.in-Ok.ensures.calls
    c.keep_names_in-2.ensures.serves.grows c.keep_names_in-2.ensures.cause
