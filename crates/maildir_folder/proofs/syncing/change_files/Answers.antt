use Rattle.disk_model.proofs.Looking.{grows_then}
use Rattle.maildir_folder.proofs.CauseLemmas.{names_refused, steps_refused}
use Rattle.std.proofs.Common.{Err, List, map, subst, sym}
use Rattle.folder_letters.specs.Letters.{plain_letter}
use Rattle.index_items.specs.Changes.{plain_changes}
use Rattle.maildir_folder.specs.Steps.{AreSteps, plain_step}
use Rattle.folder_changes.specs.Asked.{discarded, ids_of}
use Rattle.maildir_folder.specs.declared.steps.Step.{Step}
use Rattle.maildir_folder.proofs.SyncedLemmas.{works_between, works_none, works_part}
use Rattle.maildir_folder.proofs.StepLemmas.{errors_folder}
use Rattle.folder_changes.proofs.ServingLemmas.{serves_then}
use Rattle.maildir_folder.proofs.StopLemmas.{keeps_then, leaves_at}
use Rattle.maildir_folder.proofs.syncing.change_files.Goals as goal

pub returns-in-Err-take_steps-clause-serves : goal.returns-in-Err-take_steps-clause-serves
returns-in-Err-take_steps-clause-serves g c =
    serves_then c.in-Ok.steps (Err c.in-Err-take_steps.why) _ _ _ c.in-Ok.ensures.serves
    c.in-Err-take_steps.ensures.serves

pub returns-clause-serves : goal.returns-clause-serves
returns-clause-serves g c =
    serves_then c.in-Ok.steps c.keep_names.result _ _ _ c.in-Ok.ensures.serves
    (serves_then tt c.keep_names.result _ _ _ c.in-Ok-take_steps.ensures.serves
    c.keep_names.ensures.serves)

pub returns-clause-does : goal.returns-clause-does
returns-clause-does g c =
    let mails = map plain_letter c.args.archive.now in
    let changes = plain_changes c.args.changes.now in
    let path = c.args.known.now.path in
    works_between path mails changes c.keep_names.result _ _ _ _ c.in-Ok.ensures.leaves.does
    c.in-Ok.ensures.serves.grows
    (c.in-Ok-take_steps.ensures.does path mails changes c.requires.apart
    (subst (λ (l : List Step). AreSteps path mails changes (map plain_step l))
    (sym c.as_slice.ensures.value) c.in-Ok.ensures.steps))
    (leaves_at c.path.result.now path _ _ c.path.ensures c.keep_names.ensures.leaves).does
    c.keep_names.ensures.serves.grows

pub returns-in-Err-clause-does : goal.returns-in-Err-clause-does
returns-in-Err-clause-does g c =
    works_none c.args.known.now.path (map plain_letter c.args.archive.now)
    (plain_changes c.args.changes.now) c.in-Err.why _ _ c.in-Err.ensures.leaves.does

pub returns-in-Err-take_steps-clause-does : goal.returns-in-Err-take_steps-clause-does
returns-in-Err-take_steps-clause-does g c =
    let mails = map plain_letter c.args.archive.now in
    let changes = plain_changes c.args.changes.now in
    let path = c.args.known.now.path in
    works_part path mails changes c.in-Err-take_steps.why _ _ _ c.in-Ok.ensures.leaves.does
    (c.in-Err-take_steps.ensures.does path mails changes c.requires.apart
    (subst (λ (l : List Step). AreSteps path mails changes (map plain_step l))
    (sym c.as_slice.ensures.value) c.in-Ok.ensures.steps))

pub returns-in-Err-take_steps-clause-names : goal.returns-in-Err-take_steps-clause-names
returns-in-Err-take_steps-clause-names g c =
    let mails = map plain_letter c.args.archive.now in
    let changes = plain_changes c.args.changes.now in
    let path = c.args.known.now.path in
    c.in-Err-take_steps.ensures.names path mails changes c.requires.apart
    (subst (λ (l : List Step). AreSteps path mails changes (map plain_step l))
    (sym c.as_slice.ensures.value) c.in-Ok.ensures.steps)

pub returns-clause-names : goal.returns-clause-names
returns-clause-names g c =
    errors_folder c.path.result.now c.args.known.now.path (map plain_letter c.args.archive.now)
    (ids_of (plain_changes c.args.changes.now)) c.keep_names.result c.path.ensures
    c.keep_names.ensures.at

pub returns-in-Err-clause-holds : goal.returns-in-Err-clause-holds
returns-in-Err-clause-holds g c =
    c.in-Err.ensures.leaves.holds
    (discarded (map plain_letter c.args.archive.now) (plain_changes c.args.changes.now))

pub returns-in-Err-take_steps-clause-holds : goal.returns-in-Err-take_steps-clause-holds
returns-in-Err-take_steps-clause-holds g c =
    let mails = map plain_letter c.args.archive.now in
    let changes = plain_changes c.args.changes.now in
    let path = c.args.known.now.path in
    keeps_then path (discarded mails changes) _ _ _
    (c.in-Ok.ensures.leaves.holds (discarded mails changes))
    (c.in-Err-take_steps.ensures.holds path mails changes
    (subst (λ (l : List Step). AreSteps path mails changes (map plain_step l))
    (sym c.as_slice.ensures.value) c.in-Ok.ensures.steps))

pub returns-clause-holds : goal.returns-clause-holds
returns-clause-holds g c =
    let mails = map plain_letter c.args.archive.now in
    let changes = plain_changes c.args.changes.now in
    let path = c.args.known.now.path in
    let keys = discarded mails changes in
    let steps : AreSteps path mails changes (map plain_step c.as_slice.result.now) =
    subst (λ (l : List Step). AreSteps path mails changes (map plain_step l))
    (sym c.as_slice.ensures.value) c.in-Ok.ensures.steps in
    keeps_then path keys _ _ _ (c.in-Ok.ensures.leaves.holds keys)
    (keeps_then path keys _ _ _ (c.in-Ok-take_steps.ensures.holds path mails changes steps)
    ((leaves_at c.path.result.now path _ _ c.path.ensures c.keep_names.ensures.leaves).holds keys))

pub returns-in-Err-take_steps-clause-cause : goal.returns-in-Err-take_steps-clause-cause
returns-in-Err-take_steps-clause-cause g c =
    let mails = map plain_letter c.args.archive.now in
    let changes = plain_changes c.args.changes.now in
    let path = c.args.known.now.path in
    let steps : AreSteps path mails changes (map plain_step c.as_slice.result.now) =
    subst (λ (l : List Step). AreSteps path mails changes (map plain_step l))
    (sym c.as_slice.ensures.value) c.in-Ok.ensures.steps in
    steps_refused c.args.known.now mails changes c.in-Err-take_steps.why _ _ _
    (c.in-Err-take_steps.ensures.names path mails changes c.requires.apart steps)
    c.in-Ok.ensures.calls c.in-Err-take_steps.ensures.serves.grows
    (c.in-Err-take_steps.ensures.cause path mails changes c.requires.apart steps)

pub returns-clause-cause : goal.returns-clause-cause
returns-clause-cause g c =
    let mails = map plain_letter c.args.archive.now in
    let changes = plain_changes c.args.changes.now in
    let path = c.args.known.now.path in
    let steps : AreSteps path mails changes (map plain_step c.as_slice.result.now) =
    subst (λ (l : List Step). AreSteps path mails changes (map plain_step l))
    (sym c.as_slice.ensures.value) c.in-Ok.ensures.steps in
    names_refused c.args.known.now mails changes c.path.result.now c.keep_names.result _ _ _ _
    c.path.ensures c.in-Ok.ensures.calls
    (c.in-Ok-take_steps.ensures.calls path mails changes c.requires.apart steps)
    (grows_then _ _ _ c.in-Ok-take_steps.ensures.serves.grows c.keep_names.ensures.serves.grows)
    c.keep_names.ensures.serves.grows c.keep_names.ensures.at c.keep_names.ensures.cause
