use Rattle.maildir_folder.proofs.CauseLemmas.{calls_at, change_listed, folder_refused, gone_cause}
use Rattle.maildir_folder.proofs.CauseLemmas.{lists_at}
use Rattle.maildir_folder.proofs.SyncedLemmas.{gone_among, gone_none}
use Rattle.std.proofs.Common.{length, map}
use Rattle.folder_letters.specs.Letters.{plain_letter}
use Rattle.index_items.specs.Changes.{plain_changes}
use Rattle.maildir_folder.specs.Candidates.{plain_file}
use Rattle.folder_changes.specs.Asked.{ids_of}
use Rattle.maildir_folder.proofs.StepLemmas.{error_folder}
use Rattle.maildir_folder.proofs.SyncedLemmas.{gone_below, gone_named}
use Rattle.maildir_folder.proofs.syncing.find_steps.Goals as goal

pub message_gone-requires-clause-within : goal.message_gone-requires-clause-within
message_gone-requires-clause-within g c =
    gone_below (length c.args.archive.now) (map plain_file c.as_slice.result.now)
    (map plain_letter c.args.archive.now) c.args.changes.now c.in-Err-Gone.field-0
    c.in-Err-Gone.id c.in-Err-Gone.field-0-is c.in-Err-Gone.ensures.gone c.requires.within

pub returns-in-Err-Gone-clause-names : goal.returns-in-Err-Gone-clause-names
returns-in-Err-Gone-clause-names g c =
    gone_named c.args.known.now.path (map plain_file c.as_slice.result.now)
    (map plain_letter c.args.archive.now) c.args.changes.now c.in-Err-Gone.field-0
    c.in-Err-Gone.id c.message_gone.result c.in-Err-Gone.field-0-is c.in-Err-Gone.ensures.gone
    c.message_gone.ensures.names

pub returns-in-Err-clause-names : goal.returns-in-Err-clause-names
returns-in-Err-clause-names g c =
    error_folder c.path.result.now c.args.known.now.path (map plain_letter c.args.archive.now)
    (ids_of (plain_changes c.args.changes.now)) c.in-Err.why c.path.ensures c.in-Err.ensures.at

pub message_gone-requires-clause-listed : goal.message_gone-requires-clause-listed
message_gone-requires-clause-listed g c =
    change_listed c.args.known.now.listing (plain_changes c.args.changes.now) c.in-Err-Gone.id
    c.requires.listed
    (gone_among (map plain_file c.as_slice.result.now) (map plain_letter c.args.archive.now)
    c.args.changes.now c.in-Err-Gone.field-0 c.in-Err-Gone.id c.in-Err-Gone.field-0-is
    c.in-Err-Gone.ensures.gone)

pub returns-in-Ok-plan-clause-calls : goal.returns-in-Ok-plan-clause-calls
returns-in-Ok-plan-clause-calls g c =
    calls_at c.path.result.now c.args.known.now.path _ _ c.path.ensures
    c.find_files.ensures.calls

pub returns-in-Err-clause-cause : goal.returns-in-Err-clause-cause
returns-in-Err-clause-cause g c =
    folder_refused c.args.known.now (map plain_letter c.args.archive.now)
    (plain_changes c.args.changes.now) c.path.result.now c.in-Err.why _ _ c.path.ensures
    c.in-Err.ensures.at c.in-Err.ensures.cause

pub returns-in-Err-Gone-clause-cause : goal.returns-in-Err-Gone-clause-cause
returns-in-Err-Gone-clause-cause g c =
    let mails = map plain_letter c.args.archive.now in
    let refusal = c.in-Err-Gone.ensures.gone in
    gone_cause c.args.known.now mails (plain_changes c.args.changes.now) c.in-Ok.files.items
    c.in-Err-Gone.id c.message_gone.result _ _
    (calls_at c.path.result.now c.args.known.now.path _ _ c.path.ensures
    c.find_files.ensures.calls)
    (lists_at c.path.result.now c.args.known.now.path c.in-Ok.files.items _ _ c.path.ensures
    c.in-Ok.ensures.lists)
    (gone_none c.as_slice.result.now c.in-Ok.files.items mails c.args.changes.now
    c.in-Err-Gone.field-0 c.in-Err-Gone.id c.as_slice.ensures.value c.in-Err-Gone.field-0-is refusal)
    (gone_among (map plain_file c.as_slice.result.now) mails c.args.changes.now
    c.in-Err-Gone.field-0 c.in-Err-Gone.id c.in-Err-Gone.field-0-is refusal)
    c.requires.listed c.message_gone.ensures.at
