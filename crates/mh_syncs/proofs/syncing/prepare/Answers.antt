use Rattle.std.proofs.Common.{◌∙◌, ap, map, Err}
use Rattle.folder_letters.specs.Letters.{plain_letter}
use Rattle.index_items.specs.Changes.{plain_changes}
use Rattle.disk_model.proofs.Looking.{grows_then, looks_grows}
use Rattle.folder_drivers.specs.MhSync.{sequences_wanted}
use Rattle.mh_syncs.proofs.Calling.{all_then, leaves_at}
use Rattle.mh_syncs.proofs.Holding.{leaves_looked}
use Rattle.mh_syncs.proofs.Meeting.{all_bear_earlier, reads_at}
use Rattle.folder_changes.proofs.TraceLemmas.{calls_looked, calls_then}
use Rattle.folder_changes.proofs.ServingLemmas.{serves_then}
use Rattle.mh_syncs.specs.Causes.{IsClearing}
use Rattle.mh_syncs.proofs.Causing.{clears_at, folder_refused, serves_as, unlike_refused}
use Rattle.mh_syncs.proofs.syncing.prepare.Goals as goal

pub returns-in-Err-read_sequences-clause-leaves : goal.returns-in-Err-read_sequences-clause-leaves
returns-in-Err-read_sequences-clause-leaves g c =
    all_then c.args.known.now.path _ _ _
    (leaves_at c.path.result.now c.args.known.now.path _ _ c.path.ensures c.in-Ok.ensures.leaves)
    (leaves_looked c.args.known.now.path _ _ c.in-Err-read_sequences.ensures.looks)

pub returns-in-Err-check_all-clause-leaves : goal.returns-in-Err-check_all-clause-leaves
returns-in-Err-check_all-clause-leaves g c =
    all_then c.args.known.now.path _ _ _
    (leaves_at c.path.result.now c.args.known.now.path _ _ c.path.ensures c.in-Ok.ensures.leaves)
    (all_then c.args.known.now.path _ _ _
    (leaves_looked c.args.known.now.path _ _ c.in-Ok-read_sequences.ensures.looks)
    (leaves_looked c.args.known.now.path _ _ c.in-Err-check_all.ensures.looks))

pub returns-in-Ok-changed_sequences-clause-leaves :
    goal.returns-in-Ok-changed_sequences-clause-leaves
returns-in-Ok-changed_sequences-clause-leaves g c =
    all_then c.args.known.now.path _ _ _
    (leaves_at c.path.result.now c.args.known.now.path _ _ c.path.ensures c.in-Ok.ensures.leaves)
    (all_then c.args.known.now.path _ _ _
    (leaves_looked c.args.known.now.path _ _ c.in-Ok-read_sequences.ensures.looks)
    (leaves_looked c.args.known.now.path _ _ c.in-Ok-check_all.ensures.looks))

pub returns-clause-leaves : goal.returns-clause-leaves
returns-clause-leaves g c =
    all_then c.args.known.now.path _ _ _
    (leaves_at c.path.result.now c.args.known.now.path _ _ c.path.ensures c.in-Ok.ensures.leaves)
    (all_then c.args.known.now.path _ _ _
    (leaves_looked c.args.known.now.path _ _ c.in-Ok-read_sequences.ensures.looks)
    (leaves_looked c.args.known.now.path _ _ c.in-Ok-check_all.ensures.looks))

pub returns-in-Ok-changed_sequences-clause-prepares :
    goal.returns-in-Ok-changed_sequences-clause-prepares
returns-in-Ok-changed_sequences-clause-prepares g c = record {
  sequences = c.in-Ok-read_sequences.bytes.items;
  reads = reads_at c.path-2.result.now c.args.known.now.path c.in-Ok-read_sequences.bytes.items
      _ _ _ _ c.path-2.ensures c.in-Ok.ensures.serves.grows c.in-Ok-read_sequences.ensures.reads
      (looks_grows _ _ c.in-Ok-check_all.ensures.looks);
  text_is = c.in-Ok-changed_sequences.ensures
      ∙ ap (sequences_wanted (map plain_letter c.args.archive.now)
      (plain_changes c.args.changes.now)) c.as_slice.ensures;
  bear = all_bear_earlier c.args.known.now (map plain_letter c.args.archive.now)
      (plain_changes c.args.changes.now) _ _ _
      (grows_then _ _ _ c.in-Ok.ensures.serves.grows
      (looks_grows _ _ c.in-Ok-read_sequences.ensures.looks))
      c.in-Ok-check_all.ensures.bears;
  numbers = c.in-Ok-check_all.ensures.numbers;
}

pub returns-in-Err-clause-cause : goal.returns-in-Err-clause-cause
returns-in-Err-clause-cause g c stamped =
    folder_refused c.args.known.now (map plain_letter c.args.archive.now)
    (plain_changes c.args.changes.now) c.path.result.now c.in-Err.why _ _ c.path.ensures
    c.in-Err.ensures.at c.in-Err.ensures.cause

pub returns-in-Err-read_sequences-clause-calls : goal.returns-in-Err-read_sequences-clause-calls
returns-in-Err-read_sequences-clause-calls g c =
    calls_then (IsClearing c.args.known.now.path) _ _ _
    (clears_at c.path.result.now c.args.known.now.path _ _ c.path.ensures c.in-Ok.ensures.calls)
    (calls_looked (IsClearing c.args.known.now.path) _ _ c.in-Err-read_sequences.ensures.looks)

pub returns-in-Err-check_all-clause-serves : goal.returns-in-Err-check_all-clause-serves
returns-in-Err-check_all-clause-serves g c =
    serves_then tt (Err c.in-Err-check_all.why) _ _ _ c.in-Ok.ensures.serves
    (serves_then c.in-Ok-read_sequences.bytes (Err c.in-Err-check_all.why) _ _ _
    c.in-Ok-read_sequences.ensures.serves
    (serves_as {A = Unit {0}} c.in-Err-check_all.why _ _ c.in-Err-check_all.ensures.serves))

pub returns-in-Err-check_all-clause-calls : goal.returns-in-Err-check_all-clause-calls
returns-in-Err-check_all-clause-calls g c =
    calls_then (IsClearing c.args.known.now.path) _ _ _
    (clears_at c.path.result.now c.args.known.now.path _ _ c.path.ensures c.in-Ok.ensures.calls)
    (calls_then (IsClearing c.args.known.now.path) _ _ _
    (calls_looked (IsClearing c.args.known.now.path) _ _ c.in-Ok-read_sequences.ensures.looks)
    (calls_looked (IsClearing c.args.known.now.path) _ _ c.in-Err-check_all.ensures.looks))

pub returns-in-Err-check_all-clause-cause : goal.returns-in-Err-check_all-clause-cause
returns-in-Err-check_all-clause-cause g c stamped =
    unlike_refused c.args.known.now (map plain_letter c.args.archive.now)
    (plain_changes c.args.changes.now) c.in-Err-check_all.why _ _ _
    c.in-Err-check_all.ensures.names stamped
    (calls_then (IsClearing c.args.known.now.path) _ _ _
    (clears_at c.path.result.now c.args.known.now.path _ _ c.path.ensures c.in-Ok.ensures.calls)
    (calls_then (IsClearing c.args.known.now.path) _ _ _
    (calls_looked (IsClearing c.args.known.now.path) _ _ c.in-Ok-read_sequences.ensures.looks)
    (calls_looked (IsClearing c.args.known.now.path) _ _ c.in-Err-check_all.ensures.looks)))
    (grows_then _ _ _ c.in-Ok.ensures.serves.grows
    (looks_grows _ _ c.in-Ok-read_sequences.ensures.looks))
    (looks_grows _ _ c.in-Err-check_all.ensures.looks) c.in-Err-check_all.ensures.cause

pub returns-in-Ok-changed_sequences-clause-calls : goal.returns-in-Ok-changed_sequences-clause-calls
returns-in-Ok-changed_sequences-clause-calls g c =
    calls_then (IsClearing c.args.known.now.path) _ _ _
    (clears_at c.path.result.now c.args.known.now.path _ _ c.path.ensures c.in-Ok.ensures.calls)
    (calls_then (IsClearing c.args.known.now.path) _ _ _
    (calls_looked (IsClearing c.args.known.now.path) _ _ c.in-Ok-read_sequences.ensures.looks)
    (calls_looked (IsClearing c.args.known.now.path) _ _ c.in-Ok-check_all.ensures.looks))

pub returns-clause-calls : goal.returns-clause-calls
returns-clause-calls g c =
    calls_then (IsClearing c.args.known.now.path) _ _ _
    (clears_at c.path.result.now c.args.known.now.path _ _ c.path.ensures c.in-Ok.ensures.calls)
    (calls_then (IsClearing c.args.known.now.path) _ _ _
    (calls_looked (IsClearing c.args.known.now.path) _ _ c.in-Ok-read_sequences.ensures.looks)
    (calls_looked (IsClearing c.args.known.now.path) _ _ c.in-Ok-check_all.ensures.looks))
