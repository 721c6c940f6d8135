use Rattle.std.proofs.Common.{ap, ℕ, List, Err, Ok}
use Rattle.disk_model.specs.Journal.{Create, Rename, Sync, WriteAt}
use Rattle.disk_model.proofs.Looking.{grows_then, looks_same}
use Rattle.mh_syncs.proofs.Calling as C
use Rattle.folder_changes.proofs.TraceLemmas.{calls_looked, calls_then}
use Rattle.folder_drivers.specs.MhNames.{new_sequences_path}
use Rattle.mh_syncs.specs.Causes.{IsPutting}
use Rattle.mh_syncs.proofs.Beginning as B
use Rattle.mh_syncs.proofs.placing.put_over.Goals as goal

pub returns-in-Err-clause-puts : goal.returns-in-Err-clause-puts
returns-in-Err-clause-puts g c path is_side is_to =
    C.not_made path c.args.text.now c.in-Err.why
    (C.call_as _ _ (ap Create is_side) c.in-Err.ensures.called)

pub returns-in-Err-write_at-clause-puts : goal.returns-in-Err-write_at-clause-puts
returns-in-Err-write_at-clause-puts g c path is_side is_to =
    C.not_written path c.args.text.now
    (C.call_as _ _ (ap Create is_side) c.in-Ok.ensures.called) c.in-Err-write_at.why
    (C.call_as _ _ (ap (λ (p : List ℕ). WriteAt p 0 c.args.text.now) is_side)
    c.in-Err-write_at.ensures.called)

pub returns-in-Err-sync-clause-puts : goal.returns-in-Err-sync-clause-puts
returns-in-Err-sync-clause-puts g c path is_side is_to =
    C.not_synced path c.args.text.now
    (C.call_as _ _ (ap Create is_side) c.in-Ok.ensures.called)
    (C.call_as _ _ (ap (λ (p : List ℕ). WriteAt p 0 c.args.text.now) is_side)
    c.in-Ok-write_at.ensures.called)
    c.in-Err-sync.why
    (C.call_as _ _ (ap Sync is_side) c.in-Err-sync.ensures.called)

pub returns-clause-puts : goal.returns-clause-puts
returns-clause-puts g c path is_side is_to =
    C.was_put path c.args.text.now
    (C.call_as _ _ (ap Create is_side) c.in-Ok.ensures.called)
    (C.call_as _ _ (ap (λ (p : List ℕ). WriteAt p 0 c.args.text.now) is_side)
    c.in-Ok-write_at.ensures.called)
    (C.call_as _ _ (ap Sync is_side) c.in-Ok-sync.ensures.called)
    c.rename.result
    (C.call_as _ _ (λ i. Rename (is_side i) (is_to i)) c.rename.ensures.called)

pub returns-in-Err-sync-clause-grows : goal.returns-in-Err-sync-clause-grows
returns-in-Err-sync-clause-grows g c =
    grows_then _ _ _ c.in-Ok.ensures.grows
    (grows_then _ _ _ c.in-Ok-write_at.ensures.grows c.in-Err-sync.ensures.grows)

pub returns-clause-grows : goal.returns-clause-grows
returns-clause-grows g c =
    grows_then _ _ _ c.in-Ok.ensures.grows
    (grows_then _ _ _ c.in-Ok-write_at.ensures.grows
    (grows_then _ _ _ c.in-Ok-sync.ensures.grows c.rename.ensures.grows))

-- The calls.

pub returns-in-Err-clause-calls : goal.returns-in-Err-clause-calls
returns-in-Err-clause-calls g c path is_side is_to =
    B.put_called path (Err c.in-Err.why) (Create c.args.side.now) _ _ is_side
    c.in-Err.ensures.called.goes

pub returns-in-Err-write_at-clause-calls : goal.returns-in-Err-write_at-clause-calls
returns-in-Err-write_at-clause-calls g c path is_side is_to =
    calls_then (IsPutting path) _ _ _
    (B.put_called path (Ok _) (Create c.args.side.now) _ _ is_side c.in-Ok.ensures.called.goes)
    (B.put_called path (Err c.in-Err-write_at.why) (WriteAt c.args.side.now 0 c.args.text.now) _ _
    is_side c.in-Err-write_at.ensures.called.goes)

pub returns-in-Err-sync-clause-calls : goal.returns-in-Err-sync-clause-calls
returns-in-Err-sync-clause-calls g c path is_side is_to =
    calls_then (IsPutting path) _ _ _
    (B.put_called path (Ok _) (Create c.args.side.now) _ _ is_side c.in-Ok.ensures.called.goes)
    (calls_then (IsPutting path) _ _ _
    (B.put_called path (Ok _) (WriteAt c.args.side.now 0 c.args.text.now) _ _ is_side
    c.in-Ok-write_at.ensures.called.goes)
    (B.put_called path (Err c.in-Err-sync.why) (Sync c.args.side.now) _ _ is_side
    c.in-Err-sync.ensures.called.goes))

pub returns-clause-calls : goal.returns-clause-calls
returns-clause-calls g c path is_side is_to =
    calls_then (IsPutting path) _ _ _
    (B.put_called path (Ok _) (Create c.args.side.now) _ _ is_side c.in-Ok.ensures.called.goes)
    (calls_then (IsPutting path) _ _ _
    (B.put_called path (Ok _) (WriteAt c.args.side.now 0 c.args.text.now) _ _ is_side
    c.in-Ok-write_at.ensures.called.goes)
    (calls_then (IsPutting path) _ _ _
    (B.put_called path (Ok _) (Sync c.args.side.now) _ _ is_side c.in-Ok-sync.ensures.called.goes)
    (B.put_called path c.rename.result (Rename c.args.side.now c.args.to.now) _ _ (is_side, is_to)
    c.rename.ensures.called.goes)))

-- Why it is refused.

pub returns-in-Err-clause-cause : goal.returns-in-Err-clause-cause
returns-in-Err-clause-cause g c path is_side is_to before clears of_tree =
    B.create_cause path c.in-Err.why before _ _ clears
    (C.call_as _ _ (ap Create is_side) c.in-Err.ensures.called).goes of_tree

pub returns-in-Err-write_at-clause-cause : goal.returns-in-Err-write_at-clause-cause
returns-in-Err-write_at-clause-cause g c path is_side is_to before clears of_tree =
    B.write_cause path before _ _ _ _ clears
    (C.call_as _ _ (ap Create is_side) c.in-Ok.ensures.called).goes
    (calls_looked (B.IsFilling (new_sequences_path path)) _ _ (looks_same _))
    c.in-Err-write_at.why 0 c.args.text.now
    (C.call_as _ _ (ap (λ (p : List ℕ). WriteAt p 0 c.args.text.now) is_side)
    c.in-Err-write_at.ensures.called).goes of_tree

pub returns-in-Err-sync-clause-cause : goal.returns-in-Err-sync-clause-cause
returns-in-Err-sync-clause-cause g c path is_side is_to before clears of_tree =
    B.sync_cause path before _ _ _ _ clears
    (C.call_as _ _ (ap Create is_side) c.in-Ok.ensures.called).goes
    (B.fill_called (new_sequences_path path) (Ok _) (WriteAt c.args.side.now 0 c.args.text.now) _ _
    is_side c.in-Ok-write_at.ensures.called.goes)
    c.in-Err-sync.why (C.call_as _ _ (ap Sync is_side) c.in-Err-sync.ensures.called).goes of_tree

pub returns-clause-cause : goal.returns-clause-cause
returns-clause-cause g c path is_side is_to before clears =
    B.rename_if path before _ _ _ _ clears
    (C.call_as _ _ (ap Create is_side) c.in-Ok.ensures.called).goes
    (calls_then (B.IsFilling (new_sequences_path path)) _ _ _
    (B.fill_called (new_sequences_path path) (Ok _) (WriteAt c.args.side.now 0 c.args.text.now) _ _
    is_side c.in-Ok-write_at.ensures.called.goes)
    (B.fill_called (new_sequences_path path) (Ok _) (Sync c.args.side.now) _ _ is_side
    c.in-Ok-sync.ensures.called.goes))
    c.rename.result (C.call_as _ _ (λ i. Rename (is_side i) (is_to i)) c.rename.ensures.called).goes
