-- An entry takes one stamp at most.
use Rattle.std.proofs.Common.{◌≤◌, ◌+◌, ◌==◌, ℕ, Bool, true, false, List, Option, Some, None, take}
use Rattle.std.proofs.Common.{if◌then◌else◌, arith}
use Rattle.disk_model.specs.Journal.{Call, ListDir, StatPath, ReadFront, ReadAll, Create, WriteAt}
use Rattle.disk_model.specs.Journal.{Cut, Sync, Rename, Remove, SyncDir, MakeDir, Action, Appends}
use Rattle.disk_model.specs.Journal.{Puts, Renames, Removes, Writes, Done, Refused, Entry, Own}
use Rattle.disk_model.specs.Journal.{Others}
use Rattle.disk_model.specs.State.{File, State, after_action, after_done, after_entry}
use Rattle.disk_model.specs.State.{after_refused, appended, can_make, can_take, changed, cut_to}
use Rattle.disk_model.specs.State.{is_file, moved, name_at, replaced, settled, with_made}
use Rattle.disk_model.specs.State.{with_names, without, written}

clock_changed : (at : Option (Option ℕ)) (change : ℕ → File → File) (state : State)
    → (changed at change state).clock ≤ state.clock + 1
clock_changed None change state = omega arith
clock_changed (Some None) change state = omega arith
clock_changed (Some (Some number)) change state = omega arith

clock_settled : (at : Option (Option ℕ)) (state : State)
    → (settled at state).clock ≤ state.clock + 1
clock_settled None state = omega arith
clock_settled (Some None) state = omega arith
clock_settled (Some (Some number)) state = omega arith

clock_moved : (at : Option (Option ℕ)) (from to : List ℕ) (state : State)
    → (moved at from to state).clock ≤ state.clock + 1
clock_moved None from to state = omega arith
clock_moved (Some None) from to state = omega arith
clock_moved (Some (Some number)) from to state = omega arith

clock_if : (b : Bool) (next other : State) (most : ℕ) → next.clock ≤ most → other.clock ≤ most
    → (if b then next else other).clock ≤ most
clock_if true next other most n o = n
clock_if false next other most n o = o

clock_done : (call : Call) (state : State) → (after_done call state).clock ≤ state.clock + 1
clock_done (ListDir dir) state = omega arith
clock_done (StatPath path) state = omega arith
clock_done (ReadFront path size) state = omega arith
clock_done (ReadAll path limit) state = omega arith
clock_done (Create path) state = omega arith
clock_done (WriteAt path at piece) state =
    clock_changed (name_at state.names path) (written at piece) state
clock_done (Cut path size) state = clock_changed (name_at state.names path) (cut_to size) state
clock_done (Sync path) state = clock_settled (name_at state.names path) state
clock_done (Rename from to) state = clock_moved (name_at state.names from) from to state
clock_done (Remove path) state = omega arith
clock_done (SyncDir dir) state = omega arith
clock_done (MakeDir path) state = omega arith

clock_refused : (call : Call) (wrote : ℕ) (state : State)
    → (after_refused call wrote state).clock ≤ state.clock + 1
clock_refused (ListDir dir) wrote state = omega arith
clock_refused (StatPath path) wrote state = omega arith
clock_refused (ReadFront path size) wrote state = omega arith
clock_refused (ReadAll path limit) wrote state = omega arith
clock_refused (Create path) wrote state = omega arith
clock_refused (WriteAt path at piece) wrote state =
    clock_if (wrote == 0) state
    (changed (name_at state.names path) (written at (take wrote piece)) state) _
    (omega arith) (clock_changed (name_at state.names path) (written at (take wrote piece)) state)
clock_refused (Cut path size) wrote state = omega arith
clock_refused (Sync path) wrote state = omega arith
clock_refused (Rename from to) wrote state = omega arith
clock_refused (Remove path) wrote state = omega arith
clock_refused (SyncDir dir) wrote state = omega arith
clock_refused (MakeDir path) wrote state = omega arith

clock_action : (action : Action) (state : State)
    → (after_action action state).clock ≤ state.clock + 1
clock_action (Appends path piece) state =
    clock_changed (name_at state.names path) (appended piece) state
clock_action (Puts path bytes) state =
    clock_if (can_make state.names path) (with_made path bytes state) state _ (omega arith)
    (omega arith)
clock_action (Renames from to) state =
    clock_if (can_take state.names to) (moved (name_at state.names from) from to state) state _
    (clock_moved (name_at state.names from) from to state) (omega arith)
clock_action (Removes path) state =
    clock_if (is_file (name_at state.names path)) (with_names (without path state.names) state)
    state _ (omega arith)
    (omega arith)
clock_action (Writes path bytes) state =
    clock_changed (name_at state.names path) (replaced bytes) state

pub clock-after_entry : (entry : Entry) (state : State)
    → (after_entry state entry).clock ≤ state.clock + 1
clock-after_entry (Own call Done) state = clock_done call state
clock-after_entry (Own call (Refused why wrote)) state = clock_refused call wrote state
clock-after_entry (Others action) state = clock_action action state
