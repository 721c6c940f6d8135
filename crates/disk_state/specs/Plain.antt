-- What the parts of a state and of its journal mean.
use Rattle.std.specs.Prelude.{ℕ, List, Option, Some, None, map}
use Rattle.mail_base.specs.Series.{Held}
use Rattle.disk_model.specs.Tree.{TreeNode}
use Rattle.disk_model.specs.Node.{plain_bytes}
use Rattle.disk_model.specs.State.{Patch as PlainPatch, File as PlainFile, Name as PlainName}
use Rattle.disk_model.specs.State.{State as PlainState, appended, cut_to, replaced, written}
use Rattle.disk_state.specs.declared.file.File.{File}
use Rattle.disk_state.specs.declared.file.Patch.{Patch}
use Rattle.disk_state.specs.declared.file.Change.{Change}
use Rattle.disk_model.specs.Journal.{Call as PlainCall, ListDir, StatPath, ReadFront, ReadAll}
use Rattle.disk_model.specs.Journal.{Create, WriteAt, Cut, Sync, Rename, Remove, SyncDir, MakeDir}
use Rattle.disk_model.specs.Journal.{Action as PlainAction, Appends, Puts, Renames, Removes, Writes}
use Rattle.disk_model.specs.Journal.{Entry as PlainEntry, Own, Others, Answer, Done, Refused}
use Rattle.disk_model.specs.declared.answers.DiskError.{DiskError}
use Rattle.disk_state.specs.declared.call.Call.{Call}
use Rattle.disk_state.specs.declared.call.Entry.{Entry}
use Rattle.disk_state.specs.declared.call.Entry.TheVariants.{Own as OwnEntry, Others as OthersEntry}
use Rattle.disk_state.specs.declared.first.First.{First}
use Rattle.disk_state.specs.declared.first.Kept.{Kept}
use Rattle.disk_state.specs.declared.call.Call.TheVariants.{ListDir as Listed, StatPath as Looked}
use Rattle.disk_state.specs.declared.call.Call.TheVariants.{ReadFront as FrontRead}
use Rattle.disk_state.specs.declared.call.Call.TheVariants.{ReadAll as WholeRead, Create as Created}
use Rattle.disk_state.specs.declared.call.Call.TheVariants.{WriteAt as Written, Cut as CutTo}
use Rattle.disk_state.specs.declared.call.Call.TheVariants.{Sync as Synced, Rename as Renamed}
use Rattle.disk_state.specs.declared.call.Call.TheVariants.{Remove as Removed, SyncDir as DirSynced}
use Rattle.disk_state.specs.declared.call.Call.TheVariants.{MakeDir as DirMade}
use Rattle.disk_state.specs.declared.action.Action.{Action}
use Rattle.disk_state.specs.declared.action.Action.TheVariants.{Append as Appending, Put as Putting}
use Rattle.disk_state.specs.declared.action.Action.TheVariants.{Rename as Renaming}
use Rattle.disk_state.specs.declared.action.Action.TheVariants.{Remove as Removing}
use Rattle.disk_state.specs.declared.action.Action.TheVariants.{Write as Writing}
use Rattle.disk_state.specs.declared.names.Name.{Name}
use Rattle.disk_state.specs.declared.state.State.{State}
use Rattle.disk_state.specs.declared.file.Change.TheVariants.{Write as WriteChange}
use Rattle.disk_state.specs.declared.file.Change.TheVariants.{Cut as CutChange, Append, Replace}

-- a patch of a file
abbrev pub plain_patch : Patch → PlainPatch
plain_patch patch = record { low = patch.low; high = patch.high; is_open = patch.is_open }

-- a file
abbrev pub plain_file : File → PlainFile
plain_file file =
    record {
      bytes = file.bytes.items;
      kept = file.kept.items;
      touched = map plain_patch file.touched.items;
      least = file.least;
      greatest = file.greatest;
      stamp = file.stamp;
    }

-- what is done to a file, which gets this stamp
abbrev pub plain_change : Change → ℕ → PlainFile → PlainFile
plain_change (WriteChange at piece) = written at piece.now
plain_change (CutChange size) = cut_to size
plain_change (Append piece) = appended piece.now
plain_change (Replace bytes) = replaced bytes.now

-- a name
abbrev pub plain_name : Name → PlainName
plain_name name = record { path = name.path.items; file = name.file }

-- a state
abbrev pub plain_state : State → PlainState
plain_state state =
    record {
      names = map plain_name state.names.items;
      earlier = map (λ row. map plain_name row.items) state.earlier.items;
      files = map plain_file state.files.items;
      clock = state.clock;
    }

-- a call
abbrev pub plain_call : Call → PlainCall
plain_call (Listed dir) = ListDir dir.items
plain_call (Looked path) = StatPath path.items
plain_call (FrontRead path size) = ReadFront path.items size
plain_call (WholeRead path limit) = ReadAll path.items limit
plain_call (Created path) = Create path.items
plain_call (Written path at piece) = WriteAt path.items at piece.items
plain_call (CutTo path size) = Cut path.items size
plain_call (Synced path) = Sync path.items
plain_call (Renamed from to) = Rename from.items to.items
plain_call (Removed path) = Remove path.items
plain_call (DirSynced dir) = SyncDir dir.items
plain_call (DirMade path) = MakeDir path.items

-- what others do
abbrev pub plain_action : Action → PlainAction
plain_action (Appending path bytes) = Appends path.items bytes.items
plain_action (Putting path bytes) = Puts path.items bytes.items
plain_action (Renaming from to) = Renames from.items to.items
plain_action (Removing path) = Removes path.items
plain_action (Writing path bytes) = Writes path.items bytes.items

-- the answer in the journal of a call that was refused so, or not
abbrev pub answer_by_refusal : Option DiskError → Answer
answer_by_refusal None = Done
answer_by_refusal (Some why) = Refused why 0

-- an entry of the journal
abbrev pub plain_entry : Entry → PlainEntry
plain_entry (OwnEntry call refused) = Own (plain_call call) (answer_by_refusal refused)
plain_entry (OthersEntry action) = Others (plain_action action)

-- a node of the first tree
abbrev pub plain_kept : Kept → TreeNode
plain_kept kept =
    record { path = kept.path.items; bytes = plain_bytes kept.bytes; stamp = kept.stamp }

-- a first tree
abbrev pub plain_first : First → List TreeNode
plain_first first = map plain_kept first.tree.items

-- names without the room of their lists
abbrev pub plain_names : List (Held ℕ) → List (List ℕ)
plain_names names = map (λ name. name.items) names
