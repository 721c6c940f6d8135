-- What the parts of a disk in memory mean.
use Rattle.std.specs.Prelude.{Vec, map}
use Rattle.std.specs.Global.{Global}
use Rattle.disk_model.specs.Journal.{Call as PlainCall, ListDir, StatPath, ReadFront, ReadAll}
use Rattle.disk_model.specs.Journal.{Create, WriteAt, Cut, Sync, Rename, Remove, SyncDir, MakeDir}
use Rattle.memory_disk.specs.Plan.{Planned}
use Rattle.memory_disk.specs.Entering.{Scene}
use Rattle.memory_disk.specs.declared.asked.Asked.{Asked}
use Rattle.memory_disk.specs.declared.asked.Asked.TheVariants.{ListDir as ListAsked}
use Rattle.memory_disk.specs.declared.asked.Asked.TheVariants.{StatPath as StatAsked}
use Rattle.memory_disk.specs.declared.asked.Asked.TheVariants.{ReadFront as FrontAsked}
use Rattle.memory_disk.specs.declared.asked.Asked.TheVariants.{ReadAll as WholeAsked}
use Rattle.memory_disk.specs.declared.asked.Asked.TheVariants.{Create as CreateAsked}
use Rattle.memory_disk.specs.declared.asked.Asked.TheVariants.{WriteAt as WriteAsked}
use Rattle.memory_disk.specs.declared.asked.Asked.TheVariants.{Cut as CutAsked, Sync as SyncAsked}
use Rattle.memory_disk.specs.declared.asked.Asked.TheVariants.{Rename as RenameAsked}
use Rattle.memory_disk.specs.declared.asked.Asked.TheVariants.{Remove as RemoveAsked}
use Rattle.memory_disk.specs.declared.asked.Asked.TheVariants.{SyncDir as SyncDirAsked}
use Rattle.memory_disk.specs.declared.asked.Asked.TheVariants.{MakeDir as MakeDirAsked}
use Rattle.memory_disk.specs.declared.script.Foreign.{Foreign}
use Rattle.disk_state.specs.Plain.{plain_action, plain_state}
use Rattle.disk_state.specs.declared.action.Action.{Action}
use Rattle.disk_state.specs.declared.state.State.{State}

-- an action that is planned
abbrev pub plain_planned : Foreign → Planned
plain_planned foreign =
    record { before_call = foreign.before_call; action = plain_action foreign.action }

-- a call as it is asked for
abbrev pub plain_asked : Asked → PlainCall
plain_asked (ListAsked dir) = ListDir dir.now
plain_asked (StatAsked path) = StatPath path.now
plain_asked (FrontAsked path size) = ReadFront path.now size
plain_asked (WholeAsked path limit) = ReadAll path.now limit
plain_asked (CreateAsked path) = Create path.now
plain_asked (WriteAsked path at piece) = WriteAt path.now at piece.now
plain_asked (CutAsked path size) = Cut path.now size
plain_asked (SyncAsked path) = Sync path.now
plain_asked (RenameAsked from to) = Rename from.now to.now
plain_asked (RemoveAsked path) = Remove path.now
plain_asked (SyncDirAsked dir) = SyncDir dir.now
plain_asked (MakeDirAsked path) = MakeDir path.now

-- what is kept while others act
abbrev pub plain_scene : State → Vec Action Global → Vec Foreign Global → Scene
plain_scene state waiting plan =
    record {
      state = plain_state state;
      waiting = map plain_action waiting.items;
      plan = map plain_planned plan.items;
    }
