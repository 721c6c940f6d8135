-- What calls of ours a journal grew by.
use Rattle.std.specs.Prelude.{◌≡◌, ℕ, List, Option}
use Rattle.disk_model.specs.Journal.{Call, ListDir, StatPath, ReadFront, ReadAll, Create, WriteAt}
use Rattle.disk_model.specs.Journal.{Cut, Sync, Rename, Remove, SyncDir, MakeDir, Done, Own, Past}
use Rattle.folder_stops.specs.Along.{Grown}
use Rattle.folder_stops.specs.Does.{AllOwn}
use Rattle.folder_stops.specs.Words.{Among}
use Rattle.folder_tails.specs.Sides.{lock_of, tail_of}

-- a look of ours at the tail file found something there
abbrev pub MeetsTail : List ℕ → Option Past → Option Past → Type 0
MeetsTail path old new =
    Grown old new (λ state entries. Among (Own (StatPath (tail_of path)) Done) entries)

-- the call makes the lock, takes it away, looks, or puts names on the disk
abbrev pub IsOnLock : List ℕ → Call → Type 0
IsOnLock path (ListDir dir) = Unit {0}
IsOnLock path (StatPath at) = Unit {0}
IsOnLock path (ReadFront at size) = Unit {0}
IsOnLock path (ReadAll at limit) = Unit {0}
IsOnLock path (Create at) = at ≡ lock_of path
IsOnLock path (WriteAt at place piece) = ⊥
IsOnLock path (Cut at size) = ⊥
IsOnLock path (Sync at) = ⊥
IsOnLock path (Rename at to) = ⊥
IsOnLock path (Remove at) = at ≡ lock_of path
IsOnLock path (SyncDir dir) = Unit {0}
IsOnLock path (MakeDir at) = ⊥

-- our calls made the lock and took it away, and changed nothing else
abbrev pub LockAlone : List ℕ → Option Past → Option Past → Type 0
LockAlone path old new =
    Grown old new (λ state entries. AllOwn (λ call answer. IsOnLock path call) entries)
