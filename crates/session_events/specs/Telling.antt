-- How an event tells of the disk.
use Rattle.std.specs.Prelude.{◌≡◌, ◌≤◌, ℕ, List, Option, Some, Ok, Err, IfSome, length}
use Rattle.mail_base.specs.declared.kind.Kind.{Kind}
use Rattle.disk_model.specs.Journal.{Past}
use Rattle.disk_model.specs.Judge.{GoesOn}
use Rattle.disk_model.specs.Looking.{LooksOnly}
use Rattle.disk_model.specs.Seen.{Seen}
use Rattle.folder_letters.specs.Letters.{Mail}
use Rattle.disk_model.specs.declared.answers.Stat.{Stat}
use Rattle.session_events.specs.Events.{Happening, FileRead, FileRefused, FolderOpened}
use Rattle.session_events.specs.Events.{FolderRefused, FolderChecked, CheckRefused, FolderSynced}
use Rattle.session_events.specs.Events.{SyncRefused}
use Rattle.session_events.specs.Happened.{Happened, HasCause, IsReadCause, Standing, WasRead}
use Rattle.session_events.specs.Happened.{counts_of, marks_of}
use Rattle.session_events.specs.Visits.{TouchesAlone}
use Rattle.session_events.specs.declared.event.Marks.{Marks}

-- the counts and their place in the journal, where that is told
abbrev pub IsMarked : Seen → Type 0
IsMarked seen = IfSome seen.told (λ past. seen.marks ≡ length past.journal)

-- our calls changed the folder of some kind at a path alone
abbrev pub MayTouch : List ℕ → Option Past → Option Past → Type 0
MayTouch path old new = (kind : Kind) × TouchesAlone kind path old new

-- what our calls changed in an event: an opening the folder that is looked for, a check or a sync
-- the open folder, and every other event nothing
abbrev pub Touches : Standing → Happening → Option Past → Option Past → Type 0
Touches at (FolderOpened path kind moment came marks) old new = TouchesAlone kind path old new
Touches at (FolderRefused path why marks) old new = MayTouch path old new
Touches at (FolderChecked moment found marks) old new = TouchesAlone at.kind at.path old new
Touches at (CheckRefused moment why marks) old new = TouchesAlone at.kind at.path old new
Touches at (FolderSynced changes marks) old new = TouchesAlone at.kind at.path old new
Touches at (SyncRefused changes why marks) old new = TouchesAlone at.kind at.path old new
Touches at _ old new = LooksOnly old new

-- One event, in which the device went from one view to the next.
pub record Tells (Has : Kind → Type 0) (at : Standing) (mails : List Mail) (event : Happening)
    (old new : Seen) : Type 0 where
  pub marks : Marks
  pub marked : marks_of event ≡ Some marks
  pub before : counts_of old ≡ record { mark = marks.mark_before; faults = marks.faults_before }
  pub after : counts_of new ≡ record { mark = marks.mark_after; faults = marks.faults_after }
  pub on : old.marks ≤ new.marks
  pub faults : old.faults ≤ new.faults
  pub cause : HasCause Has event marks
  pub happened : GoesOn (Happened Has at mails event) old.told new.told
  pub touches : Touches at event old.told new.told
  pub first : IsMarked old
  pub last : IsMarked new

-- Files of commands.

-- what the event of a file says of the pasts at its two marks
abbrev pub FileHappened : Happening → Past → Past → Type 0
FileHappened (FileRead path text marks) old new = (stat : Stat)
    × WasRead (Ok (stat, text)) path old new
FileHappened (FileRefused path why marks) old new = WasRead (Err why) path old new
FileHappened _ old new = ⊥

-- the event is that of a file, and has its cause
abbrev pub HasFileCause : Happening → Marks → Type 0
HasFileCause (FileRead path text kept) marks = Unit {0}
HasFileCause (FileRefused path why kept) marks = IsReadCause why marks
HasFileCause _ marks = ⊥

-- One event of a file, whatever the drivers are.
pub record TellsFile (event : Happening) (old new : Seen) : Type 0 where
  pub marks : Marks
  pub marked : marks_of event ≡ Some marks
  pub before : counts_of old ≡ record { mark = marks.mark_before; faults = marks.faults_before }
  pub after : counts_of new ≡ record { mark = marks.mark_after; faults = marks.faults_after }
  pub on : old.marks ≤ new.marks
  pub faults : old.faults ≤ new.faults
  pub cause : HasFileCause event marks
  pub happened : GoesOn (FileHappened event) old.told new.told
  pub looks : LooksOnly old.told new.told
  pub first : IsMarked old
  pub last : IsMarked new
