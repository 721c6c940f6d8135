-- What happened in a run, without the rooms of its lists.
use Rattle.std.specs.Prelude.{ℕ, ℤ, List, [], ◌∷◌, map}
use Rattle.mail_base.specs.Series.{Held}
use Rattle.mail_base.specs.declared.kind.Id.{Id}
use Rattle.mail_base.specs.declared.kind.Kind.{Kind}
use Rattle.disk_model.specs.declared.answers.DiskError.{DiskError}
use Rattle.folder_core.specs.declared.error.ScanError.{ScanError}
use Rattle.folder_changes.specs.declared.sync_error.Spot.{Spot}
use Rattle.folder_changes.specs.declared.sync_error.Spot.TheVariants.{At, Name}
use Rattle.folder_changes.specs.declared.sync_error.SyncError.{SyncError}
use Rattle.folder_changes.specs.declared.sync_error.SyncError.TheVariants.{Changed as IsChanged}
use Rattle.folder_letters.specs.declared.listing.Found.{Found}
use Rattle.folder_letters.specs.declared.listing.Listed.{Listed}
use Rattle.index_items.specs.Changes.{Changed, plain_changes}
use Rattle.keymap.specs.declared.key.Key.{Key}
use Rattle.session_events.specs.declared.event.Event.{Event}
use Rattle.session_events.specs.declared.event.Event.TheVariants.{Sourced, NotSourced, Pressed}
use Rattle.session_events.specs.declared.event.Event.TheVariants.{Opened, NotOpened}
use Rattle.session_events.specs.declared.event.Event.TheVariants.{Checked, NotChecked}
use Rattle.session_events.specs.declared.event.Event.TheVariants.{Synced, NotSynced}
use Rattle.session_events.specs.declared.event.Marks.{Marks}
use Rattle.session_events.specs.declared.event.OpenFault.{OpenFault}

-- the ids of messages that are gone, messages that have other flags, and messages that came
pub record PlainFound : Type 0 where
  pub gone : List Id
  pub reflagged : List Listed
  pub came : List Listed

-- what was found as contracts see it
abbrev pub plain_found : Found → PlainFound
plain_found found = record {
  gone = found.gone.items;
  reflagged = found.reflagged.items;
  came = found.came.items;
}

-- a list without room
abbrev pub held : {X : Type 0} → List X → Held X
held items = record { items = items; room = 0 }

-- what was found, in lists without room
abbrev pub held_found : PlainFound → Found
held_found found = record {
  gone = held found.gone;
  reflagged = held found.reflagged;
  came = held found.came;
}

-- what is not as it is known, by a path without room
abbrev pub plain_spot : Spot → Spot
plain_spot (Name name) = Name (held name.items)
plain_spot (At place) = At place

-- why a folder was not written, by a path without room
abbrev pub plain_refusal : SyncError → SyncError
plain_refusal (IsChanged spot) = IsChanged (plain_spot spot)
plain_refusal why = why

-- a file of commands was read, or was not; a key was pressed at a moment; a folder was opened, and
-- these messages came, or was not; the open folder was checked at a moment, and this was found, or
-- was not; these changes of its messages were written, or were not
pub data Happening : Type 0 where
  FileRead : (path : List ℕ) → (text : List ℕ) → (marks : Marks) → Happening
  FileRefused : (path : List ℕ) → (why : DiskError) → (marks : Marks) → Happening
  KeyPressed : (key : Key) → (moment : ℤ) → Happening
  FolderOpened : (path : List ℕ) → (kind : Kind) → (moment : ℤ) → (came : List Listed)
      → (marks : Marks) → Happening
  FolderRefused : (path : List ℕ) → (why : OpenFault) → (marks : Marks) → Happening
  FolderChecked : (moment : ℤ) → (found : PlainFound) → (marks : Marks) → Happening
  CheckRefused : (moment : ℤ) → (why : ScanError) → (marks : Marks) → Happening
  FolderSynced : (changes : List Changed) → (marks : Marks) → Happening
  SyncRefused : (changes : List Changed) → (why : SyncError) → (marks : Marks) → Happening

-- an event as contracts see it
abbrev pub plain_event : Event → Happening
plain_event (Sourced path text marks) = FileRead path.items text.items marks
plain_event (NotSourced path why marks) = FileRefused path.items why marks
plain_event (Pressed key moment) = KeyPressed key moment
plain_event (Opened path kind moment came marks) =
    FolderOpened path.items kind moment came.items marks
plain_event (NotOpened path why marks) = FolderRefused path.items why marks
plain_event (Checked moment found marks) = FolderChecked moment (plain_found found) marks
plain_event (NotChecked moment why marks) = CheckRefused moment why marks
plain_event (Synced changes marks) = FolderSynced (plain_changes changes.items) marks
plain_event (NotSynced changes why marks) =
    SyncRefused (plain_changes changes.items) (plain_refusal why) marks

-- events by their values
abbrev pub plain_events : List Event → List Happening
plain_events events = map plain_event events

-- the event is that of a file of commands
abbrev pub IsFile : Happening → Type 0
IsFile (FileRead path text marks) = Unit {0}
IsFile (FileRefused path why marks) = Unit {0}
IsFile _ = ⊥

-- all of these are events of files
abbrev pub AreFiles : List Happening → Type 0
AreFiles [] = Unit {0}
AreFiles (event ∷ events) = IsFile event × AreFiles events

-- the event is that of a check
abbrev pub IsCheck : Happening → Type 0
IsCheck (FolderChecked moment found marks) = Unit {0}
IsCheck (CheckRefused moment why marks) = Unit {0}
IsCheck _ = ⊥

-- the event is that of a sync
abbrev pub IsSync : Happening → Type 0
IsSync (FolderSynced changes marks) = Unit {0}
IsSync (SyncRefused changes why marks) = Unit {0}
IsSync _ = ⊥

-- the event is that of a file of commands, a check or a sync
abbrev pub IsWork : Happening → Type 0
IsWork (FileRead path text marks) = Unit {0}
IsWork (FileRefused path why marks) = Unit {0}
IsWork (FolderChecked moment found marks) = Unit {0}
IsWork (CheckRefused moment why marks) = Unit {0}
IsWork (FolderSynced changes marks) = Unit {0}
IsWork (SyncRefused changes why marks) = Unit {0}
IsWork _ = ⊥

-- all of these are events of files, checks or syncs
abbrev pub AreWorks : List Happening → Type 0
AreWorks [] = Unit {0}
AreWorks (event ∷ events) = IsWork event × AreWorks events
