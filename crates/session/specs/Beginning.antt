-- How a run begins: files of commands are read, and then a folder is opened.
use Rattle.std.specs.Prelude.{◌≡◌, ℕ, ℤ, List, [], ◌∷◌, ◌++◌, map}
use Rattle.mail_base.specs.Faults.{Rose}
use Rattle.mail_base.specs.declared.kind.Kind.{Kind}
use Rattle.disk_model.specs.Seen.{Seen}
use Rattle.folder_core.specs.declared.error.ScanError.TheVariants.{ArchiveFull, Fault}
use Rattle.folder_core.specs.declared.error.ScanError.TheVariants.{NoMemory as NoRoom}
use Rattle.folder_letters.specs.declared.listing.Listed.{Listed}
use Rattle.session_state.specs.Rules.{answer_line}
use Rattle.session_state.specs.declared.stage.Stage.TheVariants.{Pushing}
use Rattle.session_events.specs.declared.event.Marks.{Marks}
use Rattle.session_events.specs.declared.event.OpenFault.{OpenFault}
use Rattle.session_events.specs.declared.event.OpenFault.TheVariants.{Taken, NoDriver, Folder}
use Rattle.session_events.specs.declared.setup.StartError.{StartError}
use Rattle.session_events.specs.declared.setup.StartError.TheVariants as error
use Rattle.session_events.specs.Events.{AreFiles, Happening, FolderOpened, FolderRefused}
use Rattle.session.specs.Given.{Given}
use Rattle.session_events.specs.Opening.{IsOpening}
use Rattle.session.specs.Runs.{IsRunFrom, State, after_events}
use Rattle.session.specs.Steps.{Waits}
use Rattle.session.specs.Telling.{Witnessed}

-- no event or one of a folder
abbrev pub AreOpening : ℤ → List Happening → Type 0
AreOpening moment [] = Unit {0}
AreOpening moment (event ∷ []) = IsOpening moment event
AreOpening moment (event ∷ next ∷ events) = ⊥

-- Files of commands were read, and then perhaps a folder was looked for; what the events say is
-- true.
pub record BeginsRun (Has : Kind → Type 0) (given : Given) (first : State) (moment : ℤ)
    (opening events : List Happening) (old new : Seen) : Type 0 where
  pub files : List Happening
  pub are_files : AreFiles files
  pub opens : AreOpening moment opening
  pub events_are : events ≡ files ++ opening
  pub run : IsRunFrom given first events
  pub told : Witnessed Has given first events old new

-- The folder was opened, in which this is listed, and the run waits for the keys that commands have
-- put.
pub record Starts (Has : Kind → Type 0) (given : Given) (first : State) (moment : ℤ)
    (events : List Happening) (state : State) (listing : List Listed) (old new : Seen)
    : Type 0 where
  pub path : List ℕ
  pub kind : Kind
  pub came : List Listed
  pub marks : Marks
  pub begins : BeginsRun Has given first moment (FolderOpened path kind moment came marks ∷ [])
      events old new
  pub stage : state.turn.stage ≡ Pushing
  pub listed : listing ≡ came
  pub window : state.window ≡ first.window
  pub waits : Waits given first events state

-- a cause that is told: neither a fault, nor want of memory, nor a full archive, nor a folder that
-- is there already
abbrev pub IsStated : OpenFault → Type 0
IsStated Taken = ⊥
IsStated (NoDriver kind) = Unit {0}
IsStated (Folder Fault) = ⊥
IsStated (Folder NoRoom) = ⊥
IsStated (Folder ArchiveFull) = ⊥
IsStated (Folder why) = Unit {0}

-- The opening was refused for this cause.
pub record IsRefused (why : OpenFault) (opening : List Happening) : Type 0 where
  pub path : List ℕ
  pub marks : Marks
  pub is : opening ≡ FolderRefused path why marks ∷ []

-- how a start without a folder ends
abbrev pub EndsStart : StartError → List Happening → Seen → Seen → Type 0
EndsStart (error.NotOpened why) opening old new = IsRefused why opening × IsStated why
EndsStart error.DiskFault opening old new =
    IsRefused (Folder Fault) opening × Rose old.faults new.faults
EndsStart error.NoMemory opening old new = Unit {0}

-- where memory sufficed, the notes are those of the run
abbrev pub IsNoted : StartError → List (List ℕ) → List (List ℕ) → Type 0
IsNoted (error.NotOpened why) told notes = told ≡ notes
IsNoted error.DiskFault told notes = told ≡ notes
IsNoted error.NoMemory told notes = Unit {0}

-- The folder was not opened, or memory ran out.
pub record Fails (Has : Kind → Type 0) (given : Given) (first : State) (moment : ℤ)
    (why : StartError) (notes : List (List ℕ)) (events : List Happening)
    (old new : Seen) : Type 0 where
  pub opening : List Happening
  pub begins : BeginsRun Has given first moment opening events old new
  pub ends : EndsStart why opening old new
  pub noted : IsNoted why (after_events given first events).notes notes

-- Files of commands were read to their ends, and each name has a line.
pub record AnswersNames (given : Given) (first : State) (events : List Happening)
    (names lines : List (List ℕ)) (notes : List (List ℕ)) : Type 0 where
  pub read : (after_events given first events).turn.core.frames ≡ []
  pub noted : (after_events given first events).notes ≡ notes
  pub lines_are : lines
      ≡ map (answer_line (after_events given first events).turn.core.rules.settings) names
