-- How a run ends.
use Rattle.std.specs.Prelude.{◌≡◌, ◌++◌, ℕ, ℤ, true, List, [], ◌∷◌, Option}
use Rattle.std.specs.Prelude.{Result, Ok, Err}
use Rattle.mail_base.specs.declared.kind.Kind.{Kind}
use Rattle.folder_core.specs.declared.error.ScanError.TheVariants.{Fault}
use Rattle.folder_letters.specs.declared.listing.Listed.{Listed}
use Rattle.keymap.specs.Reader.{PlainReader}
use Rattle.mutt_words.specs.Options.{PlainOptions}
use Rattle.session.specs.Beginning.{IsStated}
use Rattle.session_events.specs.Events.{AreFiles, Happening, FolderOpened}
use Rattle.session_events.specs.Events.{FolderRefused}
use Rattle.session.specs.Given.{Given}
use Rattle.session.specs.Runs.{after_events}
use Rattle.session_events.specs.declared.event.Marks.{Marks}
use Rattle.session_events.specs.declared.event.OpenFault.{OpenFault}
use Rattle.session_events.specs.declared.event.OpenFault.TheVariants.{Folder}
use Rattle.mutt_run.specs.Choice.{Task, TellVersion, TellValues, ReadFolder, first_of, task_of}
use Rattle.mutt_run.specs.Going.{AreActs, EndsKeys}
use Rattle.mutt_run.specs.Taken.{TakesKeys, pressed_keys}
use Rattle.mutt_run.specs.declared.status.Status.{Status}
use Rattle.mutt_run.specs.declared.status.Status.TheVariants.{Done, Usage, NotOpened, DiskFault}
use Rattle.mutt_run.specs.declared.status.Status.TheVariants.{KeysFault, OutFault, NoMemory}
use Rattle.mutt_run.specs.declared.status.Status.TheVariants.{Empty}
use Rattle.mutt_run.specs.declared.status.Status.TheVariants.{TooManyKeys}

-- files of commands were read, a folder was opened in which these messages stood, and then keys
-- were pressed, which may have come to further files
pub record IsOpened (came : List Listed) (keys events : List Happening) : Type 0 where
  pub files : List Happening
  pub path : List ℕ
  pub kind : Kind
  pub moment : ℤ
  pub marks : Marks
  pub are_files : AreFiles files
  pub are_acts : AreActs keys
  pub events_are : events ≡ files ++ FolderOpened path kind moment came marks ∷ keys

-- files of commands were read, and then a folder was not opened for this cause
pub record IsRefused (why : OpenFault) (events : List Happening) : Type 0 where
  pub files : List Happening
  pub path : List ℕ
  pub marks : Marks
  pub are_files : AreFiles files
  pub events_are : events ≡ files ++ FolderRefused path why marks ∷ []

-- The folder is shown: it was opened, and an empty one may be shown. Its keys end so.
pub record EndsShown (given : Given) (o : PlainOptions) (start : ℤ) (status : Status)
    (events : List Happening) (old new : Option (List ℕ)) : Type 0 where
  pub came : List Listed
  pub keys : List Happening
  pub opened : IsOpened came keys events
  pub full : o.skip_empty ≡ true → came ≡ [] → ⊥
  pub reader : PlainReader
  pub takes : TakesKeys (pressed_keys events) reader old new
  pub ends : EndsKeys status (after_events given (first_of o start) events).turn.stage reader new

-- how a run is done
abbrev pub EndsDone : Given → Task → PlainOptions → ℤ → List Happening → Option (List ℕ)
    → Option (List ℕ) → Type 0
EndsDone given TellVersion o start events old new = events ≡ []
EndsDone given (TellValues names) o start events old new =
    AreFiles events × ((after_events given (first_of o start) events).turn.core.frames ≡ [])
EndsDone given ReadFolder o start events old new = EndsShown given o start Done events old new

-- how the events of a run with this status end, and what is left of the keys
abbrev pub EndsAs : Given → PlainOptions → ℤ → Status → List Happening → Option (List ℕ)
    → Option (List ℕ) → Type 0
EndsAs given o start Done events old new = EndsDone given (task_of o) o start events old new
EndsAs given o start (Usage word) events old new = events ≡ []
EndsAs given o start (NotOpened why) events old new =
    (task_of o ≡ ReadFolder) × IsStated why × IsRefused why events
EndsAs given o start DiskFault events old new =
    (task_of o ≡ ReadFolder) × IsRefused (Folder Fault) events
EndsAs given o start KeysFault events old new =
    (task_of o ≡ ReadFolder) × EndsShown given o start KeysFault events old new
EndsAs given o start OutFault events old new = Unit {0}
EndsAs given o start NoMemory events old new = Unit {0}
EndsAs given o start Empty events old new =
    (task_of o ≡ ReadFolder) × (o.skip_empty ≡ true) × IsOpened [] [] events
EndsAs given o start TooManyKeys events old new =
    (task_of o ≡ ReadFolder) × EndsShown given o start TooManyKeys events old new

-- the status of words that are no command line
abbrev pub IsUsage : List ℕ → Status → Type 0
IsUsage word (Usage faulty) = faulty.items ≡ word
IsUsage word OutFault = Unit {0}
IsUsage word NoMemory = Unit {0}
IsUsage word status = ⊥

-- the status of words that are one
abbrev pub IsNoUsage : Status → Type 0
IsNoUsage (Usage faulty) = ⊥
IsNoUsage status = Unit {0}

-- the words decide whether the run ends for them
abbrev pub IsChosen : Result PlainOptions (List ℕ) → Status → Type 0
IsChosen (Ok o) status = IsNoUsage status
IsChosen (Err word) status = IsUsage word status
