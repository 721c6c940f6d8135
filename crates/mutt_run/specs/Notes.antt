-- What is told on the fault stream and by the exit status.
use Rattle.std.specs.Prelude.{◌≡◌, ◌⊎◌, ℕ, List, [], ◌∷◌, ◌++◌, codes, Option}
use Rattle.std.specs.Io.KnownBytes.{Appends}
use Rattle.mail_base.specs.Streams.{Sent}
use Rattle.session_events.specs.Causes.{scan_cause}
use Rattle.session_events.specs.Events.{Happening, FolderOpened}
use Rattle.session_events.specs.Events.{FolderRefused}
use Rattle.session_events.specs.declared.event.OpenFault.{OpenFault}
use Rattle.session_events.specs.declared.event.OpenFault.TheVariants.{Taken, NoDriver, Folder}
use Rattle.mutt_run.specs.Screens.{printed_lines}
use Rattle.mutt_run.specs.declared.status.Status.{Status}
use Rattle.mutt_run.specs.declared.status.Status.TheVariants.{Done, Usage, NotOpened, DiskFault}
use Rattle.mutt_run.specs.declared.status.Status.TheVariants.{KeysFault, OutFault, Empty}
use Rattle.mutt_run.specs.declared.status.Status.TheVariants.{NoMemory as WantOfMemory}
use Rattle.mutt_run.specs.declared.status.Status.TheVariants.{TooManyKeys}

-- why a folder was not opened
abbrev pub cause : OpenFault → List ℕ
cause Taken = codes "already there"
cause (NoDriver kind) = codes "no driver"
cause (Folder why) = scan_cause why

-- a line of the fault stream
abbrev pub line_of : List ℕ → List ℕ
line_of text = codes "mutt_main: " ++ text ++ 10 ∷ []

-- the path of the first folder that was looked for
abbrev pub folder_in : List Happening → List ℕ
folder_in [] = []
folder_in (FolderOpened path kind moment came marks ∷ events) = path
folder_in (FolderRefused path why marks ∷ events) = path
folder_in (_ ∷ events) = folder_in events

-- what an end of a run tells, where this folder was looked for
abbrev pub note : List ℕ → Status → List ℕ
note path Done = []
note path (Usage word) = line_of (codes "usage: " ++ word.items)
note path (NotOpened why) = line_of (path ++ codes ": " ++ cause why)
note path DiskFault = line_of (codes "disk fault")
note path KeysFault = line_of (codes "keys fault")
note path OutFault = []
note path WantOfMemory = []
note path Empty = line_of (path ++ codes ": empty")
note path TooManyKeys = line_of (codes "too many keys")

-- the exit status of the program
abbrev pub exit_status : Status → ℕ
exit_status Done = 0
exit_status (Usage word) = 1
exit_status (NotOpened why) = 2
exit_status DiskFault = 3
exit_status KeysFault = 4
exit_status OutFault = 5
exit_status WantOfMemory = 6
exit_status Empty = 7
exit_status TooManyKeys = 8

-- For the code alone: the line of an end was told, or its front where the fault stream failed.
abbrev pub TellsEnd : List ℕ → Status → Status → Option (List ℕ) → Option (List ℕ) → Type 0
TellsEnd path status OutFault old new = (rest : List ℕ) × Sent old new (note path status) rest
TellsEnd path status WantOfMemory old new = Appends old new []
TellsEnd path status result old new = (result ≡ status) × Appends old new (note path status)

-- the lines of faulty commands, and then that of the end
abbrev pub told_text : List (List ℕ) → List ℕ → Status → List ℕ
told_text notes path status = printed_lines notes ++ note path status

-- What a status tells with which the run could end was told, all of it where the fault stream did
-- not fail; then another stream did.
pub record BegunNote (IsEnd : Status → Type 0) (Rises : Type 0) (notes : List (List ℕ))
    (path : List ℕ) (old new : Option (List ℕ)) : Type 0 where
  pub status : Status
  pub ended : IsEnd status
  pub rest : List ℕ
  pub sent : Sent old new (told_text notes path status) rest
  pub cause : ((status ≡ OutFault) × (rest ≡ [])) ⊎ Rises

-- All is told; where a stream failed its front may be there, and for want of memory a front of the
-- lines of faulty commands.
abbrev pub Tells : (Status → Type 0) → Type 0 → List (List ℕ) → List ℕ → Status
    → Option (List ℕ) → Option (List ℕ) → Type 0
Tells IsEnd Rises notes path OutFault old new = BegunNote IsEnd Rises notes path old new
Tells IsEnd Rises notes path WantOfMemory old new =
    (rest : List ℕ) × Sent old new (printed_lines notes) rest
Tells IsEnd Rises notes path status old new = Appends old new (told_text notes path status)
