-- Runs with nothing in their way: these are done, or stop for memory or at the limit of keys.
use Rattle.std.specs.Prelude.{ℕ, ℤ, List, [], ◌∷◌, length, Option, Some, None, Result, Ok, Err}
use Rattle.mail_base.specs.declared.kind.Kind.{Kind}
use Rattle.disk_model.specs.Journal.{Past}
use Rattle.folder_core.specs.declared.error.ScanError.{ScanError}
use Rattle.folder_core.specs.Kinds.{KindSeen}
use Rattle.mutt_words.specs.Options.{PlainOptions}
use Rattle.session.specs.Beginning.{IsStated}
use Rattle.session_events.specs.Events.{Happening}
use Rattle.session_events.specs.Events.{FolderRefused}
use Rattle.session.specs.Given.{Given}
use Rattle.session_events.specs.Happened.{WasNotListed, past_at}
use Rattle.session.specs.Telling.{kind_in}
use Rattle.session.specs.Runs.{State, after}
use Rattle.session_events.specs.declared.event.Marks.{Marks}
use Rattle.session_events.specs.declared.event.OpenFault.TheVariants.{Folder}
use Rattle.mutt_run.specs.Choice.{first_of}
use Rattle.mutt_run.specs.declared.status.Status.{Status}
use Rattle.mutt_run.specs.declared.status.Status.TheVariants.{Done, Usage, NotOpened, DiskFault}
use Rattle.mutt_run.specs.declared.status.Status.TheVariants.{KeysFault, OutFault, NoMemory, Empty}
use Rattle.mutt_run.specs.declared.status.Status.TheVariants.{TooManyKeys}

-- From one mark to another no cause was seen for which an opening is refused: a folder stands at
-- the path, of a kind that has a driver, and nothing keeps a visit from recovering and listing it.
pub record IsReadable (Has : Kind → Type 0) (empty : Kind) (owner path : List ℕ) (old new : Past)
    : Type 0 where
  pub there : (why : ScanError) → IsStated (Folder why)
      → KindSeen (Err why) empty path old new → ⊥
  pub driver : (kind : Kind) → KindSeen (Ok kind) empty path old new → Has kind
  pub listed : (why : ScanError) → IsStated (Folder why)
      → WasNotListed Has empty owner path why old new → ⊥

-- while the folder was looked for, where the disk tells its past
abbrev pub WasReadable : (Kind → Type 0) → Kind → List ℕ → List ℕ → Marks → Option Past → Type 0
WasReadable Has empty owner path marks None = ⊥
WasReadable Has empty owner path marks (Some past) =
    IsReadable Has empty owner path (past_at past marks.mark_before)
    (past_at past marks.mark_after)

-- each folder that was looked for could be read
abbrev pub WereReadable : (Kind → Type 0) → Given → State → List Happening → Option Past → Type 0
WereReadable Has given s [] told = Unit {0}
WereReadable Has given s (FolderRefused path why marks ∷ events) told =
    WasReadable Has (kind_in s) s.owner path marks told
    × WereReadable Has given (after given s (FolderRefused path why marks)) events told
WereReadable Has given s (event ∷ events) told =
    WereReadable Has given (after given s event) events told

-- The words are a command line, and each folder that was looked for could be read, as the past
-- tells that a disk has at the end.
abbrev pub NamesReadable : (Kind → Type 0) → Given → Result PlainOptions (List ℕ) → ℤ
    → List Happening → Option Past → Type 0
NamesReadable Has given (Err word) start events told = ⊥
NamesReadable Has given (Ok o) start events told =
    WereReadable Has given (first_of o start) events told

-- the run is done, or what is empty is not shown, or memory or the limit of keys stopped it
abbrev pub IsPlainEnd : Status → Type 0
IsPlainEnd Done = Unit {0}
IsPlainEnd Empty = Unit {0}
IsPlainEnd TooManyKeys = Unit {0}
IsPlainEnd NoMemory = Unit {0}
IsPlainEnd (Usage word) = ⊥
IsPlainEnd (NotOpened why) = ⊥
IsPlainEnd DiskFault = ⊥
IsPlainEnd KeysFault = ⊥
IsPlainEnd OutFault = ⊥
