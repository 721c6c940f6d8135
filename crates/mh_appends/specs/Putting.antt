-- What the calls have done that put a message under its number, as far as the first that was
-- refused.
use Rattle.std.specs.Prelude.{◌≡◌, ◌⊎◌, ℕ, List, Option, Result, Ok, Err}
use Rattle.std.specs.String.{string_bytes}
use Rattle.mail_base.specs.declared.flags.Flags.{Flags}
use Rattle.disk_model.specs.Journal.{Create, Past, Rename, SyncDir}
use Rattle.disk_model.specs.declared.answers.DiskError.{DiskError}
use Rattle.disk_model.specs.declared.answers.DiskError.TheVariants.{Exists}
use Rattle.folder_changes.specs.Refused.{refused_by}
use Rattle.folder_changes.specs.Serving.{IsErrorAt}
use Rattle.folder_changes.specs.declared.sync_error.SyncError.{SyncError}
use Rattle.folder_changes.specs.declared.sync_error.SyncError.TheVariants.{NoMemory}
use Rattle.folder_drivers.specs.MhAppend.{PutsNumber, sequences_with}
use Rattle.folder_stops.specs.Along.{Grown}
use Rattle.mh_appends.specs.Replacing.{FailsReplacing, FailsWriting, FoundFile, NotRead, Replaced}
use Rattle.mh_appends.specs.Replacing.{WasDone, WasNotDone, WroteFile}
use Rattle.mh_appends.specs.declared.places.Places.{Places}

-- The sequences.

-- The sequences were read, and new ones with the flags of the number were put in their place.
pub record PutSequences (places : Places) (flags : Flags) (old new : Option Past) : Type 0 where
  pub read : Option Past
  pub bytes : List ℕ
  pub reads : FoundFile (string_bytes places.sequences) bytes old read
  pub replaces : Replaced (string_bytes places.side) (string_bytes places.sequences)
      (sequences_with places.number flags bytes) read new

-- They could not be read.
pub record Unread (places : Places) (told : SyncError) (old new : Option Past) : Type 0 where
  pub why : DiskError
  pub is : told ≡ refused_by why
  pub fails : NotRead (string_bytes places.sequences) why old new

-- They were read, and memory ran out.
pub record OnlyRead (places : Places) (told : SyncError) (old new : Option Past) : Type 0 where
  pub is : told ≡ NoMemory
  pub bytes : List ℕ
  pub reads : FoundFile (string_bytes places.sequences) bytes old new

-- They were read, and new ones were not put in their place.
pub record NotReplaced (places : Places) (flags : Flags) (told : SyncError)
    (old new : Option Past) : Type 0 where
  pub read : Option Past
  pub bytes : List ℕ
  pub reads : FoundFile (string_bytes places.sequences) bytes old read
  pub why : DiskError
  pub is : told ≡ refused_by why
  pub fails : FailsReplacing (string_bytes places.side) (string_bytes places.sequences)
      (sequences_with places.number flags bytes) why read new

-- the sequences are as they were
abbrev pub FailsSequences : Places → Flags → SyncError → Option Past → Option Past → Type 0
FailsSequences places flags told old new = Unread places told old new
    ⊎ (OnlyRead places told old new ⊎ NotReplaced places flags told old new)

-- new sequences were put in place, or not
abbrev pub PutsSequences : Places → Flags → Result (Unit {0}) SyncError → Option Past → Option Past
    → Type 0
PutsSequences places flags (Ok done) old new = PutSequences places flags old new
PutsSequences places flags (Err why) old new = FailsSequences places flags why old new

-- The message.

-- The message got its name, and the names were kept.
pub record NamedMessage (path : List ℕ) (places : Places) (old new : Option Past) : Type 0 where
  pub renamed : Option Past
  pub renames : WasDone (Rename (string_bytes places.beside) (string_bytes places.held)) old renamed
  pub keeps : WasDone (SyncDir path) renamed new

-- It got its name, but the names were not kept.
pub record NotKept (path : List ℕ) (places : Places) (why : DiskError) (old new : Option Past)
    : Type 0 where
  pub renamed : Option Past
  pub renames : WasDone (Rename (string_bytes places.beside) (string_bytes places.held)) old renamed
  pub fails : WasNotDone why (SyncDir path) renamed new

-- one of the two calls was refused
abbrev pub FailsNaming : List ℕ → Places → DiskError → Option Past → Option Past → Type 0
FailsNaming path places why old new =
    WasNotDone why (Rename (string_bytes places.beside) (string_bytes places.held)) old new
    ⊎ NotKept path places why old new

-- the message got its name, or not
abbrev pub NamesMessage : List ℕ → Places → Result (Unit {0}) DiskError → Option Past → Option Past
    → Type 0
NamesMessage path places (Ok done) old new = NamedMessage path places old new
NamesMessage path places (Err why) old new = FailsNaming path places why old new

-- All of it.

-- The message was written, the sequences were put in place, and it got its name.
pub record Filled (path : List ℕ) (places : Places) (flags : Flags) (core : List ℕ)
    (old new : Option Past) : Type 0 where
  pub wrote : Option Past
  pub put : Option Past
  pub writes : WroteFile (string_bytes places.beside) core old wrote
  pub puts : PutSequences places flags wrote put
  pub names : NamedMessage path places put new

-- It was not written.
pub record NoMessage (places : Places) (core : List ℕ) (told : SyncError) (old new : Option Past)
    : Type 0 where
  pub why : DiskError
  pub is : told ≡ refused_by why
  pub fails : FailsWriting (string_bytes places.beside) core why old new

-- It was written, and the sequences were not put in place.
pub record NoSequences (places : Places) (flags : Flags) (core : List ℕ) (told : SyncError)
    (old new : Option Past) : Type 0 where
  pub wrote : Option Past
  pub writes : WroteFile (string_bytes places.beside) core old wrote
  pub fails : FailsSequences places flags told wrote new

-- They were, and it did not get its name for good.
pub record NoName (path : List ℕ) (places : Places) (flags : Flags) (core : List ℕ)
    (told : SyncError) (old new : Option Past) : Type 0 where
  pub wrote : Option Past
  pub put : Option Past
  pub writes : WroteFile (string_bytes places.beside) core old wrote
  pub puts : PutSequences places flags wrote put
  pub why : DiskError
  pub is : told ≡ refused_by why
  pub fails : FailsNaming path places why put new

-- one of the calls was refused
abbrev pub FailsFilling : List ℕ → Places → Flags → List ℕ → SyncError → Option Past → Option Past
    → Type 0
FailsFilling path places flags core told old new = NoMessage places core told old new
    ⊎ (NoSequences places flags core told old new ⊎ NoName path places flags core told old new)

-- the message whose number is held was written and put there, or not
abbrev pub Fills : List ℕ → Places → Flags → List ℕ → Result (Unit {0}) SyncError → Option Past
    → Option Past → Type 0
Fills path places flags core (Ok done) old new = Filled path places flags core old new
Fills path places flags core (Err why) old new = FailsFilling path places flags core why old new

-- Something stood where the number was to be held.
pub record InWay (places : Places) (told : SyncError) (old new : Option Past) : Type 0 where
  pub at : IsErrorAt (string_bytes places.held) told
  pub fails : WasNotDone Exists (Create (string_bytes places.held)) old new

-- The number was not held.
pub record NotHeld (places : Places) (told : SyncError) (old new : Option Past) : Type 0 where
  pub why : DiskError
  pub is : told ≡ refused_by why
  pub fails : WasNotDone why (Create (string_bytes places.held)) old new

-- It was, but the message was not put there.
pub record OnlyHeld (path : List ℕ) (places : Places) (flags : Flags) (core : List ℕ)
    (told : SyncError) (old new : Option Past) : Type 0 where
  pub held : Option Past
  pub holds : WasDone (Create (string_bytes places.held)) old held
  pub fails : FailsFilling path places flags core told held new

-- the message was not put under its number
abbrev pub FailsPut : List ℕ → Places → Flags → List ℕ → SyncError → Option Past → Option Past
    → Type 0
FailsPut path places flags core told old new = InWay places told old new
    ⊎ (NotHeld places told old new ⊎ OnlyHeld path places flags core told old new)

-- The past went on by the calls that put a message under its number.
pub record PutsMessage (path : List ℕ) (number : ℕ) (core : List ℕ) (flags : Flags)
    (old new : Option Past) : Type 0 where
  pub grown : Grown old new (PutsNumber path number core flags)
