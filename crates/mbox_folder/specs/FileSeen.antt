-- What the looks of a scan at a mailbox have seen.
use Rattle.std.specs.Prelude.{◌≡◌, ◌≤◌, ◌==◌, ◌&&◌, ℕ, Bool, false, not, List, [], ◌∷◌, Option}
use Rattle.std.specs.Prelude.{Some, None, Result, Ok, Err, IfOk, IfErr, IfNone, IsErrOf, length}
use Rattle.std.specs.Prelude.{nat_lt, option_and_then}
use Rattle.mail_base.specs.Faults.{Rose}
use Rattle.disk_model.specs.Judge.{GoesOn}
use Rattle.disk_model.specs.Looking.{OnlyLooks}
use Rattle.disk_model.specs.Seen.{Seen}
use Rattle.disk_model.specs.Tree.{TreeNode, node_at}
use Rattle.disk_model.specs.Journal.{Past, NoForeign}
use Rattle.disk_model.specs.State.{tree_at, tree_after}
use Rattle.disk_model.specs.declared.answers.FileRead.{FileRead}
use Rattle.disk_model.specs.declared.answers.Stat.{Stat}
use Rattle.folder_core.specs.Bore.{Bore, IfTold}
use Rattle.folder_core.specs.Costs.{RaisesAtMost}
use Rattle.folder_core.specs.Directory.{node_file}
use Rattle.folder_core.specs.FirstLook.{TellsMissing}
use Rattle.folder_core.specs.Keeping.{ListedMail}
use Rattle.folder_core.specs.Known.{KnownFolder}
use Rattle.folder_core.specs.Limits.{most_bytes}
use Rattle.folder_core.specs.declared.error.ScanError.{ScanError}
use Rattle.folder_core.specs.declared.error.ScanError.TheVariants.{Missing, NotMailbox, TooMany}
use Rattle.folder_core.specs.declared.error.ScanError.TheVariants.{TooLarge, Unfinished}
use Rattle.folder_core.specs.declared.error.ScanError.TheVariants.{ArchiveFull, Fault, NoMemory}
use Rattle.folder_core.specs.Mbox.{ReadsIfChanged, mbox_refusal, mbox_refused, stamps_of}
use Rattle.folder_letters.specs.Letters.{Mail}

-- a file of these bytes with these stamps stands there, of a length that is allowed
pub record IsFile (bytes stamps : List ℕ) (there : Option TreeNode) : Type 0 where
  pub content : option_and_then node_file there ≡ Some bytes
  pub stamp : stamps_of there ≡ stamps
  pub few : nat_lt most_bytes (length bytes) ≡ false

-- the file is what stands there, or the refusal is that of what stands there
abbrev pub IsRead : Result FileRead ScanError → Option TreeNode → Type 0
IsRead (Ok file) there = IsFile file.bytes.items (file.stat.stamp ∷ []) there
IsRead (Err Missing) there = there ≡ None
IsRead (Err Fault) there = Unit {0}
IsRead (Err NoMemory) there = Unit {0}
IsRead (Err why) there =
    (letters : ℕ) (old : List ListedMail) → mbox_refusal letters old there ≡ Some why

-- so it was there at one mark between these two pasts, and where no others acted between them the
-- tree is the one of now
pub record SeenThere (IsSo : Option TreeNode → Type 0) (path : List ℕ) (old new : Past) : Type 0
  where
    pub mark : ℕ
    pub from : length old.journal ≤ mark
    pub to : mark ≤ length new.journal
    pub is : IsSo (node_at (tree_at new mark) path)
    pub alone : NoForeign old new → tree_at new mark ≡ tree_after new

-- what one whole read has seen
abbrev pub FileSeen : Result FileRead ScanError → List ℕ → Past → Past → Type 0
FileSeen result path old new = SeenThere (IsRead result) path old new

-- a read changes nothing, a fault was counted, and no more bytes are read than a folder may have
pub record MeetsFile {A : Type 0} (result : Result A ScanError) (old new : Seen) : Type 0 where
  pub only : OnlyLooks old new
  pub cause : IsErrOf result Fault → Rose old.faults new.faults
  pub within : RaisesAtMost old.bytes_read new.bytes_read most_bytes

-- an error that a read of the file may have
abbrev pub IsFileError : ScanError → Type 0
IsFileError Missing = Unit {0}
IsFileError (NotMailbox place) = place ≡ 0
IsFileError (TooLarge size) = Unit {0}
IsFileError Fault = Unit {0}
IsFileError NoMemory = Unit {0}
IsFileError (TooMany count) = ⊥
IsFileError Unfinished = ⊥
IsFileError ArchiveFull = ⊥

-- an answer that a read of the file may have: the bytes are no more than may be read
abbrev pub IsFileAnswer : Result FileRead ScanError → Type 0
IsFileAnswer (Ok file) = nat_lt most_bytes (length file.bytes.items) ≡ false
IsFileAnswer (Err why) = IsFileError why

-- The same of a file that is read only where it is not as it is known.

-- the stamp that is kept of a file, where it is one
abbrev pub kept_stamp : List ℕ → Option ℕ
kept_stamp (stamp ∷ []) = Some stamp
kept_stamp stamps = None

-- what `stat` tells is what is known
abbrev pub is_as_known : ℕ → ℕ → Stat → Bool
is_as_known size stamp stat = not stat.folder && (stat.length == size && stat.stamp == stamp)

-- why a file is not read that a first look has found
abbrev pub behind_look : ScanError → ScanError
behind_look Missing = NotMailbox 0
behind_look why = why

-- what is known of a file was so once
pub record WasSo (known : KnownFolder) (told : Option Past) : Type 0 where
  pub few : nat_lt most_bytes (length known.bytes) ≡ false
  pub bore : (stamp : ℕ) → known.stamps ≡ stamp ∷ [] → IfTold (Bore known.bytes stamp) told

-- the bytes that stand in the file: what was read, or what is known
abbrev pub bytes_now : KnownFolder → Option FileRead → List ℕ
bytes_now known None = known.bytes
bytes_now known (Some file) = file.bytes.items

-- the stamps of the file
abbrev pub stamps_now : KnownFolder → Option FileRead → List ℕ
stamps_now known None = known.stamps
stamps_now known (Some file) = file.stat.stamp ∷ []

-- the file stands there, or the refusal is that of what stood there
abbrev pub ChangeSeen : KnownFolder → Result (Option FileRead) ScanError → Past → Past → Type 0
ChangeSeen known (Ok file) old new =
    SeenThere (IsFile (bytes_now known file) (stamps_now known file)) known.path old new
ChangeSeen known (Err why) old new =
    (mails : List Mail) → mbox_refused mails known why (length old.journal) (length new.journal) new

-- What is told of a file of which this is known, and what that costs.
pub record TellsChange (known : KnownFolder) (result : Result (Option FileRead) ScanError)
    (old new : Seen) : Type 0 where
  pub saw : GoesOn (ChangeSeen known result) old.told new.told
  pub few : IfOk result (λ file. nat_lt most_bytes (length (bytes_now known file)) ≡ false)
  pub kept : IfOk result (λ file. IfNone file ((stamp : ℕ) × (known.stamps ≡ stamp ∷ [])))
  pub first : GoesOn (TellsMissing result known.path) old.told new.told
  pub costs : IfOk result (λ file. ReadsIfChanged known old new)
  pub possible : IfErr result IsFileError
  pub meets : MeetsFile result old new
