-- Why a recovery answered as it did, by what its calls met.
use Rattle.std.specs.Prelude.{◌≡◌, ◌⊎◌, ◌+◌, ◌<◌, ◌≤◌, ◌^◌, ℕ, Bool, false, true, not, List, []}
use Rattle.std.specs.Prelude.{◌∷◌, Option, None, Some, Result, IfErr, IfOk, IsErrOf, OnOk, drop}
use Rattle.std.specs.Prelude.{length, take, is_some, nat_lt}
use Rattle.std.specs.Str.{bytes_eq}
use Rattle.disk_model.specs.Journal.{Answer, Call, Create, Cut, Done, Entry, Own, Past, ReadAll}
use Rattle.disk_model.specs.Journal.{Refused, Remove, StatPath, Sync, SyncDir, WriteAt}
use Rattle.disk_model.specs.Judge.{GoesOn}
use Rattle.disk_model.specs.Refusals.{refusal}
use Rattle.disk_model.specs.State.{tree_at}
use Rattle.disk_model.specs.Tree.{TreeNode, folder_of, node_at}
use Rattle.disk_model.specs.declared.answers.DiskError.{DiskError}
use Rattle.disk_model.specs.declared.answers.DiskError.TheVariants.{Fault, Long, Missing}
use Rattle.disk_model.specs.declared.answers.DiskError.TheVariants.{NoMemory, WrongNode}
use Rattle.folder_core.specs.Directory.{file_at}
use Rattle.folder_core.specs.FirstLook.{has_failed}
use Rattle.folder_core.specs.declared.error.ScanError.{ScanError}
use Rattle.folder_core.specs.declared.error.ScanError.TheVariants.{Missing as ScanMissing}
use Rattle.folder_core.specs.declared.error.ScanError.TheVariants.{Unfinished}
use Rattle.folder_tails.specs.Sides.{IsSide, lock_of, tail_of}
use Rattle.folder_tails.specs.Tails.{is_owners, line_of, read_tail}
use Rattle.folder_tails.specs.Taking.{MissesTail}
use Rattle.folder_tails.specs.Traces.{MeetsTail}

-- A call of ours stands at a mark between the ends of two journals, and this is so of it, with its
-- answer, and of the tree that it met.
pub record SeenAt (Is : Entry → List TreeNode → Type 0) (old new : Past) : Type 0 where
  pub mark : ℕ
  pub from : length old.journal ≤ mark
  pub to : mark < length new.journal
  pub call : Call
  pub answer : Answer
  pub own : take 1 (drop mark new.journal) ≡ Own call answer ∷ []
  pub is : Is (Own call answer) (tree_at new mark)

-- The same where the past is told.
pub record WasSeen (Is : Entry → List TreeNode → Type 0) (old new : Option Past) : Type 0 where
  pub goes : GoesOn (SeenAt Is) old new

-- It was seen at the last mark: that call is the last entry of the journal.
pub record SeenLast (Is : Entry → List TreeNode → Type 0) (old new : Past) : Type 0 where
  pub seen : SeenAt Is old new
  pub last : seen.mark + 1 ≡ length new.journal

-- The same where the past is told.
pub record WasLast (Is : Entry → List TreeNode → Type 0) (old new : Option Past) : Type 0 where
  pub goes : GoesOn (SeenLast Is) old new

-- Whose the lock was.

-- a file stands there, and its bytes pass a test
abbrev pub passes : (List ℕ → Bool) → Option (List ℕ) → Bool
passes test None = false
passes test (Some bytes) = test bytes

-- the lock is a file that holds the line of an owner with a name
abbrev pub is_owned : List ℕ → List ℕ → List TreeNode → Bool
is_owned path owner tree = passes (is_owners owner) (file_at tree (lock_of path))

-- we looked into the lock for a line, and the disk did not fail
abbrev pub ReadsFor : List ℕ → List ℕ → Entry → Type 0
ReadsFor path line entry =
    (answer : Answer) × (entry ≡ Own (ReadAll (lock_of path) (length line)) answer)
    × (has_failed answer ≡ false)

-- a look of ours at the lock met the owner's line
abbrev pub Owned : List ℕ → List ℕ → Entry → List TreeNode → Type 0
Owned path owner entry tree =
    ReadsFor path (line_of owner) entry × (is_owned path owner tree ≡ true)

-- a look of ours at the lock met nothing, a folder or another line
abbrev pub NotOwned : List ℕ → List ℕ → Entry → List TreeNode → Type 0
NotOwned path owner entry tree =
    ReadsFor path (line_of owner) entry × (is_owned path owner tree ≡ false)

-- the lock was not held, and the owner has no name, or a look of ours at the lock met nothing, a
-- folder or another line
abbrev pub IsNotOurs : List ℕ → List ℕ → Bool → Option Past → Option Past → Type 0
IsNotOurs path owner held old new =
    (held ≡ false) × ((owner ≡ []) ⊎ WasSeen (NotOwned path owner) old new)

-- What stood at the tail file.

-- a look of ours at the tail file met something there
abbrev pub HadTail : List ℕ → Entry → List TreeNode → Type 0
HadTail path entry tree = (entry ≡ Own (StatPath (tail_of path)) Done)
    × (is_some (node_at tree (tail_of path)) ≡ true)

-- a look of ours at the tail file met nothing there
abbrev pub HadNothing : List ℕ → Entry → List TreeNode → Type 0
HadNothing path entry tree = (entry ≡ Own (StatPath (tail_of path)) (Refused Missing 0))
    × (node_at tree (tail_of path) ≡ None)

-- the offset and the bytes of a tail file end within 64 bits
abbrev pub fits : Option (ℕ × List ℕ) → Bool
fits None = false
fits (Some said) = nat_lt (said.0 + length said.1) (2 ^ 64)

-- a tail file of these bytes is none that we could have written: they are no text of the form, or
-- their end is past 64 bits
abbrev pub is_unfit : List ℕ → Bool
is_unfit text = not (fits (read_tail text))

-- we read the tail file, and its bytes were such
abbrev pub HadUnfit : List ℕ → Entry → List TreeNode → Type 0
HadUnfit path entry tree =
    ((limit : ℕ) × (entry ≡ Own (ReadAll (tail_of path) limit) Done))
    × (passes is_unfit (file_at tree (tail_of path)) ≡ true)

-- What was refused.

-- a call of a recovery: on the mailbox, on a name beside it, or on their folder
abbrev pub IsAround : List ℕ → Call → Type 0
IsAround path (StatPath at) = (at ≡ path) ⊎ (at ≡ tail_of path)
IsAround path (ReadAll at limit) = (at ≡ lock_of path) ⊎ (at ≡ tail_of path)
IsAround path (WriteAt at place piece) = at ≡ path
IsAround path (Cut at size) = at ≡ path
IsAround path (Sync at) = at ≡ path
IsAround path (Remove at) = IsSide path at
IsAround path (SyncDir dir) = dir ≡ folder_of path
IsAround path call = ⊥

-- such a call of ours was refused, as the tree that it met refuses it
abbrev pub WasAround : List ℕ → Entry → List TreeNode → Type 0
WasAround path entry tree = (call : Call) × (why : DiskError) × (entry ≡ Own call (Refused why 0))
    × IsAround path call × (refusal call tree ≡ Some why)

-- Why a recovery answered so.

-- the tree refused the last call, or that read a tail file that we could not have written
abbrev pub WasStopped : List ℕ → Option Past → Option Past → Type 0
WasStopped path old new = WasLast (WasAround path) old new ⊎ WasLast (HadUnfit path) old new

-- A look of ours met something at the tail file, and the lock was not the owner's: he has no name,
-- or an earlier look of ours at the lock met nothing, a folder or another line.
pub record MetForeign (path owner : List ℕ) (old new : Past) : Type 0 where
  pub tail : SeenAt (HadTail path) old new
  pub lock : (owner ≡ []) ⊎ ((look : SeenAt (NotOwned path owner) old new)
      × (look.mark < tail.mark))

-- the lock was not held, and a tail file was met under one that is not the owner's
abbrev pub IsForeignTail : List ℕ → List ℕ → Bool → Option Past → Option Past → Type 0
IsForeignTail path owner held old new =
    (held ≡ false) × GoesOn (MetForeign path owner) old new

-- the lock was held, or a look of ours met the owner's line in it, or nothing at the tail file
abbrev pub MayFinish : List ℕ → List ℕ → Bool → Option Past → Option Past → Type 0
MayFinish path owner held old new = (held ≡ true)
    ⊎ (WasSeen (Owned path owner) old new ⊎ WasSeen (HadNothing path) old new)

-- Why a lock was given back.

-- we made the lock
abbrev pub MadeLock : List ℕ → Entry → List TreeNode → Type 0
MadeLock path entry tree = entry ≡ Own (Create (lock_of path)) Done

-- A look of ours met something at the tail file, under a lock that we had made.
pub record MetUnder (path : List ℕ) (old new : Past) : Type 0 where
  pub made : SeenAt (MadeLock path) old new
  pub tail : SeenAt (HadTail path) old new
  pub behind : made.mark < tail.mark

-- the same where the past is told
abbrev pub IsTailUnder : List ℕ → Option Past → Option Past → Type 0
IsTailUnder path old new = GoesOn (MetUnder path) old new

-- For the code alone.

-- the disk refused a call for what stands in its tree
abbrev pub IsOfTree : DiskError → Type 0
IsOfTree Fault = ⊥
IsOfTree NoMemory = ⊥
IsOfTree why = Unit {0}

-- where it was so refused, this tells why
abbrev pub TellsWhy : {A : Type 0} → Result A DiskError → Type 0 → Type 0
TellsWhy result P = IfErr result (λ why. IsOfTree why → P)

-- where the tree refused a call of ours, it is the last one
abbrev pub TellsAround : {A : Type 0} → List ℕ → Result A DiskError → Option Past → Option Past
    → Type 0
TellsAround path result old new = TellsWhy result (WasLast (WasAround path) old new)

-- these bytes of a tail file are none that we could have written, and nothing was called
abbrev pub LeavesUnfit : List ℕ → Option Past → Option Past → Type 0
LeavesUnfit text old new = (is_unfit text ≡ true) × (new ≡ old)

-- where the tree refused a call of ours, it is the last one, if the text is one that fits
abbrev pub TellsFit : {A : Type 0} → List ℕ → List ℕ → Result A DiskError → Option Past
    → Option Past → Type 0
TellsFit path text result old new =
    TellsWhy result (LeavesUnfit text old new ⊎ WasLast (WasAround path) old new)

-- no file of so few bytes was there to be read
abbrev pub is_absence : DiskError → Bool
is_absence Missing = true
is_absence WrongNode = true
is_absence (Long size) = true
is_absence why = false

-- we looked into the lock for a line, and it was there or not
abbrev pub HadLine : List ℕ → List ℕ → Bool → Entry → List TreeNode → Type 0
HadLine path line found entry tree = ReadsFor path line entry
    × (passes (λ bytes. bytes_eq bytes line) (file_at tree (lock_of path)) ≡ found)

-- What a look for a line in the lock told.
pub record TellsLine (path line : List ℕ) (result : Result Bool DiskError)
    (old new : Option Past) : Type 0 where
  pub saw : IfOk result (λ found. WasSeen (HadLine path line found) old new)
  pub why : TellsAround path result old new

-- the lock was held, or is known to be the owner's
abbrev pub IsOurs : List ℕ → List ℕ → Bool → Option Past → Option Past → Type 0
IsOurs path owner held old new = (held ≡ true) ⊎ WasSeen (Owned path owner) old new

-- What was told of whose the lock is.
pub record TellsLock (path owner : List ℕ) (held : Bool) (result : Result Bool DiskError)
    (old new : Option Past) : Type 0 where
  pub ours : IfOk result (λ found. found ≡ true → IsOurs path owner held old new)
  pub not_ours : IfOk result (λ found. found ≡ false → IsNotOurs path owner held old new)
  pub why : TellsAround path result old new

-- a look of ours met something at the tail file, and so it stands in the journal
abbrev pub MetTail : List ℕ → Option Past → Option Past → Type 0
MetTail path old new = MeetsTail path old new × WasSeen (HadTail path) old new

-- What a look at the tail file told.
pub record TellsTail (path : List ℕ) (result : Result Bool DiskError) (old new : Option Past)
    : Type 0 where
  pub missed : IfOk result (λ found. found ≡ false → MissesTail path old new)
  pub met : IfOk result (λ found. found ≡ true → MeetsTail path old new)
  pub had : IfOk result (λ found. found ≡ true → WasSeen (HadTail path) old new)
  pub why : TellsAround path result old new

-- Why a recovery under a lock that is not the owner's answered so.
pub record LeavesForeign (path : List ℕ) (result : Result (Unit {0}) ScanError)
    (old new : Option Past) : Type 0 where
  pub missing : IsErrOf result ScanMissing → WasLast (WasAround path) old new
  pub unfinished : IsErrOf result Unfinished → WasSeen (HadTail path) old new
  pub done : OnOk result (WasSeen (HadNothing path) old new)

-- Why a recovery answered so.
pub record FinishesFor (path owner : List ℕ) (held : Bool) (result : Result (Unit {0}) ScanError)
    (old new : Option Past) : Type 0 where
  pub missing : IsErrOf result ScanMissing → WasStopped path old new
  pub unfinished : IsErrOf result Unfinished → IsForeignTail path owner held old new
  pub done : OnOk result (MayFinish path owner held old new)
