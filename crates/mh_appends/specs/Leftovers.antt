-- What becomes of files that a call which was stopped left over.
use Rattle.std.specs.Prelude.{◌≡◌, ◌≢◌, ◌≤◌, ◌⊎◌, [], ℕ, Bool, false, length, List, Option}
use Rattle.std.specs.Prelude.{Result, Ok, Err, codes}
use Rattle.disk_model.specs.Journal.{Answer, Call, ListDir, Past, Remove, StatPath}
use Rattle.disk_model.specs.Judge.{GoesOn}
use Rattle.disk_model.specs.State.{tree_at}
use Rattle.disk_model.specs.Tree.{TreeNode}
use Rattle.folder_drivers.specs.MaildirAppend.{is_there}
use Rattle.disk_model.specs.declared.answers.DiskError.{DiskError}
use Rattle.disk_model.specs.declared.answers.DiskError.TheVariants as disk
use Rattle.folder_core.specs.Directory.{path_in}
use Rattle.folder_core.specs.declared.error.ScanError.{ScanError}
use Rattle.folder_core.specs.declared.error.ScanError.TheVariants.{Fault, Missing, NoMemory}
use Rattle.folder_drivers.specs.MhNames.{append_path, new_sequences_path}
use Rattle.folder_drivers.specs.Preparing.{Prepares}
use Rattle.folder_drivers.specs.Recovered.{AreTaken, IsTaken, TakesSide}
use Rattle.folder_shapes.specs.Mh.{mh_files}
use Rattle.folder_stops.specs.Along.{Grown}
use Rattle.folder_stops.specs.Does.{AllOwn}
use Rattle.folder_stops.specs.Syncs.{Syncs}
use Rattle.mh_appends.specs.Replacing.{WasNotDone}

-- the name of a file that may be left over
abbrev pub IsLeftName : List ℕ → Type 0
IsLeftName name = (name ≡ codes ".mh_sequences.new") ⊎ (name ≡ codes ".mutt_append")

-- Our calls took away such files alone, the messages stay, and one of ours may begin behind it.
pub record TakesOver (path : List ℕ) (old new : Option Past) : Type 0 where
  pub prepares : Prepares (mh_files path) old new
  pub syncs : Syncs (mh_files path).shape (mh_files path).sides [] old new
  pub only : Grown old new (λ state entries. AllOwn (TakesSide path) entries)

-- This was not so of the tree at a mark between two pasts.
pub record MetNot (is_so : List TreeNode → Bool) (old new : Past) : Type 0 where
  pub mark : ℕ
  pub from : length old.journal ≤ mark
  pub to : mark ≤ length new.journal
  pub is : is_so (tree_at new mark) ≡ false

-- nothing stood at a path at some mark
abbrev pub MetNone : List ℕ → Option Past → Option Past → Type 0
MetNone at old new = GoesOn (MetNot (is_there at)) old new

-- One of them was taken away, or did not stand there.
pub record TakesOne (path name : List ℕ) (old new : Option Past) : Type 0 where
  pub grown : Grown old new (λ state entries. IsTaken (path_in path name) entries)
  pub only : Grown old new (λ state entries.
      AllOwn (λ call answer. call ≡ Remove (path_in path name)) entries)
  pub gone : MetNone (path_in path name) old new

-- Neither of the two stood there at some mark.
pub record Empties (path : List ℕ) (old new : Option Past) : Type 0 where
  pub side : MetNone (new_sequences_path path) old new
  pub append : MetNone (append_path path) old new

-- Both were taken away.
pub record TakesBoth (path : List ℕ) (old new : Option Past) : Type 0 where
  pub grown : Grown old new (λ state entries. AreTaken path entries)
  pub empties : Empties path old new

-- One of them was not taken away: that it does not stand there is no refusal.
pub record NotTaken (path name : List ℕ) (why : DiskError) (old new : Option Past) : Type 0 where
  pub other : why ≢ disk.Missing
  pub fails : WasNotDone why (Remove (path_in path name)) old new

-- The first was, and the other was not.
pub record OneNotTaken (path : List ℕ) (why : DiskError) (old new : Option Past) : Type 0 where
  pub mid : Option Past
  pub first : TakesOne path (codes ".mh_sequences.new") old mid
  pub fails : NotTaken path (codes ".mutt_append") why mid new

-- one of the two was not taken away
abbrev pub FailsTaking : List ℕ → DiskError → Option Past → Option Past → Type 0
FailsTaking path why old new =
    NotTaken path (codes ".mh_sequences.new") why old new ⊎ OneNotTaken path why old new

-- a file that is missing needs not be taken away
abbrev pub unless_missing : DiskError → Result (Unit {0}) DiskError
unless_missing disk.Missing = Ok tt
unless_missing why = Err why

-- what a refused call makes of the folder
abbrev pub left_error : DiskError → ScanError
left_error disk.Fault = Fault
left_error disk.NoMemory = NoMemory
left_error why = Missing

-- Before a message of ours begins.

-- a call looks, or takes one of the two files away
abbrev pub IsPreparing : List ℕ → Call → Answer → Type 0
IsPreparing path (ListDir at) answer = Unit {0}
IsPreparing path (StatPath at) answer = Unit {0}
IsPreparing path (Remove at) answer =
    (at ≡ new_sequences_path path) ⊎ (at ≡ append_path path)
IsPreparing path call answer = ⊥

-- Our calls were such calls alone, and a message of ours may begin behind them.
pub record MakesReady (path : List ℕ) (old new : Option Past) : Type 0 where
  pub prepares : Prepares (mh_files path) old new
  pub only : Grown old new (λ state entries. AllOwn (IsPreparing path) entries)
