-- What looks at a folder's directories have found.
use Rattle.std.specs.Prelude.{◌≡◌, ◌≤◌, ℕ, true, false, List, Option, None, Result}
use Rattle.std.specs.Prelude.{IfErr, IfOk, IsErrOf}
use Rattle.std.specs.Prelude.{length, map}
use Rattle.mail_base.specs.Faults.{Rose}
use Rattle.mail_base.specs.Series.{Held}
use Rattle.disk_model.specs.Journal.{ListDir, Past, StatPath}
use Rattle.disk_model.specs.Judge.{GoesOn}
use Rattle.disk_model.specs.Looking.{OnlyLooks}
use Rattle.disk_model.specs.Names.{names_in}
use Rattle.disk_model.specs.Seen.{Seen}
use Rattle.disk_model.specs.State.{tree_at}
use Rattle.folder_core.specs.Costs.{RaisesAtMost}
use Rattle.folder_core.specs.Directory.{DirectoryRefused, file_at, is_folder_at}
use Rattle.folder_core.specs.FirstLook.{TellsMissing}
use Rattle.folder_core.specs.Looked.{SawAt}
use Rattle.folder_core.specs.Maildir.{directory, is_maildir}
use Rattle.folder_core.specs.declared.error.ScanError.{ScanError}
use Rattle.folder_core.specs.declared.error.ScanError.TheVariants.{Missing, NotMailbox, TooMany}
use Rattle.folder_core.specs.declared.error.ScanError.TheVariants.{TooLarge, Unfinished}
use Rattle.folder_core.specs.declared.error.ScanError.TheVariants.{ArchiveFull, Fault, NoMemory}
use Rattle.maildir_folder.specs.declared.candidates.Candidate.{Candidate}
use Rattle.maildir_folder.specs.Candidates.{AreInOrder}

-- a directory stood at the path
abbrev pub FolderSeen : List ℕ → Past → Past → Type 0
FolderSeen path old new = SawAt (StatPath path) (λ tree. is_folder_at tree path ≡ true) old new

-- these were the names in `new`, and no file was called so
abbrev pub NewSeen : List ℕ → List (List ℕ) → Past → Past → Type 0
NewSeen path names old new =
    SawAt (ListDir (directory false path)) (λ tree. (names ≡ names_in tree (directory false path))
    × (file_at tree (directory false path) ≡ None)) old new

-- these were the names in the directory `cur`
abbrev pub CurSeen : List ℕ → List (List ℕ) → Past → Past → Type 0
CurSeen path names old new =
    SawAt (ListDir (directory true path)) (λ tree. (names ≡ names_in tree (directory true path))
    × (is_folder_at tree (directory true path) ≡ true)) old new

-- a Maildir stood at the path with these names in its directories
pub record NamesSeen (path : List ℕ) (cur new : List (List ℕ)) (before after : Past) : Type 0 where
  pub folder : FolderSeen path before after
  pub new_names : NewSeen path new before after
  pub cur_names : CurSeen path cur before after

-- the files that may be messages of the Maildir at the path
pub record ListsFiles (path : List ℕ) (files : List Candidate) (old new : Option Past) : Type 0
  where
    pub cur : List (List ℕ)
    pub new_names : List (List ℕ)
    pub order : AreInOrder cur new_names files
    pub saw : GoesOn (NamesSeen path cur new_names) old new

-- the folder was refused before its files were looked for
abbrev pub WasRefused : List ℕ → ScanError → Past → Past → Type 0
WasRefused path why old new =
    DirectoryRefused is_maildir (λ keeps messages stamps. ⊥) 0 path why (length old.journal)
    (length new.journal) new

-- why the files of a folder were not listed
abbrev pub IsListError : ScanError → Type 0
IsListError Missing = Unit {0}
IsListError (NotMailbox place) = Unit {0}
IsListError (TooMany count) = ⊥
IsListError (TooLarge bytes) = ⊥
IsListError Unfinished = ⊥
IsListError ArchiveFull = ⊥
IsListError Fault = Unit {0}
IsListError NoMemory = Unit {0}

-- What was found was seen, and no byte was read; a refusal has its cause, Missing that of the first
-- look.
pub record Finds {A : Type 0} (path : List ℕ) (result : Result A ScanError)
    (Sees : A → Option Past → Option Past → Type 0) (old new : Seen) : Type 0 where
  pub saw : IfOk result (λ given. Sees given old.told new.told)
  pub refused : IfErr result (λ why. GoesOn (WasRefused path why) old.told new.told)
  pub errors : IfErr result IsListError
  pub first : GoesOn (TellsMissing result path) old.told new.told
  pub only : OnlyLooks old new
  pub reads : RaisesAtMost old.bytes_read new.bytes_read 0
  pub cause : IsErrOf result Fault → Rose old.faults new.faults

-- a directory stood at the path all along
abbrev pub StaysFolder : List ℕ → Past → Past → Type 0
StaysFolder path old new = (mark : ℕ) → length old.journal ≤ mark → mark ≤ length new.journal
    → is_folder_at (tree_at new mark) path ≡ true

-- an error of a look at a directory in the folder
abbrev pub IsNamesError : ScanError → Type 0
IsNamesError (NotMailbox place) = Unit {0}
IsNamesError Fault = Unit {0}
IsNamesError NoMemory = Unit {0}
IsNamesError why = ⊥

-- What was found in a directory of the folder was seen, and no byte was read; a refusal has its
-- cause, where the folder is there all along.
pub record FindsNames {A : Type 0} (path : List ℕ) (result : Result A ScanError)
    (Sees : A → Option Past → Option Past → Type 0) (old new : Seen) : Type 0 where
  pub saw : IfOk result (λ given. Sees given old.told new.told)
  pub refused : IfErr result
      (λ why. GoesOn (λ p q. StaysFolder path p q → WasRefused path why p q) old.told new.told)
  pub errors : IfErr result IsNamesError
  pub only : OnlyLooks old new
  pub reads : RaisesAtMost old.bytes_read new.bytes_read 0
  pub cause : IsErrOf result Fault → Rose old.faults new.faults

-- a list of names as plain lists
abbrev pub plain_names : Held (Held ℕ) → List (List ℕ)
plain_names names = map (λ name. name.items) names.items
