-- What looks at a folder tell before its files are read.
use Rattle.std.specs.Prelude.{◌≡◌, ℕ, true, List, Option, Result, IfErr, IfOk, IsErrOf}
use Rattle.mail_base.specs.Faults.{Rose}
use Rattle.disk_model.specs.Journal.{ListDir, Past, ReadAll}
use Rattle.disk_model.specs.Judge.{GoesOn}
use Rattle.disk_model.specs.Looking.{OnlyLooks}
use Rattle.disk_model.specs.Names.{names_in}
use Rattle.disk_model.specs.Seen.{Seen}
use Rattle.folder_core.specs.Costs.{RaisesAtMost}
use Rattle.folder_core.specs.Directory.{is_folder_at}
use Rattle.folder_core.specs.FirstLook.{TellsMissing}
use Rattle.folder_core.specs.DirectoryScan.{FolderRefused}
use Rattle.folder_core.specs.Known.{KnownFolder}
use Rattle.folder_letters.specs.Letters.{Mail}
use Rattle.folder_core.specs.Looked.{SawAt}
use Rattle.folder_core.specs.Mh.{mh_format, sequences_at, sequences_path}
use Rattle.folder_core.specs.declared.error.ScanError.{ScanError}
use Rattle.folder_core.specs.declared.error.ScanError.TheVariants.{ArchiveFull, Fault}
use Rattle.mh_sequences.specs.Marks.{AreMarks}
use Rattle.mh_folder.specs.NumberedName.{AreInOrder}
use Rattle.mh_sequences.specs.declared.marks.Marks.{Marks}
use Rattle.mh_folder.specs.declared.numbered_name.NumberedName.{NumberedName}

-- a directory with these names stood at the path
abbrev pub NamesSeen : List ℕ → List (List ℕ) → Past → Past → Type 0
NamesSeen path names old new =
    SawAt (ListDir path) (λ tree. (names ≡ names_in tree path) × (is_folder_at tree path ≡ true))
    old new

-- the numbers in a directory
pub record ListsNumbers (path : List ℕ) (files : List NumberedName)
    (old new : Option Past) : Type 0 where
  pub names : List (List ℕ)
  pub order : AreInOrder names files
  pub saw : GoesOn (NamesSeen path names) old new

-- these were the bytes of the file of the sequences
abbrev pub SequencesSeen : List ℕ → List ℕ → Past → Past → Type 0
SequencesSeen path bytes old new =
    (limit : ℕ) × SawAt (ReadAll (sequences_path path) limit)
    (λ tree. sequences_at tree path ≡ bytes) old new

-- what the file of the sequences marks
pub record ReadsMarks (path : List ℕ) (marks : Marks) (old new : Option Past) : Type 0 where
  pub bytes : List ℕ
  pub are : AreMarks bytes marks
  pub saw : GoesOn (SequencesSeen path bytes) old new

-- What was found was seen, and no byte was read; a refusal has its cause, whatever is in the
-- archive and known of the folder, Missing that of the first look.
pub record Finds {A : Type 0} (path : List ℕ) (result : Result A ScanError)
    (Sees : A → Option Past → Option Past → Type 0) (old new : Seen) : Type 0 where
  pub saw : IfOk result (λ given. Sees given old.told new.told)
  pub refused : IfErr result
      (λ why. (archive : List Mail) (known : KnownFolder) → GoesOn (FolderRefused mh_format archive
      (record known { path = path }) why) old.told new.told)
  pub never_full : IsErrOf result ArchiveFull → ⊥
  pub first : GoesOn (TellsMissing result path) old.told new.told
  pub only : OnlyLooks old new
  pub reads : RaisesAtMost old.bytes_read new.bytes_read 0
  pub cause : IsErrOf result Fault → Rose old.faults new.faults
