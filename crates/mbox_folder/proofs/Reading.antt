-- What one whole read of a mailbox has seen.
use Rattle.std.proofs.Common.{◌≡◌, ◌≤◌, ◌<◌, ℕ, Bool, true, List, [], ◌∷◌, Option, Some, None}
use Rattle.std.proofs.Common.{Result, Ok, Err, inr, length, is_some, if◌then◌else◌, refl, sym, ◌∙◌}
use Rattle.std.proofs.Common.{ap, subst, arith, le-ltb, lt-ltb}
use Rattle.std.specs.Prelude.{option_and_then}
use Rattle.disk_model.specs.Tree.{TreeNode, node_at}
use Rattle.disk_model.specs.Journal.{NoForeign, Past, ReadAll}
use Rattle.disk_model.specs.Judge.{Called, GoesOn, IsJudged, OneStep, read_of}
use Rattle.disk_model.specs.Looking.{HasLooked, LooksOnly}
use Rattle.disk_model.specs.State.{tree_after, tree_at}
use Rattle.disk_model.specs.declared.answers.Stat.{Stat}
use Rattle.disk_model.specs.declared.answers.FileRead.{FileRead}
use Rattle.disk_model.specs.declared.answers.DiskError.{DiskError}
use Rattle.disk_model.specs.declared.answers.DiskError.TheVariants.{Missing, WrongNode, Long, Fault}
use Rattle.disk_model.specs.declared.answers.DiskError.TheVariants.{NoMemory}
use Rattle.disk_model.proofs.Looking.{looked_longer}
use Rattle.disk_model.proofs.Marks.{length_longer, met_at, tree_at-length, tree_at-looked}
use Rattle.disk_model.proofs.Marks.{tree_after-looked}
use Rattle.folder_core.specs.Directory.{node_file, stamp_there}
use Rattle.folder_core.specs.Keeping.{ListedMail}
use Rattle.folder_core.specs.Limits.{most_bytes}
use Rattle.folder_core.specs.Mbox.{bytes_refusal, file_refusal, mbox_refusal}
use Rattle.folder_core.specs.declared.error.ScanError.{ScanError}
use Rattle.folder_core.specs.declared.error.ScanError.TheVariants.{Missing as NoFolder, NotMailbox}
use Rattle.folder_core.specs.declared.error.ScanError.TheVariants.{TooLarge, Fault as FolderFault}
use Rattle.folder_core.specs.declared.error.ScanError.TheVariants.{NoMemory as WantOfMemory}
use Rattle.folder_core.proofs.LookedLemmas.{read_long, read_missing, read_nothing, read_tells}
use Rattle.folder_core.proofs.LookedLemmas.{read_wrong}
use Rattle.mbox_folder.specs.FileSeen.{FileSeen, IsFile, IsRead}

-- What stands at the path, by the answer of the read.

abbrev ReadPair : Type 0
ReadPair = Stat × List ℕ

-- a file by its bytes and its stamp
pub file_of : (there : Option TreeNode) (bytes : List ℕ) (stamp : ℕ)
    → option_and_then node_file there ≡ Some bytes → stamp_there there ≡ stamp
    → length bytes ≤ most_bytes → IsFile bytes (stamp ∷ []) there
file_of None bytes stamp is at few = absurd (cc)
file_of (Some node) bytes stamp is at few = record {
  content = is;
  stamp = ap (λ (n : ℕ). n ∷ []) at;
  few = le-ltb most_bytes (length bytes) few;
}

long_refused : (there : Option TreeNode) (size : ℕ) (all : List ℕ)
    → option_and_then node_file there ≡ Some all → size ≡ length all → most_bytes < size
    → (letters : ℕ) (old : List ListedMail) → mbox_refusal letters old there ≡ Some (TooLarge size)
long_refused None size all is same long letters old = absurd (cc)
long_refused (Some node) size all is same long letters old =
    ap (file_refusal letters old) is
    ∙ ap (λ (b : Bool). if b then Some (TooLarge (length all)) else bytes_refusal letters old all)
    (lt-ltb most_bytes (length all) (omega (arith, same, long)))
    ∙ ap (λ (n : ℕ). Some (TooLarge n)) (sym same)

wrong_refused : (there : Option TreeNode) → is_some there ≡ true
    → option_and_then node_file there ≡ None
    → (letters : ℕ) (old : List ListedMail) → mbox_refusal letters old there ≡ Some (NotMailbox 0)
wrong_refused None stands is letters old = absurd (cc)
wrong_refused (Some node) stands is letters old = ap (file_refusal letters old) is

-- the tree of each mark is the one of now while we only look and nobody else acts
pub alone_at : (mark : ℕ) (old new : Past) → HasLooked old new → length old.journal ≤ mark
    → NoForeign old new → tree_at new mark ≡ tree_after new
alone_at mark old new looked from nobody =
    tree_at-looked old new mark looked nobody from
    ∙ sym (tree_after-looked old new looked nobody
    (length_longer old new (looked_longer old new looked)))

-- What the whole read has seen.

-- a read that tells of the file has seen it
file_told : (answer : Result ReadPair DiskError) (result : Result FileRead ScanError)
    (path : List ℕ)
    (old new : Option Past)
    → GoesOn (OneStep answer (ReadAll path most_bytes) (λ tree. read_of tree path most_bytes)) old
    new
    → LooksOnly old new
    → ((tree : List TreeNode) → IsJudged answer (read_of tree path most_bytes)
    → IsRead result (node_at tree path))
    → GoesOn (FileSeen result path) old new
file_told answer result path None new step looks tells = step
file_told answer result path (Some past) None step looks tells = absurd step
file_told answer result path (Some past) (Some next) step looks tells =
    let met =
    met_at answer (ReadAll path most_bytes) (λ tree. read_of tree path most_bytes) past next
    step in
    record {
      mark = met.mark;
      from = met.from;
      to = met.to;
      is = tells (tree_at next met.mark) met.judged;
      alone = alone_at met.mark past next looks met.from;
    }

-- the call of the read
abbrev ReadCalled : Result ReadPair DiskError → List ℕ → Option Past → Option Past → Type 0
ReadCalled answer path old new =
    Called answer (ReadAll path most_bytes) (λ tree. read_of tree path most_bytes) old new

pub ok_seen : (file : FileRead) (path : List ℕ) (old new : Option Past)
    → ReadCalled (Ok (file.stat, file.bytes.items)) path old new
    → LooksOnly old new → GoesOn (FileSeen (Ok file) path) old new
ok_seen file path old new step looks =
    file_told (Ok (file.stat, file.bytes.items)) (Ok file) path old new step.goes looks
    (λ tree judged. let told = read_tells tree path most_bytes file judged in
    file_of (node_at tree path) file.bytes.items file.stat.stamp told.0 told.1 told.2)

called_as : (e f : DiskError) (path : List ℕ) (old new : Option Past) → e ≡ f
    → ReadCalled (Err e) path old new
    → ReadCalled (Err f) path old new
called_as e f path old new is step =
    subst (λ (x : DiskError). ReadCalled (Err x) path old new) is step

pub missing_seen : (e : DiskError) (path : List ℕ) (old new : Option Past) → e ≡ Missing
    → ReadCalled (Err e) path old new
    → LooksOnly old new → GoesOn (FileSeen (Err NoFolder) path) old new
missing_seen e path old new is step looks =
    file_told (Err Missing) (Err NoFolder) path old new
    (called_as e Missing path old new is step).goes looks
    (λ tree judged. read_missing tree path most_bytes judged)

pub wrong_seen : (e : DiskError) (path : List ℕ) (old new : Option Past) → e ≡ WrongNode
    → ReadCalled (Err e) path old new
    → LooksOnly old new → GoesOn (FileSeen (Err (NotMailbox 0)) path) old new
wrong_seen e path old new is step looks =
    file_told (Err WrongNode) (Err (NotMailbox 0)) path old new
    (called_as e WrongNode path old new is step).goes looks
    (λ tree judged. wrong_refused (node_at tree path) (read_wrong tree path most_bytes judged)
    (read_nothing tree path most_bytes WrongNode (inr refl) judged))

pub long_seen : (e : DiskError) (size : ℕ) (path : List ℕ) (old new : Option Past) → e ≡ Long size
    → ReadCalled (Err e) path old new
    → LooksOnly old new → GoesOn (FileSeen (Err (TooLarge size)) path) old new
long_seen e size path old new is step looks =
    file_told (Err (Long size)) (Err (TooLarge size)) path old new
    (called_as e (Long size) path old new is step).goes looks
    (λ tree judged. let told = read_long tree path most_bytes size judged in
    long_refused (node_at tree path) size told.1.0 told.1.1 told.1.2 told.0)

pub fault_seen : (e : DiskError) (path : List ℕ) (old new : Option Past) → e ≡ Fault
    → ReadCalled (Err e) path old new
    → LooksOnly old new → GoesOn (FileSeen (Err FolderFault) path) old new
fault_seen e path old new is step looks =
    file_told (Err Fault) (Err FolderFault) path old new
    (called_as e Fault path old new is step).goes looks
    (λ tree judged. tt)

-- for want of memory nothing was called
pub memory_seen : (e : DiskError) (path : List ℕ) (old new : Option Past) → e ≡ NoMemory
    → ReadCalled (Err e) path old new
    → LooksOnly old new → GoesOn (FileSeen (Err WantOfMemory) path) old new
memory_seen e path None new is step looks = looks
memory_seen e path (Some past) None is step looks = absurd looks
memory_seen e path (Some past) (Some next) is step looks =
    let longer = length_longer past next (looked_longer past next looks) in
    record {
      mark = length next.journal;
      from = longer;
      to = omega arith;
      is = tt;
      alone = λ nobody. tree_at-length next;
    }
