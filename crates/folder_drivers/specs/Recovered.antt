-- What taking away what was left over in a folder did, whatever its kind.
use Rattle.std.specs.Prelude.{◌≡◌, ◌≤◌, ◌⊎◌, [], ℕ, Bool, false, List, Some, Result, Ok, Err, IfErr}
use Rattle.std.specs.Prelude.{IsErrOf, OnOk}
use Rattle.mail_base.specs.Faults.{Rose}
use Rattle.mail_base.specs.declared.kind.Kind.{Kind}
use Rattle.mail_base.specs.declared.kind.Kind.TheVariants.{Maildir, Mbox, Mh, Mmdf}
use Rattle.disk_model.specs.Journal.{Answer, Call, Done, Entry, Own, Past, Refused, Remove}
use Rattle.disk_model.specs.Journal.{StatPath}
use Rattle.disk_model.specs.Judge.{Grows}
use Rattle.disk_model.specs.Seen.{Seen}
use Rattle.disk_model.specs.declared.answers.DiskError.TheVariants.{Missing as NotThere}
use Rattle.folder_letters.specs.Letters.{Mail}
use Rattle.folder_core.specs.FirstLook.{first_look, found_by}
use Rattle.folder_core.specs.Known.{KnownFolder}
use Rattle.folder_core.specs.Right.{Right}
use Rattle.folder_core.specs.declared.error.ScanError.{ScanError}
use Rattle.folder_core.specs.declared.error.ScanError.TheVariants.{Fault, Missing, NoMemory}
use Rattle.folder_changes.specs.Refused.{IsBetween, StepRefused}
use Rattle.folder_drivers.specs.MhNames.{IsSidePath, append_path, new_sequences_path}
use Rattle.folder_shapes.specs.Mh.{mh_files}
use Rattle.folder_stops.specs.Along.{Grown}
use Rattle.folder_stops.specs.Does.{AllOwn}
use Rattle.folder_stops.specs.Syncs.{KeepsHolds}
use Rattle.folder_stops.specs.Words.{Among}
use Rattle.folder_tails.specs.Calls.{Finishes}

-- Nothing is ever left over: nothing was called.
pub record IsIdle (result : Result (Unit {0}) ScanError) (old new : Seen) : Type 0 where
  pub done : result ≡ Ok tt
  pub same : new ≡ old

-- In an MH folder two files may be left over.

-- a call looks at the folder, or takes one of the two files away
abbrev pub IsLeftCall : List ℕ → Call → Type 0
IsLeftCall path (StatPath at) = at ≡ path
IsLeftCall path (Remove at) = IsSidePath path at
IsLeftCall path call = ⊥

abbrev pub TakesSide : List ℕ → Call → Answer → Type 0
TakesSide path call answer = IsLeftCall path call

-- the file was taken away, or did not stand there
abbrev pub IsTaken : List ℕ → List Entry → Type 0
IsTaken at entries = Among (Own (Remove at) Done) entries
    ⊎ Among (Own (Remove at) (Refused NotThere 0)) entries

-- both files were
abbrev pub AreTaken : List ℕ → List Entry → Type 0
AreTaken path entries = IsTaken (new_sequences_path path) entries
    × IsTaken (append_path path) entries

-- how it may be refused
abbrev pub IsLeftError : ScanError → Type 0
IsLeftError Missing = Unit {0}
IsLeftError Fault = Unit {0}
IsLeftError NoMemory = Unit {0}
IsLeftError why = ⊥

-- A call of ours was refused for a state that is no doing of ours: nothing stood at the path as it
-- was looked at, or what stood at the name of one of the two files is none that can be taken away.
pub record MissesLeft (path : List ℕ) (m n : ℕ) (past : Past) : Type 0 where
  pub step : StepRefused (IsLeftCall path) m n past
  pub looked : step.why ≡ NotThere → step.call ≡ StatPath path

-- What was left over in an MH folder was taken away, or not: each stop leaves the messages, and our
-- calls changed nothing but those two files. Where the first look found nothing at the path, that
-- is the refusal.
pub record TakesLeft (path : List ℕ) (result : Result (Unit {0}) ScanError) (old new : Seen)
    : Type 0 where
  pub keeps : KeepsHolds (mh_files path) [] old.told new.told
  pub here : Grown old.told new.told (λ state entries. AllOwn (TakesSide path) entries)
  pub taken : OnOk result (Grown old.told new.told (λ state entries. AreTaken path entries))
  pub missing : Grown old.told new.told (λ state entries.
      found_by path (first_look state entries) ≡ Some false → result ≡ Err Missing)
  pub refused : IsErrOf result Missing → IsBetween (MissesLeft path) old.told new.told
  pub may_be : IfErr result IsLeftError
  pub grows : Grows old.told new.told
  pub marks : old.marks ≤ new.marks
  pub faults : old.faults ≤ new.faults
  pub cause : IsErrOf result Fault → Rose old.faults new.faults

-- Beside a mailbox in one file a new end may be left over, or what was to become one.

-- what was left over in a folder of a kind was finished or taken away for an owner of its lock, or
-- not, and its lock is held then or not
abbrev pub RecoversAs : Kind → List ℕ → List ℕ → Bool → Bool → Result (Unit {0}) ScanError → Seen
    → Seen → Type 0
RecoversAs Mbox path owner held new_held result old new =
    Finishes path owner held new_held result old new
RecoversAs Maildir path owner held new_held result old new = IsIdle result old new
RecoversAs Mh path owner held new_held result old new = TakesLeft path result old new
RecoversAs Mmdf path owner held new_held result old new = IsIdle result old new

-- What was left over was taken away, or not; what is known of the folder stays, but for whether its
-- lock is held, and stays right.
pub record Recovers (kind : Kind) (owner : List ℕ) (known new_known : KnownFolder)
    (result : Result (Unit {0}) ScanError) (old new : Seen) : Type 0 where
  pub does : RecoversAs kind known.path owner known.held new_known.held result old new
  pub known_is : new_known ≡ record known { held = new_known.held }
  pub right : (mails : List Mail) → Right kind mails known old.told
      → Right kind mails new_known new.told
