-- The reading of a file of commands, as its event tells it.
use Rattle.std.proofs.Common.{◌≡◌, ℕ, List, Option, Ok, refl, sym, subst}
use Rattle.mail_base.specs.Faults.{Rose}
use Rattle.disk_model.specs.Journal.{Past}
use Rattle.disk_model.specs.Judge.{GoesOn}
use Rattle.disk_model.specs.declared.answers.DiskError.{DiskError}
use Rattle.disk_model.specs.declared.answers.DiskError.TheVariants as disk
use Rattle.disk_model.specs.declared.answers.Stat.{Stat}
use Rattle.folder_core.proofs.SeenLemmas.{goes_as}
use Rattle.session_events.specs.Happened.{IsReadCause, WasRead}
use Rattle.session_events.specs.declared.event.Marks.{Marks}

pub read_told : (stat : Stat) (text path : List ℕ) (old new : Option Past)
    → GoesOn (WasRead (Ok (stat, text)) path) old new
    → GoesOn (λ (p q : Past). (s : Stat) × WasRead (Ok (s, text)) path p q) old new
read_told stat text path old new h = goes_as old new (λ p q k. (stat, k)) h

-- a fault of a read was counted
pub read_cause : (why : DiskError) (marks : Marks) (before after : ℕ) → marks.faults_before ≡ before
    → marks.faults_after ≡ after → (why ≡ disk.Fault → Rose before after) → IsReadCause why marks
read_cause disk.Fault marks before after first last h =
    subst (λ (n : ℕ). Rose n marks.faults_after) (sym first)
    (subst (λ (n : ℕ). Rose before n) (sym last) (h refl))
read_cause disk.Missing marks before after first last h = tt
read_cause disk.WrongNode marks before after first last h = tt
read_cause disk.Exists marks before after first last h = tt
read_cause (disk.Long n) marks before after first last h = tt
read_cause disk.NoMemory marks before after first last h = tt
