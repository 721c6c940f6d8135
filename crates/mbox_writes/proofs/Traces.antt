-- What calls of ours a journal grew by, and what is said of a refusal.
use Rattle.std.proofs.Common.{Err, List, None, Ok, Option, Result, Some, ap, inl, map}
use Rattle.std.proofs.Common.{sym, ℕ, [], ◌++◌, ◌∷◌}
use Rattle.std.specs.Prelude.{IfErr}
use Rattle.disk_model.specs.Tree.{TreeNode}
use Rattle.disk_model.specs.Journal.{Answer, Own, Others, Past, ReadAll, Refused}
use Rattle.disk_model.specs.Judge.{Called, Grows}
use Rattle.disk_model.specs.declared.answers.DiskError.{DiskError}
use Rattle.disk_model.specs.declared.answers.DiskError.TheVariants.{Long}
use Rattle.folder_core.specs.Limits.{most_bytes}
use Rattle.folder_changes.specs.declared.sync_error.SyncError.{SyncError}
use Rattle.folder_stops.proofs.Along.{grown_then}
use Rattle.folder_stops.proofs.Words.{among_left, among_right}
use Rattle.folder_tails.proofs.Traces.{grows_grown}
use Rattle.folder_drivers.specs.MboxLocked.{MeetsLong}

-- of a refusal something more holds
pub if_err : {A : Type 0} {P Q : SyncError → Type 0} (result : Result A SyncError)
    → ((why : SyncError) → P why → Q why) → IfErr result P → IfErr result Q
if_err (Ok value) more is = is
if_err (Err why) more is = more why is

-- a file was found too long
pub long_met : {T : Type 0} (path : List ℕ) (size : ℕ) (wanted : List TreeNode → Result T DiskError)
    (a b : Option Past) → Called (Err (Long size)) (ReadAll path most_bytes) wanted a b
    → MeetsLong path size a b
long_met path size wanted None b took = took.goes
long_met path size wanted (Some past) None took = absurd took.goes
long_met path size wanted (Some past) (Some new) took = let step = took.goes in record {
  same_first = step.same_first;
  more = map Others step.actions ++ Own (ReadAll path most_bytes) step.answer ∷ [];
  journal = step.journal;
  along = among_right (Own (ReadAll path most_bytes) (Refused (Long size) 0))
      (map Others step.actions) (Own (ReadAll path most_bytes) step.answer ∷ [])
      (inl (ap (λ (answer : Answer). Own (ReadAll path most_bytes) answer) (sym step.answered)));
}

-- the same of a journal that had grown before
pub long_later : (path : List ℕ) (size : ℕ) (a b c : Option Past) → Grows a b
    → MeetsLong path size b c → MeetsLong path size a c
long_later path size a b c grows met =
    grown_then a b c _ _ _ (grows_grown a b grows) met
    (λ s xs ys p q. among_right (Own (ReadAll path most_bytes) (Refused (Long size) 0)) xs ys q)

-- and of one that grew behind it
pub long_before : (path : List ℕ) (size : ℕ) (a b c : Option Past) → MeetsLong path size a b
    → Grows b c → MeetsLong path size a c
long_before path size a b c met grows =
    grown_then a b c _ _ _ met (grows_grown b c grows)
    (λ s xs ys p q. among_left (Own (ReadAll path most_bytes) (Refused (Long size) 0)) xs ys p)
