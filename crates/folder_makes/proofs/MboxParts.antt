-- The parts of the making of a mailbox in one file, one behind the other.
use Rattle.std.proofs.Common.{◌≡◌, ◌∙◌, [], ℕ, Bool, true, false, List, None, Ok, Err, Option}
use Rattle.std.proofs.Common.{Result, Some, arith, if◌then◌else◌, inl, inr, is_none, length, nat_lt}
use Rattle.std.proofs.Common.{refl}
use Rattle.std.proofs.Common.{subst, sym, ◌⊎◌}
use Rattle.std.specs.Prelude.{IfErr, OnOk}
use Rattle.disk_model.specs.Journal.{Call, Past, ReadAll}
use Rattle.disk_model.specs.Judge.{MakesStep, answer_by, bytes_of, read_at, read_of, stat_node}
use Rattle.disk_model.specs.Refusals.{file_refusal, first_refusal, length_refusal, long_refusal}
use Rattle.disk_model.specs.Seen.{Seen}
use Rattle.disk_model.specs.Tree.{TreeNode, is_root, node_at}
use Rattle.disk_model.specs.declared.answers.DiskError.{DiskError}
use Rattle.disk_model.specs.declared.answers.DiskError.TheVariants as disk
use Rattle.disk_model.specs.declared.answers.Stat.{Stat}
use Rattle.folder_core.proofs.SeenLemmas.{rose_later}
use Rattle.folder_changes.specs.Refused.{IsBetween, refused_by}
use Rattle.folder_changes.specs.declared.sync_error.SyncError.{SyncError}
use Rattle.folder_changes.specs.declared.sync_error.SyncError.TheVariants.{Changed, Fault, Locked}
use Rattle.folder_changes.specs.declared.sync_error.SyncError.TheVariants.{NoMemory, NotFolder}
use Rattle.folder_changes.specs.declared.sync_error.SyncError.TheVariants.{TooLarge, TooMany}
use Rattle.folder_changes.specs.declared.sync_error.SyncError.TheVariants.{Unfinished}
use Rattle.folder_stops.specs.Along.{Grown}
use Rattle.folder_drivers.specs.Making.{MakeErrors, MetFirst}
use Rattle.folder_drivers.specs.MboxMade.{MadeMailboxAlone, MailboxRefused, may_be_mailbox}
use Rattle.folder_drivers.specs.Refusing.{IsAny, RefusedFor}
use Rattle.folder_makes.specs.Parts.{EndsKept, IsAt, IsCreate, IsKeep, IsPart, NeedsEither}
use Rattle.folder_makes.specs.Parts.{NeedsKept}
use Rattle.folder_makes.specs.Parts.{Nowhere, TriesMailbox}
use Rattle.folder_makes.proofs.Calling.{IsFresh, IsQuiet, by_as, by_grows, by_then}
use Rattle.folder_makes.proofs.Parting.{kept_quiet, part_refused, part_then}

true_false : ◌≡◌ {A = Bool} true false → ⊥
true_false e = cc

-- A file is made, and its name is put on the disk.

-- of a past that is not told no cause is told
untold_cause : {A : Type 0} (Needs : Call → Type 0) (result : Result A SyncError)
    (a c : Option Past) → a ≡ None → IfErr result (λ why. IsBetween (RefusedFor Needs why) a c)
untold_cause Needs (Ok given) a c none = tt
untold_cause Needs (Err why) a c none =
    subst (λ (o : Option Past). IsBetween (RefusedFor Needs why) o c) (sym none) tt

module _ (path dir : List ℕ) (apart : dir ≡ path → is_root path ≡ true)
    (result : Result (Unit {0}) SyncError) {given : Unit {0}} {old mid new : Seen}
    (part : IsPart Nowhere (IsAt path) (IsCreate path) {A = Unit {0}} (Ok given) old mid)
    (next : IsPart Nowhere Nowhere (IsKeep dir) result mid new) where
  abbrev Needs : Call → Type 0
  Needs = NeedsEither (IsCreate path) NeedsKept

  -- the file is not where its folder is
  quiet : is_root path ≡ false → (call : Call) → IsKeep dir call → IsQuiet Nowhere (IsAt path) call
  quiet not_root call is = subst (IsQuiet Nowhere (IsAt path)) (sym is)
      (λ f at same. true_false (sym (apart (sym same ∙ at)) ∙ not_root))

  pub made_then : (old.told ≡ None) ⊎ (is_root path ≡ false)
      → IsPart Nowhere (IsAt path) Needs result old new
  made_then (inr not_root) =
      part_then Nowhere (IsAt path) Nowhere Nowhere Nowhere (IsAt path) (IsCreate path)
      (IsKeep dir) Needs given result (λ p is. is) (λ p is. is) (λ p is. is) (λ p is. absurd is)
      (quiet not_root) (λ call is. inr (subst NeedsKept (sym is) tt)) part next
  made_then (inl untold) = record {
    calls = by_then Nowhere (IsAt path) part.calls
        (by_as Nowhere Nowhere Nowhere (IsAt path) (λ p is. is) (λ p is. absurd is) next.calls);
    marks = let low = next.marks in omega (arith, part.marks, low);
    faults = let low = next.faults in omega (arith, part.faults, low);
    cause = λ is. rose_later old.faults mid.faults new.faults part.faults (next.cause is);
    errors = next.errors;
    refused = untold_cause Needs result old.told new.told untold;
  }

-- The look comes first.

-- what `read_all` gives
abbrev read_value : Option TreeNode → Stat × List ℕ
read_value None = (stat_node None 0, [])
read_value (Some node) = (stat_node node.bytes node.stamp, bytes_of node.bytes)

read_asked : (node : Option TreeNode) (limit : ℕ) → read_at node limit
    ≡ answer_by (first_refusal (file_refusal node) (long_refusal limit node)) (read_value node)
read_asked None limit = refl
read_asked (Some node) limit = by node.bytes
  where
    by_long : (bytes : List ℕ) (long : Bool)
        → ◌≡◌ {A = Result (Stat × List ℕ) DiskError}
        (if long then Err (disk.Long (length bytes))
        else Ok (stat_node (Some bytes) node.stamp, bytes))
        (answer_by (if long then Some (disk.Long (length bytes)) else None)
        (stat_node (Some bytes) node.stamp, bytes))
    by_long bytes true = refl
    by_long bytes false = refl

    by : (bytes : Option (List ℕ)) → read_at (Some (record node { bytes = bytes })) limit
        ≡ answer_by (first_refusal (if is_none bytes then Some disk.WrongNode else None)
        (length_refusal limit bytes)) (stat_node bytes node.stamp, bytes_of bytes)
    by None = refl
    by (Some bytes) = by_long bytes (nat_lt limit (length bytes))

fresh_first : (path : List ℕ) → IsFresh Nowhere Nowhere path
fresh_first path = record {
  dirs = λ d is. absurd is;
  files = λ f is. absurd is;
  around = λ f is. absurd is;
}

not_fault : ◌≡◌ {A = Result (Unit {0}) SyncError} (Err NotFolder) (Err Fault) → ⊥
not_fault is = cc

module _ (path : List ℕ) where
  -- it was refused
  pub look_refused : (limit : ℕ) (why : DiskError) (e : SyncError) {bytes : ℕ} {old new : Seen}
      → e ≡ refused_by why
      → MakesStep {A = Stat × List ℕ} (Err why) (ReadAll path limit)
      (λ tree. read_of tree path limit) bytes old new
      → IsPart Nowhere (IsAt path) IsAny {A = Unit {0}} (Err e) old new
  look_refused limit why e {bytes} {old} {new} same step =
      part_refused Nowhere (IsAt path) IsAny (λ tree. read_value (node_at tree path)) why e tt tt
      same
      (subst (λ (asks : List TreeNode → Result (Stat × List ℕ) DiskError).
      MakesStep (Err why) (ReadAll path limit) asks bytes old new)
      (λ i tree. read_asked (node_at tree path) limit i) step)

  look_quiet : (call : Call) → NeedsEither (IsCreate path) NeedsKept call
      → IsQuiet Nowhere Nowhere call
  look_quiet call (inl is) = subst (IsQuiet Nowhere Nowhere) (sym is) (fresh_first path)
  look_quiet call (inr is) = kept_quiet Nowhere call is

  pub look_then : (result : Result (Unit {0}) SyncError) {given : Unit {0}} {old mid new : Seen}
      → IsPart Nowhere Nowhere IsAny {A = Unit {0}} (Ok given) old mid
      → IsPart Nowhere (IsAt path) (NeedsEither (IsCreate path) NeedsKept) result mid new
      → IsPart Nowhere (IsAt path) IsAny result old new
  look_then result {given} part next =
      part_then Nowhere Nowhere Nowhere (IsAt path) Nowhere (IsAt path) IsAny
      (NeedsEither (IsCreate path) NeedsKept) IsAny given result (λ p is. is) (λ p is. absurd is)
      (λ p is. is) (λ p is. is) look_quiet (λ call is. tt) part next

  caused : (why : SyncError) (old new : Option Past) → MakeErrors why
      → IsBetween (RefusedFor IsAny why) old new → MailboxRefused path why old new
  caused NotFolder old new may cause = inl cause
  caused Fault old new may cause = tt
  caused NoMemory old new may cause = tt
  caused (Changed spot) old new may cause = absurd may
  caused Locked old new may cause = absurd may
  caused Unfinished old new may cause = absurd may
  caused (TooMany count) old new may cause = absurd may
  caused (TooLarge bytes) old new may cause = absurd may

  caused_if : (result : Result (Unit {0}) SyncError) (old new : Option Past)
      → IfErr result MakeErrors → IfErr result (λ why. IsBetween (RefusedFor IsAny why) old new)
      → IfErr result (λ why. MailboxRefused path why old new)
  caused_if (Ok done) old new may cause = tt
  caused_if (Err why) old new may cause = caused why old new may cause

  -- all parts are done, or one was refused
  pub tries : (result : Result (Unit {0}) SyncError) {old new : Seen}
      → IsPart Nowhere (IsAt path) IsAny result old new
      → OnOk result (Grown old.told new.told (MadeMailboxAlone path))
      → OnOk result (Grown old.told new.told (MetFirst (may_be_mailbox path) true))
      → OnOk result (Grown old.told new.told (EndsKept path))
      → TriesMailbox path result old new
  tries result {old} {new} part made looked kept = record {
    calls = part.calls;
    kept = kept;
    made = made;
    looked = looked;
    may_be = part.errors;
    cause = caused_if result old.told new.told part.errors part.refused;
    serves = record {
      grows = by_grows Nowhere (IsAt path) old.told new.told part.calls;
      marks = part.marks;
      faults = part.faults;
      cause = part.cause;
    };
  }

  -- a file that is no mailbox was met
  pub unfit : {old new : Seen} {given : Unit {0}}
      → IsPart Nowhere (IsAt path) IsAny {A = Unit {0}} (Ok given) old new
      → Grown old.told new.told (MetFirst (may_be_mailbox path) false)
      → TriesMailbox path (Err NotFolder) old new
  unfit {old} {new} part met = record {
    calls = part.calls;
    kept = tt;
    made = tt;
    looked = tt;
    may_be = tt;
    cause = inr met;
    serves = record {
      grows = by_grows Nowhere (IsAt path) old.told new.told part.calls;
      marks = part.marks;
      faults = part.faults;
      cause = λ fault. absurd (not_fault fault);
    };
  }
