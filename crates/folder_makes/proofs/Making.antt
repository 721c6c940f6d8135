-- What the parts of the making of a folder come to.
use Rattle.std.proofs.Common.{◌≡◌, ◌∷◌, [], ℕ, true, false, List, Option, None}
use Rattle.std.proofs.Common.{Result, Ok, Err, ap, inl, inr}
use Rattle.std.specs.Prelude.{OnOk}
use Rattle.disk_model.specs.Journal.{Action, Answer, Call, Create, Cut, Done, Entry, ListDir}
use Rattle.disk_model.specs.Journal.{MakeDir, Others, Own, Past, ReadAll, ReadFront, Refused}
use Rattle.disk_model.specs.Journal.{Remove}
use Rattle.disk_model.specs.Journal.{Rename, StatPath, Sync, SyncDir, WriteAt}
use Rattle.disk_model.specs.Seen.{Seen}
use Rattle.disk_model.specs.State.{State, after_entry}
use Rattle.folder_changes.specs.Refused.{IsBetween}
use Rattle.folder_changes.specs.Serving.{Serves}
use Rattle.folder_changes.specs.declared.sync_error.SyncError.{SyncError}
use Rattle.folder_changes.specs.declared.sync_error.SyncError.TheVariants.{Changed, Fault, Locked}
use Rattle.folder_changes.specs.declared.sync_error.SyncError.TheVariants.{NoMemory, NotFolder}
use Rattle.folder_changes.specs.declared.sync_error.SyncError.TheVariants.{TooLarge, TooMany}
use Rattle.folder_changes.specs.declared.sync_error.SyncError.TheVariants.{Unfinished}
use Rattle.folder_stops.specs.Along.{Allows, Grown}
use Rattle.folder_stops.specs.Does.{Does, IsOurs, IsWithin, MakesAt}
use Rattle.folder_stops.specs.Folder.{FileFolder, IsFolder}
use Rattle.folder_stops.specs.Laws.{IsSyncCall}
use Rattle.folder_stops.specs.Others.{MayDo, MayDoTo}
use Rattle.folder_stops.specs.Syncs.{KeepsHolds}
use Rattle.folder_stops.proofs.Along.{grown_map}
use Rattle.folder_stops.proofs.LawsOfFolders.{sync_keeps}
use Rattle.folder_drivers.specs.Made.{MadeAlone, MakeRefused, MakeRow, MakesAs}
use Rattle.folder_drivers.specs.Made.{is_its, may_be_made}
use Rattle.folder_drivers.specs.Making.{MakeErrors, MetFirst}
use Rattle.folder_makes.specs.Parts.{IsMaking, IsPart, MakesBy}
use Rattle.folder_makes.proofs.Calling.{by_grows, own_as}
use Rattle.folder_drivers.specs.Refusing.{IsAny, RefusedFor}

-- what is more than allowed is allowed
allows_as : (P Q : Action → State → Type 0) (es : List Entry) (s : State)
    → ((action : Action) (s : State) → P action s → Q action s) → Allows P es s → Allows Q es s
allows_as P Q [] s turns all = tt
allows_as P Q (Own call answer ∷ es) s turns all =
    allows_as P Q es (after_entry s (Own call answer)) turns all
allows_as P Q (Others action ∷ es) s turns all =
    (turns action s all.0, allows_as P Q es (after_entry s (Others action)) turns all.1)

-- The directories and files that are made lie in the folder, at paths of no message, and no message
-- begins with such a file.
pub record AreApart (folder : FileFolder) (path : List ℕ) (D F : List ℕ → Type 0) : Type 0 where
  pub dir_home : (p : List ℕ) → D p → is_its folder path p ≡ true
  pub dir_slot : (p : List ℕ) → D p → folder.shape.slot p ≡ None
  pub file_home : (p : List ℕ) → F p → is_its folder path p ≡ true
  pub file_slot : (p : List ℕ) → F p → folder.shape.slot p ≡ None
  pub file_making : (p : List ℕ) → F p → folder.making p ≡ None

module _ (folder : FileFolder) (path : List ℕ) (D F : List ℕ → Type 0)
    (apart : AreApart folder path D F) where
  within : (call : Call) → IsMaking D F call → IsWithin (is_its folder path) call
  within (ListDir dir) is = tt
  within (StatPath at) is = absurd is
  within (ReadFront at size) is = absurd is
  within (ReadAll at limit) is = tt
  within (Create at) is = apart.file_home at is
  within (WriteAt at from piece) is = absurd is
  within (Cut at size) is = absurd is
  within (Sync at) is = absurd is
  within (Rename from to) is = absurd is
  within (Remove at) is = absurd is
  within (SyncDir dir) is = tt
  within (MakeDir at) is = apart.dir_home at is

  makes_none : (call : Call) → IsMaking D F call → MakesAt folder.making None Done call
  makes_none (ListDir dir) is = tt
  makes_none (StatPath at) is = tt
  makes_none (ReadFront at size) is = tt
  makes_none (ReadAll at limit) is = tt
  makes_none (Create at) is = inl (apart.file_making at is)
  makes_none (WriteAt at from piece) is = tt
  makes_none (Cut at size) is = tt
  makes_none (Sync at) is = tt
  makes_none (Rename from to) is = tt
  makes_none (Remove at) is = tt
  makes_none (SyncDir dir) is = tt
  makes_none (MakeDir at) is = tt

  ours : (call : Call) (answer : Answer) → IsMaking D F call
      → IsOurs (is_its folder path) folder.making None call answer
  ours call Done is = (within call is, makes_none call is)
  ours call (Refused why wrote) is = (λ changed. within call is, tt)

  sync_call : (call : Call) → IsMaking D F call → IsSyncCall folder.shape [] call
  sync_call (ListDir dir) is = tt
  sync_call (StatPath at) is = tt
  sync_call (ReadFront at size) is = tt
  sync_call (ReadAll at limit) is = tt
  sync_call (Create at) is = apart.file_slot at is
  sync_call (WriteAt at from piece) is = absurd is
  sync_call (Cut at size) is = absurd is
  sync_call (Sync at) is = absurd is
  sync_call (Rename from to) is = absurd is
  sync_call (Remove at) is = absurd is
  sync_call (SyncDir dir) is = tt
  sync_call (MakeDir at) is = apart.dir_slot at is

  does_here : {a b : Option Past} → MakesBy D F a b
      → Does (is_its folder path) folder.making None a b
  does_here {a} {b} by = record {
    grown = grown_map a b _ _ by.grown (λ s es all.
        own_as (λ call answer. IsMaking D F call) (IsOurs (is_its folder path) folder.making None)
        es (λ call answer is. ours call answer is) all);
  }

  keeps_here : IsFolder folder → {a b : Option Past} → MakesBy D F a b → KeepsHolds folder [] a b
  keeps_here is {a} {b} by = record {
    grown = grown_map a b _ _ by.grown (λ s es own all holds allowed.
        sync_keeps folder [] es all s is holds
        (own_as (λ call answer. IsMaking D F call) (λ call answer. IsSyncCall folder.shape [] call)
        es (λ call answer making. sync_call call making) own)
        (allows_as (MayDoTo folder.shape folder.sides) (MayDo folder.shape) es s
        (λ action s may. may.0) allowed));
  }

ok_no_fault : {A : Type 0} (v : A) (e : SyncError)
    → ◌≡◌ {A = Result A SyncError} (Ok v) (Err e) → ⊥
ok_no_fault v e is = cc

not_fault : ◌≡◌ {A = Result (Unit {0}) SyncError} (Err NotFolder) (Err Fault) → ⊥
not_fault is = cc

module _ (row : MakeRow) (path : List ℕ) (D F : List ℕ → Type 0)
    (is : IsFolder (row.files path)) (apart : AreApart (row.files path) path D F) where
  serves : {A : Type 0} (result : Result A SyncError) {old new : Seen}
      → IsPart D F IsAny result old new → Serves result old new
  serves result {old} {new} part = record {
    grows = by_grows D F old.told new.told part.calls;
    marks = part.marks;
    faults = part.faults;
    cause = part.cause;
  }

  caused : (why : SyncError) (old new : Option Past) → MakeErrors why
      → IsBetween (RefusedFor IsAny why) old new → MakeRefused row path why old new
  caused NotFolder old new may cause = inl cause
  caused Fault old new may cause = tt
  caused NoMemory old new may cause = tt
  caused (Changed spot) old new may cause = absurd may
  caused Locked old new may cause = absurd may
  caused Unfinished old new may cause = absurd may
  caused (TooMany count) old new may cause = absurd may
  caused (TooLarge bytes) old new may cause = absurd may

  -- a part was refused
  pub refused_makes : {A : Type 0} (why : SyncError) {old new : Seen}
      → IsPart D F IsAny {A = A} (Err why) old new → MakesAs row path (Err why) old new
  refused_makes {A} why {old} {new} part = record {
    keeps = keeps_here (row.files path) path D F apart is part.calls;
    here = does_here (row.files path) path D F apart part.calls;
    made = tt;
    looked = tt;
    may_be = part.errors;
    cause = caused why old.told new.told part.errors part.refused;
    serves = record {
      grows = by_grows D F old.told new.told part.calls;
      marks = part.marks;
      faults = part.faults;
      cause = λ fault. part.cause (again fault);
    };
  }
    where
      again : ◌≡◌ {A = Result (Unit {0}) SyncError} (Err why) (Err Fault)
          → ◌≡◌ {A = Result A SyncError} (Err why) (Err Fault)
      again e = let same : why ≡ Fault = cc in ap Err same

  -- no folder may be made there
  pub unfit_makes : {A : Type 0} (given : A) {old new : Seen} → IsPart D F IsAny (Ok given) old new
      → Grown old.told new.told (MetFirst (may_be_made row.is_begun path) false)
      → MakesAs row path (Err NotFolder) old new
  unfit_makes given {old} {new} part met = record {
    keeps = keeps_here (row.files path) path D F apart is part.calls;
    here = does_here (row.files path) path D F apart part.calls;
    made = tt;
    looked = tt;
    may_be = tt;
    cause = inr met;
    serves = record {
      grows = by_grows D F old.told new.told part.calls;
      marks = part.marks;
      faults = part.faults;
      cause = λ fault. absurd (not_fault fault);
    };
  }

  -- all was done, or the last part was refused
  pub result_makes : (result : Result (Unit {0}) SyncError) {old new : Seen}
      → IsPart D F IsAny result old new
      → Grown old.told new.told (MetFirst (may_be_made row.is_begun path) true)
      → OnOk result (Grown old.told new.told (MadeAlone row path))
      → MakesAs row path result old new
  result_makes (Err why) part met made = refused_makes why part
  result_makes (Ok done) part met made = record {
    keeps = keeps_here (row.files path) path D F apart is part.calls;
    here = does_here (row.files path) path D F apart part.calls;
    made = made;
    looked = met;
    may_be = tt;
    cause = tt;
    serves = serves (Ok done) part;
  }
