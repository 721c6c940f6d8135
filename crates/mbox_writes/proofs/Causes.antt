-- How refusals are told, and what is said of each.
use Rattle.std.proofs.Common.{Err, List, Ok, Option, Result, inl, inr, refl, subst, sym, ℕ, ◌≡◌}
use Rattle.std.proofs.Common.{◌⊎◌}
use Rattle.std.proofs.Common.{ap, arith, ◌∙◌}
use Rattle.mail_base.specs.Faults.{Rose}
use Rattle.disk_model.specs.Tree.{TreeNode}
use Rattle.disk_model.specs.Journal.{Past, ReadAll}
use Rattle.disk_model.specs.Judge.{Called, Grows}
use Rattle.disk_model.specs.Looking.{LooksOnly}
use Rattle.disk_model.specs.Seen.{Seen}
use Rattle.disk_model.specs.declared.answers.DiskError.{DiskError}
use Rattle.disk_model.specs.declared.answers.DiskError.TheVariants.{Exists, Fault as DiskFault}
use Rattle.disk_model.specs.declared.answers.DiskError.TheVariants.{Long, Missing}
use Rattle.disk_model.specs.declared.answers.DiskError.TheVariants.{NoMemory as NoRoom, WrongNode}
use Rattle.disk_model.proofs.Looking.{grows_then}
use Rattle.folder_core.proofs.SeenLemmas.{rose_later}
use Rattle.folder_core.specs.Known.{KnownFolder}
use Rattle.folder_core.specs.Limits.{most_bytes}
use Rattle.folder_changes.specs.Serving.{Serves}
use Rattle.folder_changes.specs.declared.sync_error.Spot.TheVariants.{At, Name}
use Rattle.folder_changes.specs.declared.sync_error.SyncError.{SyncError}
use Rattle.folder_changes.specs.declared.sync_error.SyncError.TheVariants.{Changed as IsChanged}
use Rattle.folder_changes.specs.declared.sync_error.SyncError.TheVariants.{Fault, Locked, NoMemory}
use Rattle.folder_changes.specs.declared.sync_error.SyncError.TheVariants.{NotFolder, TooLarge}
use Rattle.folder_changes.specs.declared.sync_error.SyncError.TheVariants.{TooMany, Unfinished}
use Rattle.folder_tails.specs.Calls.{IsWriteError}
use Rattle.folder_tails.specs.Serving.{Serves as TailServes}
use Rattle.folder_tails.specs.Traces.{LockAlone, MeetsTail}
use Rattle.folder_tails.specs.declared.error.TailError.{TailError}
use Rattle.folder_tails.specs.declared.error.TailError.TheVariants as tail
use Rattle.index_items.specs.Changes.{Changed}
use Rattle.mbox_writes.specs.Calls.{GoesOn, NotPutFor, ReadFor}
use Rattle.mbox_writes.specs.Refusals.{IsGone, TellsRead, TellsTail}
use Rattle.folder_drivers.specs.MboxSync.{UnchangedFor, UnplannedFor, UnreadFor}
use Rattle.mbox_writes.proofs.Traces.{long_before, long_later, long_met}

-- what is said of a refusal is said of what is answered behind it
pub given_for : (P : SyncError → Type 0) (why result : SyncError)
    → (result ≡ why) ⊎ (result ≡ NoMemory) → P why → P NoMemory → P result
given_for P why result (inl is) one other = subst P (sym is) one
given_for P why result (inr is) one other = subst P (sym is) other

gone_read : (path : List ℕ) (told : SyncError) (a b : Option Past) → IsGone path told
    → ReadFor path told a b
gone_read path (IsChanged (Name name)) a b is = is
gone_read path (IsChanged (At place)) a b is = is
gone_read path Fault a b is = tt
gone_read path NoMemory a b is = tt
gone_read path Locked a b is = is
gone_read path Unfinished a b is = is
gone_read path (TooMany count) a b is = is
gone_read path (TooLarge size) a b is = absurd is
gone_read path NotFolder a b is = is

-- why the file was not read
pub read_for : {T : Type 0} (path : List ℕ) (why : DiskError) (told : SyncError)
    (wanted : List TreeNode → Result T DiskError) (a b : Option Past) → TellsRead path why told
    → Called (Err why) (ReadAll path most_bytes) wanted a b → ReadFor path told a b
read_for path (Long size) told wanted a b is took =
    subst (λ (e : SyncError). ReadFor path e a b) (sym is) (long_met path size wanted a b took)
read_for path DiskFault told wanted a b is took =
    subst (λ (e : SyncError). ReadFor path e a b) (sym is) tt
read_for path NoRoom told wanted a b is took =
    subst (λ (e : SyncError). ReadFor path e a b) (sym is) tt
read_for path Missing told wanted a b is took = gone_read path told a b is
read_for path WrongNode told wanted a b is took = gone_read path told a b is
read_for path Exists told wanted a b is took = gone_read path told a b is

-- the same once the journal has grown
pub read_before : (path : List ℕ) (why : SyncError) (a b c : Option Past) → Grows b c
    → ReadFor path why a b → ReadFor path why a c
read_before path (IsChanged (Name name)) a b c grows is = is
read_before path (IsChanged (At place)) a b c grows is = is
read_before path (TooLarge size) a b c grows is = long_before path size a b c is grows
read_before path Fault a b c grows is = tt
read_before path NoMemory a b c grows is = tt
read_before path Locked a b c grows is = is
read_before path Unfinished a b c grows is = is
read_before path (TooMany count) a b c grows is = is
read_before path NotFolder a b c grows is = is

-- and of one that had grown before
pub unread_for : (path : List ℕ) (why : SyncError) (a b c : Option Past) → Grows a b
    → ReadFor path why b c → UnreadFor path why a c
unread_for path (IsChanged (Name name)) a b c grows is = is
unread_for path (IsChanged (At place)) a b c grows is = is
unread_for path (TooLarge size) a b c grows is = long_later path size a b c grows is
unread_for path Fault a b c grows is = tt
unread_for path NoMemory a b c grows is = tt
unread_for path Locked a b c grows is = absurd is
unread_for path Unfinished a b c grows is = absurd is
unread_for path (TooMany count) a b c grows is = is
unread_for path NotFolder a b c grows is = is

gone_put : (path : List ℕ) (told : SyncError) → IsGone path told → NotPutFor path told
gone_put path (IsChanged (Name name)) is = is
gone_put path (IsChanged (At place)) is = is
gone_put path Fault is = tt
gone_put path NoMemory is = tt
gone_put path Locked is = is
gone_put path Unfinished is = is
gone_put path (TooMany count) is = is
gone_put path (TooLarge size) is = is
gone_put path NotFolder is = is

-- why a new end was not put
pub not_put_for : (path : List ℕ) (why : TailError) (told : SyncError) → IsWriteError why
    → TellsTail path why told → NotPutFor path told
not_put_for path tail.Locked told may is = absurd may
not_put_for path tail.Unfinished told may is = absurd may
not_put_for path tail.Gone told may is = gone_put path told is
not_put_for path tail.Fault told may is = subst (NotPutFor path) (sym is) tt
not_put_for path tail.NoMemory told may is = subst (NotPutFor path) (sym is) tt

gone_unread : (path : List ℕ) (told : SyncError) (a b : Option Past) → IsGone path told
    → UnreadFor path told a b
gone_unread path (IsChanged (Name name)) a b is = is
gone_unread path (IsChanged (At place)) a b is = is
gone_unread path Fault a b is = tt
gone_unread path NoMemory a b is = tt
gone_unread path Locked a b is = absurd is
gone_unread path Unfinished a b is = absurd is
gone_unread path (TooMany count) a b is = is
gone_unread path (TooLarge size) a b is = absurd is
gone_unread path NotFolder a b is = is

-- why no lock was taken
pub untaken_for : (path : List ℕ) (why : TailError) (told : SyncError) (a b : Option Past)
    → (why ≡ tail.Locked → LooksOnly a b)
    → (why ≡ tail.Unfinished → MeetsTail path a b × LockAlone path a b)
    → TellsTail path why told → UnreadFor path told a b
untaken_for path tail.Locked told a b looks met is =
    subst (λ (e : SyncError). UnreadFor path e a b) (sym is) (looks refl)
untaken_for path tail.Unfinished told a b looks met is =
    subst (λ (e : SyncError). UnreadFor path e a b) (sym is) (met refl)
untaken_for path tail.Gone told a b looks met is = gone_unread path told a b is
untaken_for path tail.Fault told a b looks met is =
    subst (λ (e : SyncError). UnreadFor path e a b) (sym is) tt
untaken_for path tail.NoMemory told a b looks met is =
    subst (λ (e : SyncError). UnreadFor path e a b) (sym is) tt

-- why a file was not changed

pub unplanned_for : (path : List ℕ) (known : KnownFolder) (changes : List Changed)
    (bytes : List ℕ) (why : SyncError) → UnplannedFor known changes bytes why
    → UnchangedFor path known changes bytes why
unplanned_for path known changes bytes (IsChanged (Name name)) is = absurd is
unplanned_for path known changes bytes (IsChanged (At place)) is = is
unplanned_for path known changes bytes Fault is = absurd is
unplanned_for path known changes bytes NoMemory is = is
unplanned_for path known changes bytes Locked is = is
unplanned_for path known changes bytes Unfinished is = is
unplanned_for path known changes bytes (TooMany count) is = is
unplanned_for path known changes bytes (TooLarge size) is = is
unplanned_for path known changes bytes NotFolder is = is

pub unput_for : (path : List ℕ) (known : KnownFolder) (changes : List Changed) (bytes : List ℕ)
    (why : SyncError) → NotPutFor path why → UnchangedFor path known changes bytes why
unput_for path known changes bytes (IsChanged (Name name)) is = is
unput_for path known changes bytes (IsChanged (At place)) is = absurd is
unput_for path known changes bytes Fault is = tt
unput_for path known changes bytes NoMemory is = tt
unput_for path known changes bytes Locked is = is
unput_for path known changes bytes Unfinished is = is
unput_for path known changes bytes (TooMany count) is = absurd is
unput_for path known changes bytes (TooLarge size) is = absurd is
unput_for path known changes bytes NotFolder is = is

-- no plan blames the disk
pub unplanned_blames : (known : KnownFolder) (changes : List Changed) (bytes : List ℕ)
    (why : SyncError) → UnplannedFor known changes bytes why → why ≡ Fault → ⊥
unplanned_blames known changes bytes why is e = subst (UnplannedFor known changes bytes) e is

-- What each part keeps.

no_fault : NoMemory ≡ Fault → ⊥
no_fault e = cc

-- a refusal is answered, or want of memory, once a lock was given back
pub serves_back : {A B : Type 0} (why result : SyncError) (old mid new : Seen)
    → (result ≡ why) ⊎ (result ≡ NoMemory) → Serves {A = A} (Err why) old mid → GoesOn mid new
    → Serves {A = B} (Err result) old new
serves_back {A} {B} why result old mid new told serves goes = record {
  grows = grows_then old.told mid.told new.told serves.grows goes.grows;
  marks = omega (arith, serves.marks, goes.marks);
  faults = omega (arith, serves.faults, goes.faults);
  cause = λ is. by_told told (let e : result ≡ Fault = cc in e);
}
  where
    risen : Rose old.faults mid.faults → Rose old.faults new.faults
    risen rose = grind (arith, rose, serves.faults, goes.faults)

    by_told : (result ≡ why) ⊎ (result ≡ NoMemory) → result ≡ Fault → Rose old.faults new.faults
    by_told (inl same) is =
        risen (serves.cause (ap (λ (e : SyncError). Err e) (sym same ∙ is)))
    by_told (inr none) is = absurd (no_fault (sym none ∙ is))

-- the same where nothing was called before, and the refusal blames no disk
pub serves_unplanned : {B : Type 0} (why result : SyncError) (old new : Seen)
    → (result ≡ why) ⊎ (result ≡ NoMemory) → (why ≡ Fault → ⊥) → GoesOn old new
    → Serves {A = B} (Err result) old new
serves_unplanned {B} why result old new told never goes = record {
  grows = goes.grows;
  marks = goes.marks;
  faults = goes.faults;
  cause = λ is. absurd (by_told told (let e : result ≡ Fault = cc in e));
}
  where
    by_told : (result ≡ why) ⊎ (result ≡ NoMemory) → result ≡ Fault → ⊥
    by_told (inl same) is = never (sym same ∙ is)
    by_told (inr none) is = no_fault (sym none ∙ is)

-- of a refusal that stays one as much is said
pub serves_err : {A B : Type 0} (why : SyncError) (old new : Seen)
    → Serves {A = A} (Err why) old new → Serves {A = B} (Err why) old new
serves_err why old new serves = record {
  grows = serves.grows;
  marks = serves.marks;
  faults = serves.faults;
  cause = λ is. serves.cause (let e : why ≡ Fault = cc in ap (λ (e : SyncError). Err e) e);
}

-- and of an answer Ok
pub serves_ok : {A B : Type 0} (value : A) (other : B) (old new : Seen) → Serves (Ok value) old new
    → Serves (Ok other) old new
serves_ok value other old new serves = record {
  grows = serves.grows;
  marks = serves.marks;
  faults = serves.faults;
  cause = λ is. absurd (cc);
}

tail_cause : (path : List ℕ) (why : TailError) (told : SyncError) → TellsTail path why told
    → told ≡ Fault → why ≡ tail.Fault
tail_cause path tail.Locked told is e = absurd (let f : Locked ≡ Fault = sym is ∙ e in cc)
tail_cause path tail.Unfinished told is e = absurd (let f : Unfinished ≡ Fault = sym is ∙ e in cc)
tail_cause path tail.Gone told is e = absurd (subst (IsGone path) e is)
tail_cause path tail.Fault told is e = refl
tail_cause path tail.NoMemory told is e = absurd (no_fault (sym is ∙ e))

-- a refusal of a lock, or of a new end, is told
pub serves_tail : {A B : Type 0} (path : List ℕ) (why : TailError) (told : SyncError)
    (old new : Seen) → TellsTail path why told → TailServes {A = A} tail.Fault (Err why) old new
    → Serves {A = B} (Err told) old new
serves_tail {A = A} path why told old new is serves = record {
  grows = serves.grows;
  marks = serves.marks;
  faults = serves.faults;
  cause = λ e. serves.cause (ap (λ (e : TailError). Err e)
      (tail_cause path why told is (let f : told ≡ Fault = cc in f)));
}

-- a lock was taken, and the rest came behind it
pub serves_locked : {B : Type 0} (result : Result B SyncError) (old mid new : Seen)
    → TailServes {A = Unit {0}} tail.Fault (Ok tt) old mid → Serves result mid new
    → Serves result old new
serves_locked result old mid new first next = record {
  grows = grows_then old.told mid.told new.told first.grows next.grows;
  marks = omega (arith, first.marks, next.marks);
  faults = omega (arith, first.faults, next.faults);
  cause = λ is. rose_later old.faults mid.faults new.faults first.faults (next.cause is);
}
