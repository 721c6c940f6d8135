-- A message is added to a mailbox, or not.
use Rattle.std.proofs.Common.{Bool, Err, List, None, Ok, Option, Result, arith, false, inl, inr}
use Rattle.std.proofs.Common.{length}
use Rattle.std.proofs.Common.{subst, sym, take, take_all, ℕ, ◌≡◌, ap}
use Rattle.disk_model.specs.Journal.{Past}
use Rattle.disk_model.specs.Judge.{Grows}
use Rattle.disk_model.specs.Seen.{Seen}
use Rattle.folder_changes.specs.Serving.{Serves}
use Rattle.folder_changes.specs.declared.item.Item.{Item}
use Rattle.folder_changes.specs.declared.sync_error.SyncError.{SyncError}
use Rattle.folder_changes.specs.declared.sync_error.SyncError.TheVariants.{Changed as IsChanged}
use Rattle.folder_changes.specs.declared.sync_error.SyncError.TheVariants.{Fault, Locked, NoMemory}
use Rattle.folder_changes.specs.declared.sync_error.SyncError.TheVariants.{NotFolder, TooLarge}
use Rattle.folder_changes.specs.declared.sync_error.SyncError.TheVariants.{TooMany, Unfinished}
use Rattle.folder_changes.specs.declared.sync_error.Spot.TheVariants.{At, Name}
use Rattle.folder_drivers.specs.MboxAppend.{AddsToMailbox, MboxAppendErrors, NotAddedFor}
use Rattle.folder_drivers.specs.MboxAppend.{NotReadFor}
use Rattle.folder_drivers.specs.MboxLocked.{Locked as AtLock, Passes}
use Rattle.folder_drivers.specs.MboxSync.{UnreadFor, is_home}
use Rattle.folder_stops.specs.Does.{Does}
use Rattle.folder_tails.specs.Recovery.{Entered, SafeLeads}
use Rattle.folder_tails.specs.Rows.{IsSafe}
use Rattle.folder_tails.proofs.Leading.{weaken}
use Rattle.folder_drivers.proofs.MboxTouching.{does_then, leads_does}
use Rattle.mbox_writes.specs.Calls.{Added, AddedLocked, Adds, IsAddition, LockedAdds}
use Rattle.mbox_writes.specs.Calls.{NoAdditionFor, NotAddedHere, NotPutFor, Puts, as_folder}
use Rattle.mbox_writes.proofs.Stages.{reads_on}
use Rattle.mbox_writes.proofs.LeastTest.{least_passes, least_test}
use Rattle.mbox_writes.proofs.Unread.{unread_locked}

-- Why nothing was added.

not_put_here : (path : List ℕ) (item : Item) (bytes : List ℕ) (why : SyncError)
    → NotPutFor path why → NotAddedHere item bytes why
not_put_here path item bytes (IsChanged spot) is = tt
not_put_here path item bytes Fault is = tt
not_put_here path item bytes NoMemory is = tt
not_put_here path item bytes NotFolder is = tt
not_put_here path item bytes Locked is = is
not_put_here path item bytes Unfinished is = is
not_put_here path item bytes (TooMany count) is = absurd is
not_put_here path item bytes (TooLarge size) is = absurd is

pub no_addition_here : (item : Item) (bytes : List ℕ) (why : SyncError)
    → NoAdditionFor item bytes why → NotAddedHere item bytes why
no_addition_here item bytes (IsChanged spot) is = tt
no_addition_here item bytes Fault is = tt
no_addition_here item bytes NoMemory is = is
no_addition_here item bytes NotFolder is = is
no_addition_here item bytes Locked is = is
no_addition_here item bytes Unfinished is = is
no_addition_here item bytes (TooMany count) is = is
no_addition_here item bytes (TooLarge size) is = is

pub addition_blames : (item : Item) (bytes : List ℕ) (why : SyncError)
    → NoAdditionFor item bytes why → why ≡ Fault → ⊥
addition_blames item bytes why is e = subst (NoAdditionFor item bytes) e is

-- Under the lock.

module _ (path owner : List ℕ) (item : Item) (bytes : List ℕ) where
  whole : take (length bytes) bytes ≡ bytes
  whole = take_all (length bytes) bytes (omega arith)

  pub added : (end : List ℕ) (held : Bool) (a b : Option Past) → IsAddition item bytes end
      → Puts path owner bytes end held (Ok tt) a b → Added path owner item bytes (Ok tt) a b
  added end held a b is put =
      let so = subst (λ (e : List ℕ). Puts path owner bytes e held (Ok tt) a b) is.written put in
      record {
        keeps = λ ours passes. so.keeps ours passes bytes whole;
        puts = λ ours passes. so.puts ours passes bytes whole;
        mailbox = is.mailbox;
        few = is.few;
        small = is.small;
        why = tt;
      }

  pub not_added : (end : List ℕ) (held : Bool) (why : SyncError) (a b : Option Past)
      → IsAddition item bytes end → Puts path owner bytes end held (Err why) a b
      → Added path owner item bytes (Err why) a b
  not_added end held why a b is put =
      let so = subst (λ (e : List ℕ). Puts path owner bytes e held (Err why) a b) is.written put in
      record {
        keeps = λ ours passes. so.keeps ours passes bytes whole;
        puts = tt;
        mailbox = tt;
        few = tt;
        small = tt;
        why = not_put_here path item bytes why put.why;
      }

  pub maybe_added : (end : List ℕ) (held : Bool) (result : Result (Unit {0}) SyncError)
      (a b : Option Past) → IsAddition item bytes end → Puts path owner bytes end held result a b
      → Added path owner item bytes result a b
  maybe_added end held (Ok tt) a b is put = added end held a b is put
  maybe_added end held (Err why) a b is put = not_added end held why a b is put

  pub unmade : (why : SyncError) (a b : Option Past)
      → ((ours : List ℕ → Bool) → Passes owner ours
      → SafeLeads path ours a b (AtLock path ours) (IsSafe path ours))
      → NotAddedHere item bytes why → Added path owner item bytes (Err why) a b
  unmade why a b back told = record {
    keeps = λ ours passes. weaken path 0 (IsSafe path ours) (back ours passes)
        (λ may s x. x.holds.locked) (λ may s x. x);
    puts = tt;
    mailbox = tt;
    few = tt;
    small = tt;
    why = told;
  }

-- The lock comes before.

pub adds_locked : (path owner : List ℕ) (item : Item) (result : Result (Unit {0}) SyncError)
    (a b c : Option Past) → Grows a b
    → ((ours : List ℕ → Bool) → Passes owner ours
    → SafeLeads path ours a b (Entered path ours false) (AtLock path ours))
    → LockedAdds path owner item result b c → Adds path owner item result a c
adds_locked path owner item result a b c grows locks (inl unread) =
    inl (unread_locked path owner false result a b c grows locks unread)
adds_locked path owner item result a b c grows locks (inr read) =
    inr (record { before = b; locks = locks; read = read })

-- The whole call.

not_read_for : (path : List ℕ) (why : SyncError) (a b : Option Past) → UnreadFor path why a b
    → NotReadFor path (as_folder why) a b
not_read_for path (IsChanged (Name name)) a b is = tt
not_read_for path (IsChanged (At place)) a b is = tt
not_read_for path Fault a b is = tt
not_read_for path NoMemory a b is = tt
not_read_for path NotFolder a b is = tt
not_read_for path Locked a b is = is
not_read_for path Unfinished a b is = is
not_read_for path (TooMany count) a b is = is
not_read_for path (TooLarge size) a b is = is

not_added_for : (item : Item) (bytes : List ℕ) (why : SyncError) → NotAddedHere item bytes why
    → NotAddedFor item bytes (as_folder why)
not_added_for item bytes (IsChanged spot) is = tt
not_added_for item bytes Fault is = tt
not_added_for item bytes NoMemory is = tt
not_added_for item bytes NotFolder is = tt
not_added_for item bytes Locked is = is
not_added_for item bytes Unfinished is = is
not_added_for item bytes (TooMany count) is = is
not_added_for item bytes (TooLarge size) is = is

as_errors : (why : SyncError) → MboxAppendErrors (as_folder why)
as_errors (IsChanged spot) = tt
as_errors Fault = tt
as_errors NoMemory = tt
as_errors NotFolder = tt
as_errors Locked = tt
as_errors Unfinished = tt
as_errors (TooMany count) = tt
as_errors (TooLarge size) = tt

as_fault : (why : SyncError) → as_folder why ≡ Fault → why ≡ Fault
as_fault (IsChanged spot) e = absurd (cc)
as_fault Fault e = e
as_fault NoMemory e = e
as_fault NotFolder e = e
as_fault Locked e = e
as_fault Unfinished e = e
as_fault (TooMany count) e = e
as_fault (TooLarge size) e = e

module _ (path owner : List ℕ) (item : Item) where
  read_does : (result : Result (Unit {0}) SyncError) (a b : Option Past)
      → AddedLocked path owner item result a b → Does (is_home path) (λ at. None) None a b
  read_does result a b added =
      let passes = least_passes owner in
      let read = added.read in
      does_then path a added.before b
      (leads_does path 0 a added.before (added.locks (least_test owner) passes))
      (does_then path added.before read.behind b
      (leads_does path 0 added.before read.behind
      (reads_on path (least_test owner) read.bytes read.reads))
      (leads_does path 0 read.behind b (read.went.keeps (least_test owner) passes)))

  pub adds_done : (old new : Seen) → Adds path owner item (Ok tt) old.told new.told
      → Serves {A = Unit {0}} (Ok tt) old new → AddsToMailbox path owner item (Ok tt) old new
  adds_done old new (inl unread) serves = absurd unread.not_done
  adds_done old new (inr added) serves = let read = added.read in record {
    adds = inr (record {
      bytes = read.bytes;
      before = added.before;
      behind = read.behind;
      locks = added.locks;
      reads = read.reads;
      held_so = λ ours. reads_on path ours read.bytes read.reads;
      keeps = read.went.keeps;
      puts = read.went.puts;
      mailbox = read.went.mailbox;
      few = read.went.few;
      small = read.went.small;
      why = tt;
    });
    here = read_does (Ok tt) old.told new.told added;
    may_be = tt;
    serves = serves;
  }

  serves_folder : (why : SyncError) (old new : Seen) → Serves {A = Unit {0}} (Err why) old new
      → Serves {A = Unit {0}} (Err (as_folder why)) old new
  serves_folder why old new serves = record {
    grows = serves.grows;
    marks = serves.marks;
    faults = serves.faults;
    cause = λ is. serves.cause (ap (λ (e : SyncError). Err e)
        (as_fault why (let e : as_folder why ≡ Fault = cc in e)));
  }

  adds_refused : (why : SyncError) (old new : Seen)
      → Adds path owner item (Err why) old.told new.told
      → Serves {A = Unit {0}} (Err why) old new
      → AddsToMailbox path owner item (Err (as_folder why)) old new
  adds_refused why old new (inl unread) serves = record {
    adds = inl (record {
      not_done = tt;
      keeps = unread.keeps;
      why = not_read_for path why old.told new.told unread.why;
    });
    here = leads_does path 0 old.told new.told
        (unread.keeps (least_test owner) (least_passes owner));
    may_be = as_errors why;
    serves = serves_folder why old new serves;
  }
  adds_refused why old new (inr added) serves = let read = added.read in record {
    adds = inr (record {
      bytes = read.bytes;
      before = added.before;
      behind = read.behind;
      locks = added.locks;
      reads = read.reads;
      held_so = λ ours. reads_on path ours read.bytes read.reads;
      keeps = read.went.keeps;
      puts = tt;
      mailbox = tt;
      few = tt;
      small = tt;
      why = not_added_for item read.bytes why read.went.why;
    });
    here = read_does (Err why) old.told new.told added;
    may_be = as_errors why;
    serves = serves_folder why old new serves;
  }

  pub adds_not : (why told : SyncError) (old new : Seen) → told ≡ as_folder why
      → Adds path owner item (Err why) old.told new.told
      → Serves {A = Unit {0}} (Err why) old new → AddsToMailbox path owner item (Err told) old new
  adds_not why told old new is adds serves =
      subst (λ (e : SyncError). AddsToMailbox path owner item (Err e) old new) (sym is)
      (adds_refused why old new adds serves)
