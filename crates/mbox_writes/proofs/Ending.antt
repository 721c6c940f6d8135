-- What the whole call promises.
use Rattle.std.proofs.Common.{Bool, Err, List, Ok, Option, Result, [], ap, append-nil, false, None}
use Rattle.std.proofs.Common.{inl, inr, length, map, subst, sym, ℕ, ◌≡◌, ◌++◌, ◌∷◌, ◌∙◌, ◌⊎◌}
use Rattle.std.proofs.lemmas.Bool.{le-ltb}
use Rattle.std.proofs.lemmas.List.{length-map}
use Rattle.mail_base.specs.declared.kind.Kind.TheVariants.{Mbox}
use Rattle.disk_model.specs.Journal.{Past}
use Rattle.disk_model.specs.Judge.{Grows}
use Rattle.disk_model.specs.Seen.{Seen}
use Rattle.folder_letters.specs.Letters.{Mail, plain_letter}
use Rattle.folder_letters.specs.declared.letter.Letter.{Letter}
use Rattle.folder_letters.specs.declared.change.Changed1.{Changed1}
use Rattle.folder_core.specs.Keeping.{ListedMail, mails_of}
use Rattle.folder_core.specs.Known.{KnownFolder}
use Rattle.folder_core.specs.Limits.{most_bytes}
use Rattle.folder_core.specs.Mbox.{IsKeptStamp}
use Rattle.folder_core.specs.Right.{Right}
use Rattle.folder_core.proofs.RightLemmas.{right_later}
use Rattle.folder_changes.specs.Asked.{AreListed}
use Rattle.folder_changes.specs.Serving.{Serves}
use Rattle.folder_changes.specs.declared.sync_error.Spot.TheVariants.{At, Name}
use Rattle.folder_changes.specs.declared.sync_error.SyncError.{SyncError}
use Rattle.folder_changes.specs.declared.sync_error.SyncError.TheVariants.{Changed as IsChanged}
use Rattle.folder_changes.specs.declared.sync_error.SyncError.TheVariants.{Fault, Locked, NoMemory}
use Rattle.folder_changes.specs.declared.sync_error.SyncError.TheVariants.{NotFolder, TooLarge}
use Rattle.folder_changes.specs.declared.sync_error.SyncError.TheVariants.{TooMany, Unfinished}
use Rattle.folder_changes.proofs.ServingLemmas.{untold}
use Rattle.folder_changes.proofs.ApartLemmas.{right_below}
use Rattle.folder_stops.specs.Does.{Does}
use Rattle.index_items.specs.Changes.{AreBelow, Changed, plain_changes}
use Rattle.folder_drivers.proofs.MboxTouching.{does_then, leads_does}
use Rattle.mbox_writes.proofs.LawLemmas.{known_stays}
use Rattle.mbox_writes.specs.Calls.{Changes}
use Rattle.folder_drivers.specs.MboxSync.{MboxErrors, UnchangedFor, Unread, UnreadFor, WasRead}
use Rattle.folder_drivers.specs.MboxSync.{changed_file, is_home, known_synced}
use Rattle.folder_drivers.specs.Synced.{Syncs}
use Rattle.mbox_writes.specs.declared.plan.Plan.{Plan}
use Rattle.mbox_writes.proofs.Causes.{serves_err, serves_ok}
use Rattle.mbox_writes.proofs.LeastTest.{least_passes, least_test}

-- the ids of the changes are below the number of letters
pub letters_below : (letters : List Letter) (bound : ℕ) (known : KnownFolder)
    (told : Option Past) (changes : List Changed1) → bound ≡ length letters
    → Right Mbox (map plain_letter letters) known told
    → AreListed known.listing (plain_changes changes) → AreBelow bound changes
letters_below letters bound known told changes is right listed =
    subst (λ (n : ℕ). AreBelow n changes) (length-map letters plain_letter ∙ sym is)
    (right_below Mbox (map plain_letter letters) known told changes right listed)

-- a kept stamp is so whether the lock is held or not
kept_stamp : (listed : List ListedMail) (known : KnownFolder) (held : Bool) (told : Option Past)
    (stamps : List ℕ) → IsKeptStamp listed known stamps told
    → IsKeptStamp listed (record known { held = held }) stamps told
kept_stamp listed known held told [] kept = kept
kept_stamp listed known held told (stamp ∷ []) kept = record { all = kept.all; bore = kept.bore }
kept_stamp listed known held told (stamp ∷ more ∷ stamps) kept = kept

-- what is known stays right, whether its lock is held or not
pub right_held : (mails : List Mail) (known : KnownFolder) (held : Bool) (a b : Option Past)
    → Grows a b → Right Mbox mails known a → Right Mbox mails (record known { held = held }) b
right_held mails known held a b grows right =
    let later = subst (λ (l : List Mail). Right Mbox l known b) (append-nil mails)
    (right_later Mbox mails [] known a b grows right) in
    record {
      within = later.within;
      ordered = later.ordered;
      few = later.few;
      read = record {
        placed = later.read.placed;
        few = later.read.few;
        begins = later.read.begins;
        first = later.read.first;
        stamp = kept_stamp (mails_of mails known.listing) known held b known.stamps
            later.read.stamp;
      };
    }

module _ (path owner : List ℕ) (known : KnownFolder) (changes : List Changed) (held : Bool) where
  unread_does : {A : Type 0} (result : Result A SyncError) (a b : Option Past)
      → Unread path owner held result a b → Does (is_home path) (λ at. None) None a b
  unread_does result a b unread =
      leads_does path 0 a b (unread.keeps (least_test owner) (least_passes owner))

  read_does : {A : Type 0} (result : Result A SyncError) (a b : Option Past)
      → WasRead path owner held known changes result a b
      → Does (is_home path) (λ at. None) None a b
  read_does result a b read =
      let passes = least_passes owner in
      does_then path a read.before b
      (leads_does path 0 a read.before (read.locks (least_test owner) passes))
      (does_then path read.before read.behind b
      (leads_does path 0 read.before read.behind (read.held_so (least_test owner)))
      (leads_does path 0 read.behind b (read.keeps (least_test owner) passes)))

-- How it may be refused.

unread_errors : (known : KnownFolder) (why : SyncError) (a b : Option Past)
    → UnreadFor known.path why a b → MboxErrors known why
unread_errors known (IsChanged (Name name)) a b is = is
unread_errors known (IsChanged (At place)) a b is = tt
unread_errors known NotFolder a b is = is
unread_errors known Locked a b is = tt
unread_errors known Unfinished a b is = tt
unread_errors known (TooMany count) a b is = tt
unread_errors known (TooLarge size) a b is = tt
unread_errors known Fault a b is = tt
unread_errors known NoMemory a b is = tt

unchanged_errors : (known : KnownFolder) (changes : List Changed) (bytes : List ℕ)
    (why : SyncError) → UnchangedFor known.path known changes bytes why → MboxErrors known why
unchanged_errors known changes bytes (IsChanged (Name name)) is = is
unchanged_errors known changes bytes (IsChanged (At place)) is = tt
unchanged_errors known changes bytes NotFolder is = is
unchanged_errors known changes bytes Locked is = tt
unchanged_errors known changes bytes Unfinished is = tt
unchanged_errors known changes bytes (TooMany count) is = tt
unchanged_errors known changes bytes (TooLarge size) is = tt
unchanged_errors known changes bytes Fault is = tt
unchanged_errors known changes bytes NoMemory is = tt

-- What the whole call promises, answered Ok and refused.

module _ (owner : List ℕ) (purge : Bool) (mails : List Mail) (changes : List Changed)
    (known new_known : KnownFolder) (old new : Seen) where
  abbrev path : List ℕ
  path = known.path

  synced_so : (held : Bool) (plan : Plan)
      → Changes owner known changes known.held held (Ok plan) old.told new.told
      → new_known ≡ record known {
        listing = plan.listing.items;
        bytes = plan.front.items ++ plan.tail.items;
        stamps = [];
        held = false;
      }
      → Serves (Ok plan) old new → Right Mbox mails known old.told
      → Syncs Mbox owner purge mails changes known new_known (Ok tt) old new
  synced_so held plan (inl unread) is serves right = absurd unread.not_done
  synced_so held plan (inr planned) is serves right =
      let read = planned.read in
      let same : new_known ≡ known_synced changes read.bytes known = is
      ∙ (λ i. record known {
        listing = planned.plan.listing i;
        bytes = planned.plan.whole i;
        stamps = [];
        held = false;
      }) in
      let went : WasRead path owner known.held known changes {A = Unit {0}} (Ok tt) old.told
      new.told = record {
        bytes = read.bytes;
        before = read.before;
        behind = read.behind;
        locks = read.locks;
        reads = read.reads;
        held_so = read.held_so;
        keeps = read.keeps;
        puts = read.puts;
        as_known = read.as_known;
        small = read.small;
        why = tt;
      } in
      record {
        syncs = record {
          works = inr went;
          keeps = tt;
          here = read_does path owner known changes known.held (Ok plan) old.told new.told read;
          ok_known = record { read = went; known_so = same };
          err_known = tt;
          may_be = tt;
          cause = tt;
          serves = serves_ok plan tt old new serves;
        };
        right = subst (λ (k : KnownFolder). Right Mbox mails k new.told) (sym same)
            (known_stays mails known old.told new.told changes read.bytes right
            read.as_known.begins read.as_known.mailbox
            (le-ltb most_bytes (length (changed_file known changes read.bytes)) read.small));
      }

  pub synced : (was held : Bool) (plan : Plan) → was ≡ known.held
      → Changes owner known changes was held (Ok plan) old.told new.told
      → new_known ≡ record known {
        listing = plan.listing.items;
        bytes = plan.front.items ++ plan.tail.items;
        stamps = [];
        held = false;
      }
      → Serves (Ok plan) old new → Right Mbox mails known old.told
      → Syncs Mbox owner purge mails changes known new_known (Ok tt) old new
  synced was held plan same went is serves right = synced_so held plan
      (subst (λ (h : Bool). Changes owner known changes h held (Ok plan) old.told new.told) same
      went) is serves right

  not_known : (held : Bool) → new_known ≡ record known { held = held }
      → new_known ≡ record known { held = new_known.held }
  not_known held is =
      is ∙ (λ i. record known { held = sym (ap (λ (k : KnownFolder). k.held) is) i })

  unsynced : (held : Bool) (why : SyncError) → new_known ≡ record known { held = held }
      → Does (is_home path) (λ at. None) None old.told new.told
      → Unread path owner known.held {A = Unit {0}} (Err why) old.told new.told
      ⊎ WasRead path owner known.held known changes {A = Unit {0}} (Err why) old.told new.told
      → MboxErrors known why → Serves {A = Plan} (Err why) old new → Right Mbox mails known old.told
      → Syncs Mbox owner purge mails changes known new_known (Err why) old new
  unsynced held why is here went errors serves right = record {
    syncs = record {
      works = went;
      keeps = tt;
      here = here;
      ok_known = tt;
      err_known = not_known held is;
      may_be = errors;
      cause = untold old.told new.told;
      serves = serves_err why old new serves;
    };
    right = subst (λ (k : KnownFolder). Right Mbox mails k new.told) (sym is)
        (right_held mails known held old.told new.told serves.grows right);
  }

  refused_so : (held : Bool) (why : SyncError)
      → Changes owner known changes known.held held (Err why) old.told new.told
      → new_known ≡ record known { held = held } → Serves {A = Plan} (Err why) old new
      → Right Mbox mails known old.told
      → Syncs Mbox owner purge mails changes known new_known (Err why) old new
  refused_so held why (inl unread) is serves right =
      unsynced held why is
      (unread_does path owner known changes known.held (Err why) old.told new.told unread)
      (inl (record { not_done = tt; keeps = unread.keeps; why = unread.why }))
      (unread_errors known why old.told new.told unread.why) serves right
  refused_so held why (inr planned) is serves right =
      let read = planned.read in
      unsynced held why is
      (read_does path owner known changes known.held (Err why) old.told new.told read)
      (inr (record {
        bytes = read.bytes;
        before = read.before;
        behind = read.behind;
        locks = read.locks;
        reads = read.reads;
        held_so = read.held_so;
        keeps = read.keeps;
        puts = tt;
        as_known = tt;
        small = tt;
        why = read.why;
      }))
      (unchanged_errors known changes read.bytes why read.why) serves right

  pub refused : (was held : Bool) (why : SyncError) → was ≡ known.held
      → Changes owner known changes was held (Err why) old.told new.told
      → new_known ≡ record known { held = held } → Serves {A = Plan} (Err why) old new
      → Right Mbox mails known old.told
      → Syncs Mbox owner purge mails changes known new_known (Err why) old new
  refused was held why same went is serves right = refused_so held why
      (subst (λ (h : Bool). Changes owner known changes h held (Err why) old.told new.told) same
      went) is serves right
