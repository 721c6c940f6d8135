-- What a sync answers.
use Rattle.std.proofs.Common.{◌≡◌, ◌∙◌, ℕ, Bool, List, [], None, Result, Ok, Err, length, map, refl}
use Rattle.std.proofs.Common.{subst, sym, true, false, ap, inl, inr, is_some, Some, ◌==◌, ◌||◌, ◌∷◌}
use Rattle.std.proofs.Common.{if◌then◌else◌}
use Rattle.mail_base.specs.Ordered.{IsIn}
use Rattle.mail_base.specs.declared.kind.Id.{Id}
use Rattle.std.proofs.lemmas.List.{length-map}
use Rattle.mail_base.specs.declared.kind.Kind.TheVariants.{Mh}
use Rattle.disk_model.specs.Journal.{Past}
use Rattle.disk_model.specs.Seen.{Seen}
use Rattle.index_items.specs.Changes.{AreBelow, Changed, plain_changes}
use Rattle.folder_letters.specs.Letters.{Mail, plain_letter}
use Rattle.folder_letters.specs.declared.change.Changed1.{Changed1}
use Rattle.folder_letters.specs.declared.letter.Letter.{Letter}
use Rattle.folder_letters.specs.declared.listing.Listed.{Listed}
use Rattle.folder_core.specs.Known.{KnownFolder}
use Rattle.folder_core.specs.Keeping.{lists_id, mails_of}
use Rattle.folder_core.specs.Mh.{AllBore, number_at}
use Rattle.folder_core.specs.Right.{Right}
use Rattle.folder_core.proofs.SeenLemmas.{only_same}
use Rattle.folder_changes.specs.Asked.{AreApart, AreListed, AreOnce, ids_of}
use Rattle.folder_changes.specs.Left.{listing_synced}
use Rattle.folder_changes.specs.Refused.{IsBetween}
use Rattle.folder_changes.specs.Serving.{Serves}
use Rattle.folder_changes.specs.declared.sync_error.SyncError.{SyncError}
use Rattle.folder_changes.specs.declared.sync_error.SyncError.TheVariants.{Fault, NoMemory}
use Rattle.folder_changes.proofs.ApartLemmas.{apart_of, right_below}
use Rattle.folder_changes.proofs.ServingLemmas.{serves_looked}
use Rattle.folder_drivers.proofs.KnownLemmas.{held_so}
use Rattle.folder_drivers.specs.MhLeft.{KeepsNumbers, MhErrors, MhRefused, mh_synced, stamp_known}
use Rattle.folder_drivers.specs.MhLeft.{stamps_synced}
use Rattle.folder_drivers.specs.MhSync.{DidByNumber}
use Rattle.folder_drivers.specs.Synced.{Syncs}
use Rattle.folder_shapes.specs.Mh.{mh_shape, number_in}
use Rattle.folder_stops.specs.Does.{Does}
use Rattle.std.specs.Prelude.{Option}
use Rattle.mh_syncs.specs.Causes.{AreStamped}
use Rattle.mh_syncs.proofs.Calling.{leaves_first}
use Rattle.mh_syncs.proofs.Causing.{none_refused}
use Rattle.mh_syncs.proofs.Stamping.{still_right, synced_right}
use Rattle.mh_syncs.proofs.Whole.{not_prepared}

true_false : ◌≡◌ {A = Bool} true false → ⊥
true_false e = cc

-- the keys of listed messages that change once differ
pub right_apart : (mails : List Mail) (known : KnownFolder) (told : Option Past)
    (changes : List Changed) → Right Mh mails known told → AreListed known.listing changes
    → AreOnce changes → AreApart mails changes
right_apart mails known told changes right listed once =
    apart_of number_at mails known.listing right.ordered right.read.placed changes listed once

-- the ids of the changes are below the number of letters
pub letters_below : (letters : List Letter) (bound : ℕ) (known : KnownFolder)
    (told : Option Past) (changes : List Changed1) → bound ≡ length letters
    → Right Mh (map plain_letter letters) known told
    → AreListed known.listing (plain_changes changes) → AreBelow bound changes
letters_below letters bound known told changes is right listed =
    subst (λ (n : ℕ). AreBelow n changes) (length-map letters plain_letter ∙ sym is)
    (right_below Mh (map plain_letter letters) known told changes right listed)

module _ (purge : Bool) (changes : List Changed) (known new_known : KnownFolder)
    (old new : Seen) where
  -- a sync that was refused
  pub syncs_not : (mails : List Mail) (why : SyncError) → new_known ≡ known
      → Right Mh mails known old.told
      → DidByNumber purge known.path mails changes (Err why) old.told new.told
      → KeepsNumbers known mails changes old.told new.told
      → Does (mh_shape known.path).home (number_in known.path) None old.told new.told
      → MhErrors known mails changes why
      → IsBetween (MhRefused known mails changes why) old.told new.told
      → Serves {A = Unit {0}} (Err why) old new
      → (owner : List ℕ) → Syncs Mh owner purge mails changes known new_known (Err why) old new
  syncs_not mails why same right works keeps here names cause serves owner = record {
    syncs = record {
      works = works;
      keeps = keeps;
      here = here;
      ok_known = tt;
      err_known = held_so known new_known same;
      may_be = names;
      cause = cause;
      serves = serves;
    };
    right = subst (λ (k : KnownFolder). Right Mh mails k new.told) (sym same)
        (still_right mails known old.told new.told serves.grows right);
  }

  -- a sync that was done
  pub syncs_done : (mails : List Mail) (listing : List Listed) (bytes stamps : List ℕ)
      → listing ≡ listing_synced Mh changes known.listing → bytes ≡ []
      → stamps ≡ stamps_synced changes known.listing known.stamps
      → new_known ≡ record known { listing = listing; bytes = bytes; stamps = stamps }
      → Right Mh mails known old.told
      → DidByNumber purge known.path mails changes (Ok tt) old.told new.told
      → KeepsNumbers known mails changes old.told new.told
      → Does (mh_shape known.path).home (number_in known.path) None old.told new.told
      → Serves {A = Unit {0}} (Ok tt) old new
      → (owner : List ℕ) → Syncs Mh owner purge mails changes known new_known (Ok tt) old new
  syncs_done mails listing bytes stamps is none left put right works keeps here serves owner =
      record {
        syncs = record {
          works = works;
          keeps = keeps;
          here = here;
          ok_known = whole;
          err_known = tt;
          may_be = tt;
          cause = tt;
          serves = serves;
        };
        right = subst (λ (k : KnownFolder). Right Mh mails k new.told) (sym whole)
            (synced_right changes mails known old.told new.told serves.grows right);
      }
    where
      whole : new_known ≡ mh_synced changes known
      whole = put ∙ (λ i. record known {
        listing = is i;
        bytes = (none ∙ sym right.read.bytes) i;
        stamps = left i;
      })

no_fault : ◌≡◌ {A = Result (Unit {0}) SyncError} (Err NoMemory) (Err Fault) → ⊥
no_fault e = cc

-- a sync for which memory ran out before its first call
pub syncs_none : (purge : Bool) (mails : List Mail) (changes : List Changed) (known : KnownFolder)
    (seen : Seen) → Right Mh mails known seen.told
    → (owner : List ℕ) → Syncs Mh owner purge mails changes known known (Err NoMemory) seen seen
syncs_none purge mails changes known seen right =
    let stands = not_prepared purge known mails changes NoMemory seen.told seen.told
    (leaves_first known.path seen.told) in
    syncs_not purge changes known known seen seen mails NoMemory refl right stands.works
    stands.keeps stands.here tt (none_refused known mails changes seen.told)
    (serves_looked {A = Unit {0}} (Err NoMemory) seen seen (only_same seen)
    (λ is. absurd (no_fault is)))

-- The letters as a slice.

pub did_letters : (purge : Bool) (slice letters : List Letter) (changes : List Changed)
    (path : List ℕ) (result : Result (Unit {0}) SyncError) (old new : Option Past)
    → slice ≡ letters
    → DidByNumber purge path (map plain_letter slice) changes result old new
    → DidByNumber purge path (map plain_letter letters) changes result old new
did_letters purge slice letters changes path result old new is did =
    subst (λ (l : List Letter). DidByNumber purge path (map plain_letter l) changes result old new)
    is did

pub keeps_letters : (slice letters : List Letter) (known : KnownFolder) (changes : List Changed)
    (old new : Option Past) → slice ≡ letters
    → KeepsNumbers known (map plain_letter slice) changes old new
    → KeepsNumbers known (map plain_letter letters) changes old new
keeps_letters slice letters known changes old new is keeps =
    subst (λ (l : List Letter). KeepsNumbers known (map plain_letter l) changes old new) is keeps

pub names_letters : (slice letters : List Letter) (known : KnownFolder) (changes : List Changed)
    (why : SyncError) → slice ≡ letters → MhErrors known (map plain_letter slice) changes why
    → MhErrors known (map plain_letter letters) changes why
names_letters slice letters known changes why is names =
    subst (λ (l : List Letter). MhErrors known (map plain_letter l) changes why) is names

-- a listed message has a stamp, where as many are known
stamped : (mails : List Mail) (listing : List Listed) (stamps : List ℕ) (past : Past) (id : ℕ)
    → AllBore (mails_of mails listing) stamps past → lists_id listing id ≡ true
    → is_some (stamp_known listing stamps id) ≡ true
stamped mails [] stamps past id bore listed = absurd (true_false (sym listed))
stamped mails (first ∷ listing) [] past id bore listed = absurd bore
stamped mails (first ∷ listing) (stamp ∷ stamps) past id bore listed =
    by (first.id.0 == id) listed (stamped mails listing stamps past id bore.1)
  where
    by : (t : Bool) → (t || lists_id listing id) ≡ true
        → (lists_id listing id ≡ true → is_some (stamp_known listing stamps id) ≡ true)
        → is_some (if t then Some stamp else stamp_known listing stamps id) ≡ true
    by true listed more = refl
    by false listed more = more listed

-- the messages that change are listed
change_listed : (listing : List Listed) (changes : List Changed) (id : Id)
    → AreListed listing changes → IsIn id (ids_of changes) → lists_id listing id.0 ≡ true
change_listed listing [] id are held = absurd held
change_listed listing (changed ∷ changes) id are (inl same) =
    ap (λ (i : Id). lists_id listing i.0) (sym same) ∙ are.0
change_listed listing (changed ∷ changes) id are (inr held) =
    change_listed listing changes id are.1 held

-- why it was refused, by the stamps that are known
pub cause_letters : (slice letters : List Letter) (known : KnownFolder) (changes : List Changed)
    (why : SyncError) (old new : Option Past) → slice ≡ letters
    → Right Mh (map plain_letter letters) known old → AreListed known.listing changes
    → (AreStamped known changes
    → IsBetween (MhRefused known (map plain_letter slice) changes why) old new)
    → IsBetween (MhRefused known (map plain_letter letters) changes why) old new
cause_letters slice letters known changes why None new is right listed cause = tt
cause_letters slice letters known changes why (Some old) new is right listed cause =
    subst (λ (l : List Letter). IsBetween (MhRefused known (map plain_letter l) changes why)
    (Some old) new) is
    (cause (λ id among. stamped (map plain_letter letters) known.listing known.stamps old id.0
    right.read.stamps (change_listed known.listing changes id listed among)))
