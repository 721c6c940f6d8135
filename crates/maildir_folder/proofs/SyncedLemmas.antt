-- What a sync did, by its parts.
use Rattle.std.proofs.Common.{◌≡◌, ◌<◌, ℕ, List, [], Result, Ok, Err, length, map, sym, ◌∙◌, ap}
use Rattle.std.proofs.Common.{Bool, None, subst}
use Rattle.std.proofs.lemmas.List.{length-map}
use Rattle.mail_base.specs.declared.kind.Kind.TheVariants.{Maildir}
use Rattle.disk_model.specs.Journal.{Past}
use Rattle.disk_model.specs.Seen.{Seen}
use Rattle.disk_model.proofs.Looking.{looks_same}
use Rattle.folder_core.proofs.SeenLemmas.{only_same}
use Rattle.folder_changes.specs.declared.sync_error.SyncError.TheVariants.{NoMemory}
use Rattle.maildir_folder.proofs.StepLemmas.{did_after, did_end, did_none, looks_did}
use Rattle.maildir_folder.proofs.NamingLemmas.{all_longer}
use Rattle.maildir_folder.specs.Steps.{DidNothing}
use Rattle.folder_drivers.proofs.KnownLemmas.{held_so}
use Rattle.folder_drivers.specs.MaildirSync.{WorksByName}
use Rattle.disk_model.specs.Judge.{Grows}
use Rattle.std.specs.Prelude.{OnOk}
use Rattle.std.specs.Prelude.{Option}
use Rattle.mail_base.specs.declared.kind.Id.{Id}
use Rattle.index_items.specs.Changes.{AreBelow, Changed, plain_changes}
use Rattle.folder_letters.specs.Letters.{Mail, plain_letter}
use Rattle.folder_letters.specs.declared.change.Changed1.{Changed1}
use Rattle.folder_letters.specs.declared.letter.Letter.{Letter}
use Rattle.folder_letters.specs.declared.listing.Listed.{Listed}
use Rattle.folder_core.specs.Known.{KnownFolder}
use Rattle.folder_core.specs.Right.{Right}
use Rattle.folder_changes.specs.declared.sync_error.SyncError.{SyncError}
use Rattle.folder_changes.specs.declared.sync_error.SyncError.TheVariants.{Fault}
use Rattle.folder_core.specs.Maildir.{MaildirFile}
use Rattle.folder_stops.specs.Syncs.{KeepsHolds}
use Rattle.folder_shapes.specs.Maildir.{maildir_files}
use Rattle.folder_changes.specs.Left.{listing_synced}
use Rattle.maildir_folder.specs.Plan.{IsPlanRefusal}
use Rattle.folder_changes.specs.Asked.{ids_changed}
use Rattle.folder_changes.specs.Refused.{IsBetween, Untold}
use Rattle.folder_drivers.specs.MaildirSync.{IsSyncError, MaildirRefused}
use Rattle.folder_changes.specs.Serving.{Serves}
use Rattle.folder_changes.specs.Asked.{discarded, ids_of, what_of}
use Rattle.folder_changes.specs.Serving.{IsErrorAt}
use Rattle.folder_drivers.specs.Synced.{Syncs}
use Rattle.folder_stops.specs.Does.{Does}
use Rattle.folder_drivers.specs.MaildirSync.{file_known}
use Rattle.folder_changes.specs.Asked.{AreListed}
use Rattle.maildir_names.proofs.NameLemmas.{made_is_split}
use Rattle.maildir_folder.proofs.StepLemmas.{error_among, error_file}
use Rattle.maildir_folder.proofs.StopLemmas.{here_only, holds_first, keeps_first}
use Rattle.mail_base.specs.declared.flags.Flags.{Flags}
use Rattle.folder_core.specs.Keeping.{mail_of}
use Rattle.std.proofs.Common.{◌∷◌, inl, refl}
use Rattle.folder_core.specs.Maildir.{path_of}
use Rattle.maildir_folder.specs.declared.plan.PlanError.{PlanError}
use Rattle.maildir_folder.specs.declared.plan.PlanError.TheVariants.{Gone}
use Rattle.folder_changes.proofs.ServingLemmas.{serves_looked, untold}
use Rattle.folder_changes.proofs.ApartLemmas.{apart_of, below_in, right_below}
use Rattle.folder_changes.proofs.LeftLemmas.{synced_few, synced_placed, synced_rise, synced_within}
use Rattle.folder_core.specs.MaildirNames.{order_of}
use Rattle.folder_changes.specs.Asked.{AreApart, AreOnce}
use Rattle.std.proofs.Common.{arith}
use Rattle.mail_base.specs.Ordered.{IsIn}
use Rattle.maildir_folder.specs.Candidates.{plain_file}
use Rattle.maildir_folder.specs.NamedFile.{file_named}
use Rattle.maildir_folder.specs.declared.candidates.Candidate.{Candidate}

-- what was right of a Maildir is right whatever its past
right_told : (mails : List Mail) (known : KnownFolder) (old new : Option Past)
    → Right Maildir mails known old → Right Maildir mails known new
right_told mails known old new right = record {
  within = right.within;
  ordered = right.ordered;
  few = right.few;
  read = right.read;
}

-- what a sync leaves of what is known is right
synced_right : (changes : List Changed) (mails : List Mail) (known : KnownFolder)
    (old new : Option Past) → Right Maildir mails known old
    → Right Maildir mails (record known {
      listing = listing_synced Maildir changes known.listing;
      bytes = [];
      stamps = [];
    }) new
synced_right changes mails known old new right = record {
  within = synced_within Maildir changes (length mails) known.listing right.within;
  ordered = synced_rise Maildir changes mails known.listing right.ordered;
  few = omega (arith, right.few, synced_few Maildir changes known.listing);
  read = record {
    placed = synced_placed Maildir changes mails order_of known.listing right.read.placed;
    bytes = refl;
    stamps = refl;
  };
}

-- the keys of listed messages that change once differ
pub right_apart : (mails : List Mail) (known : KnownFolder) (told : Option Past)
    (changes : List Changed) → Right Maildir mails known told → AreListed known.listing changes
    → AreOnce changes → AreApart mails changes
right_apart mails known told changes right listed once =
    apart_of order_of mails known.listing right.ordered right.read.placed changes listed once

-- nothing was done up to a refusal
pub works_none : (path : List ℕ) (mails : List Mail) (changes : List Changed) (why : SyncError)
    (old new : Option Past) → DidNothing path old new
    → WorksByName path mails changes (Err why) old new
works_none path mails changes why old new nothing = record {
  does = did_none path (what_of mails changes) why old new nothing;
  names = tt;
}

-- nothing was done, and then a part
pub works_part : (path : List ℕ) (mails : List Mail) (changes : List Changed) (why : SyncError)
    (old mid new : Option Past) → DidNothing path old mid
    → WorksByName path mails changes (Err why) mid new
    → WorksByName path mails changes (Err why) old new
works_part path mails changes why old mid new first part = record {
  does = did_after path (what_of mails changes) (Err why) old mid new first part.does;
  names = tt;
}

-- nothing was done, then all that is wanted, and then nothing, whatever that answers
pub works_between : (path : List ℕ) (mails : List Mail) (changes : List Changed)
    (result : Result (Unit {0}) SyncError) (old mid late new : Option Past)
    → DidNothing path old mid → Grows old mid → WorksByName path mails changes (Ok tt) mid late
    → DidNothing path late new → Grows late new → WorksByName path mails changes result old new
works_between path mails changes result old mid late new first grows works last more = record {
  does = did_after path (what_of mails changes) result old mid new first
      (did_end path (what_of mails changes) result mid late new works.does last);
  names = on_ok result (all_longer path mails changes old mid late new grows works.names more);
}
  where
    on_ok : {P : Type 0} (r : Result (Unit {0}) SyncError) → P → OnOk r P
    on_ok (Ok done) p = p
    on_ok (Err why) p = tt

-- our calls changed the folder alone
abbrev pub IsHere : List ℕ → Seen → Seen → Type 0
IsHere path old new =
    Does (maildir_files path).shape.home (maildir_files path).making None old.told new.told

-- a sync that was refused
pub syncs_not : (mails : List Mail) (changes : List Changed) (known new_known : KnownFolder)
    (why : SyncError) (old new : Seen) → new_known ≡ known → Right Maildir mails known old.told
    → WorksByName known.path mails changes (Err why) old.told new.told
    → KeepsHolds (maildir_files known.path) (discarded mails changes) old.told new.told
    → IsHere known.path old new
    → IsSyncError known.path mails (ids_of changes) why
    → IsBetween (MaildirRefused known mails changes why) old.told new.told
    → Serves {A = Unit {0}} (Err why) old new
    → (owner : List ℕ) → (purge : Bool)
    → Syncs Maildir owner purge mails changes known new_known (Err why) old new
syncs_not mails changes known new_known why old new same right does holds here names cause serves
    owner purge =
    record {
      syncs = record {
        works = does;
        keeps = holds;
        here = here;
        ok_known = tt;
        err_known = held_so known new_known same;
        may_be = names;
        cause = cause;
        serves = serves;
      };
      right = subst (λ (k : KnownFolder). Right Maildir mails k new.told) (sym same)
          (right_told mails known old.told new.told right);
    }

-- a sync that was done
pub syncs_done : (mails : List Mail) (changes : List Changed) (known new_known : KnownFolder)
    (listing : List Listed) (bytes stamps : List ℕ) (old new : Seen)
    → listing ≡ listing_synced Maildir changes known.listing → bytes ≡ [] → stamps ≡ []
    → new_known ≡ record known { listing = listing; bytes = bytes; stamps = stamps }
    → Right Maildir mails known old.told
    → WorksByName known.path mails changes (Ok tt) old.told new.told
    → KeepsHolds (maildir_files known.path) (discarded mails changes) old.told new.told
    → IsHere known.path old new → Serves {A = Unit {0}} (Ok tt) old new
    → (owner : List ℕ) → (purge : Bool)
    → Syncs Maildir owner purge mails changes known new_known (Ok tt) old new
syncs_done mails changes known new_known listing bytes stamps old new is no_bytes no_stamps put
    right does holds here serves owner purge = record {
      syncs = record {
        works = does;
        keeps = holds;
        here = here;
        ok_known = whole ∙ (λ i. record known {
          listing = listing_synced Maildir changes known.listing;
          bytes = sym right.read.bytes i;
          stamps = sym right.read.stamps i;
        });
        err_known = tt;
        may_be = tt;
        cause = tt;
        serves = serves;
      };
      right = subst (λ (k : KnownFolder). Right Maildir mails k new.told) (sym whole)
          (synced_right changes mails known old.told new.told right);
    }
  where
    whole : new_known ≡ record known {
      listing = listing_synced Maildir changes known.listing;
      bytes = [];
      stamps = [];
    }
    whole = put ∙ (λ i. record known {
      listing = is i;
      bytes = no_bytes i;
      stamps = no_stamps i;
    })

-- a message of which no file is there has an id below those of new letters
pub gone_below : (bound : ℕ) (files : List MaildirFile) (mails : List Mail)
    (changes : List Changed1) (why : PlanError) (id : Id) → why ≡ Gone id
    → IsPlanRefusal files mails (ids_changed changes) why → AreBelow bound changes → id.0 < bound
gone_below bound files mails changes why id is refusal below =
    below_in bound id changes below
    (subst (IsPlanRefusal files mails (ids_changed changes)) is refusal).0

-- it is one of those that change
pub gone_among : (files : List MaildirFile) (mails : List Mail) (changes : List Changed1)
    (why : PlanError) (id : Id) → why ≡ Gone id
    → IsPlanRefusal files mails (ids_changed changes) why → IsIn id (ids_of (plain_changes changes))
gone_among files mails changes why id is refusal =
    (subst (IsPlanRefusal files mails (ids_changed changes)) is refusal).0

-- and none of the files that were listed has its base
pub gone_none : (slice files : List Candidate) (mails : List Mail) (changes : List Changed1)
    (why : PlanError) (id : Id) → slice ≡ files → why ≡ Gone id
    → IsPlanRefusal (map plain_file slice) mails (ids_changed changes) why
    → file_named (map plain_file files) (mail_of mails id.0).key ≡ None
gone_none slice files mails changes why id same is refusal =
    subst (λ (l : List Candidate). file_named (map plain_file l) (mail_of mails id.0).key ≡ None)
    same (subst (IsPlanRefusal (map plain_file slice) mails (ids_changed changes)) is refusal).1

-- the ids of the changes are below the number of letters
pub letters_below : (letters : List Letter) (bound : ℕ) (known : KnownFolder)
    (told : Option Past) (changes : List Changed1) → bound ≡ length letters
    → Right Maildir (map plain_letter letters) known told
    → AreListed known.listing (plain_changes changes) → AreBelow bound changes
letters_below letters bound known told changes is right listed =
    subst (λ (n : ℕ). AreBelow n changes) (length-map letters plain_letter ∙ sym is)
    (right_below Maildir (map plain_letter letters) known told changes right listed)

-- what was done of changes, by the letters as a slice
pub did_letters : (slice letters : List Letter) (changes : List Changed) (path : List ℕ)
    (result : Result (Unit {0}) SyncError) (old new : Option Past) → slice ≡ letters
    → WorksByName path (map plain_letter slice) changes result old new
    → WorksByName path (map plain_letter letters) changes result old new
did_letters slice letters changes path result old new is did =
    subst (λ (l : List Letter). WorksByName path (map plain_letter l) changes result old new) is did

-- a message of which no file is there is refused among all that change
pub gone_named : (path : List ℕ) (files : List MaildirFile) (mails : List Mail)
    (changes : List Changed1) (why : PlanError) (id : Id) (told : SyncError) → why ≡ Gone id
    → IsPlanRefusal files mails (ids_changed changes) why → IsSyncError path mails (id ∷ []) told
    → IsSyncError path mails (ids_of (plain_changes changes)) told
gone_named path files mails changes why id told is refusal names =
    error_among path mails id (ids_of (plain_changes changes)) told
    (subst (IsPlanRefusal files mails (ids_changed changes)) is refusal).0 names

-- a refusal of the message whose file is gone
pub gone_file : (path base : List ℕ) (mails : List Mail) (id : Id) (flags : Flags)
    (why : SyncError) → base ≡ (mail_of mails id.0).key
    → IsErrorAt (path_of path (file_known base flags)) why → IsSyncError path mails (id ∷ []) why
gone_file path base mails id flags why key is =
    error_file (path_of path (file_known base flags)) path mails (id ∷ []) why (record {
      id = id;
      among = inl refl;
      file = file_known base flags;
      base = ap (λ (p : List ℕ × List ℕ). p.0)
          (made_is_split (record { base = base; flags = flags; others = [] })) ∙ key;
      at = refl;
    }) is

-- a refusal by the letters as a slice
pub names_letters : (slice letters : List Letter) (ids : List Id) (path : List ℕ)
    (why : SyncError) → slice ≡ letters → IsSyncError path (map plain_letter slice) ids why
    → IsSyncError path (map plain_letter letters) ids why
names_letters slice letters ids path why is names =
    subst (λ (l : List Letter). IsSyncError path (map plain_letter l) ids why) is names

no_fault : {A : Type 0} → ◌≡◌ {A = Result A SyncError} (Err NoMemory) (Err Fault) → ⊥
no_fault e = cc

-- no cause is told where memory ran out
no_cause : (old new : Option Past) → IsBetween Untold old new
no_cause old new = untold old new

-- the cause of a refusal by the letters as a slice
pub cause_letters : (slice letters : List Letter) (changes : List Changed) (known : KnownFolder)
    (why : SyncError) (old new : Option Past) → slice ≡ letters
    → IsBetween (MaildirRefused known (map plain_letter slice) changes why) old new
    → IsBetween (MaildirRefused known (map plain_letter letters) changes why) old new
cause_letters slice letters changes known why old new is cause =
    subst (λ (l : List Letter). IsBetween (MaildirRefused known (map plain_letter l) changes why)
    old new) is cause

-- a sync for which memory ran out before its first call
pub syncs_none : (mails : List Mail) (changes : List Changed) (known : KnownFolder) (seen : Seen)
    → Right Maildir mails known seen.told
    → (owner : List ℕ) → (purge : Bool)
    → Syncs Maildir owner purge mails changes known known (Err NoMemory) seen seen
syncs_none mails changes known seen right =
    syncs_not mails changes known known NoMemory seen seen refl right
    (works_none known.path mails changes NoMemory seen.told seen.told
    (looks_did known.path seen.told seen.told (looks_same seen.told)))
    (holds_first known.path (discarded mails changes) seen.told)
    (here_only known.path [] (keeps_first known.path [] seen.told)) tt
    (no_cause seen.told seen.told)
    (serves_looked {A = Unit {0}} (Err NoMemory) seen seen (only_same seen)
    (λ is. absurd (no_fault {A = Unit {0}} is)))
