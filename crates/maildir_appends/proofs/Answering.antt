-- What the adding of a message answers.
use Rattle.std.proofs.Common.{◌≡◌, ℕ, true, List, Option, None, Result, Ok, Err, map}
use Rattle.std.proofs.Common.{ap, subst}
use Rattle.std.specs.String.{string_bytes}
use Rattle.mail_base.specs.declared.flags.Flags.{Flags}
use Rattle.disk_model.specs.Seen.{Seen}
use Rattle.folder_core.specs.Maildir.{directory}
use Rattle.folder_letters.specs.Letters.{Mail, plain_letter}
use Rattle.folder_letters.specs.declared.letter.Letter.{Letter}
use Rattle.folder_changes.specs.Refused.{IsBetween}
use Rattle.folder_changes.specs.declared.item.Item.{Item}
use Rattle.folder_changes.specs.declared.sync_error.SyncError.{SyncError}
use Rattle.folder_changes.specs.declared.sync_error.SyncError.TheVariants.{Fault}
use Rattle.folder_drivers.specs.AppendRow.{AppendsAs}
use Rattle.folder_drivers.specs.FirstLooking.{LooksFirst, MeetsFolder}
use Rattle.disk_model.specs.Journal.{Create, Done, Own, Past, Rename}
use Rattle.folder_stops.specs.Words.{Among}
use Rattle.std.proofs.Common.{◌++◌}
use Rattle.folder_drivers.specs.MaildirAppend.{IsFirstFree, MadeAndNamed}
use Rattle.folder_drivers.specs.MaildirAppend.{MaildirAppendRefused}
use Rattle.folder_drivers.specs.MaildirAppend.{beside_at}
use Rattle.folder_drivers.specs.MaildirAppend.{maildir_additions, seconds_of}
use Rattle.folder_shapes.specs.Maildir.{maildir_files}
use Rattle.folder_shapes.proofs.MaildirLemmas.{a_maildir}
use Rattle.folder_stops.specs.Along.{Grown}
use Rattle.folder_stops.specs.Appends.{AddedSome, AddsSome}
use Rattle.folder_stops.proofs.Along.{grown_then}
use Rattle.maildir_appends.specs.Placing.{AreChosen, AreOf, PutsAt}
use Rattle.folder_drivers.specs.Preparing.{Prepares}
use Rattle.folder_drivers.specs.Refusing.{BlamesDisk}
use Rattle.maildir_appends.specs.Taken.{is_taken}
use Rattle.folder_drivers.specs.MetNames.{plain_names}
use Rattle.maildir_appends.specs.declared.places.Places.{Places}
use Rattle.folder_stops.proofs.Among.{among_right}
use Rattle.folder_drivers.proofs.FirstLooking as F
use Rattle.folder_drivers.proofs.Refusing.{err_same, serves_adding}
use Rattle.folder_drivers.proofs.MetNames.{saw_longer}
use Rattle.maildir_appends.proofs.Paths.{item_fits}
use Rattle.folder_drivers.proofs.Preparing as P

-- the paths were not chosen
pub not_chosen : (path : List ℕ) (mails : List Mail) (item : Item) (why : SyncError)
    {B : Type 0} (old new : Seen) → Prepares (maildir_files path) old.told new.told
    → LooksFirst {A = B} (directory true path) (Err why) old.told new.told
    → BlamesDisk {A = B} (Err why) old new
    → IsBetween (MaildirAppendRefused path why) old.told new.told
    → AppendsAs maildir_additions path mails item (Err why) old new
not_chosen path mails item why {B} old new prepares first blames cause =
    let keeps : AddsSome (maildir_files path) item.text.items old.told new.told =
    P.nothing_added (maildir_files path) (a_maildir path) item.text.items prepares in
    record {
      keeps = keeps;
      adds = tt;
      works = tt;
      looked = first;
      may_be = blames.errors;
      cause = cause;
      serves = serves_adding (maildir_files path) item.text.items (Err why) keeps (record {
        marks = blames.marks;
        faults = blames.faults;
        cause = λ is. blames.cause (again (err_same why Fault is));
        errors = blames.errors;
      });
    }
  where
    again : why ≡ Fault → ◌≡◌ {A = Result B SyncError} (Err why) (Err Fault)
    again is = ap Err is

-- the file was not put in its place
pub not_put : (path : List ℕ) (mails : List Mail) (item : Item) (why : SyncError)
    (text : List ℕ) (old : Seen) (mid : Option Past) (new : Seen) → text ≡ item.text.items
    → Prepares (maildir_files path) old.told mid
    → MeetsFolder (directory true path) old.told mid
    → AddsSome (maildir_files path) text mid new.told
    → BlamesDisk {A = Unit {0}} (Err why) old new
    → IsBetween (MaildirAppendRefused path why) old.told new.told
    → AppendsAs maildir_additions path mails item (Err why) old new
not_put path mails item why text old mid new is prepares first some blames cause =
    let keeps : AddsSome (maildir_files path) item.text.items old.told new.told =
    P.then_some (maildir_files path) (a_maildir path) item.text.items
    (item_fits path item.text.items) is prepares some in
    record {
      keeps = keeps;
      adds = tt;
      works = tt;
      looked = F.found_then_refused (directory true path)
          (F.found_added (directory true path) first some);
      may_be = blames.errors;
      cause = cause;
      serves = serves_adding (maildir_files path) item.text.items (Err why) keeps blames;
    }

-- the calls by which the file was named are among all
named_in : (path base : List ℕ) (flags : Flags) (places : Places) (a b c : Option Past)
    → AreOf path base flags places → Prepares (maildir_files path) a b
    → PutsAt (string_bytes places.beside) (string_bytes places.place) b c
    → Grown a c (MadeAndNamed path base flags)
named_in path base flags places a b c of prepares puts =
    grown_then a b c _ _ (MadeAndNamed path base flags) (prepares.does None).grown puts.grown
    (λ s xs ys does both. (
      subst (λ (p : List ℕ). Among (Own (Create p) Done) (xs ++ ys)) of.beside
          (among_right (Own (Create (string_bytes places.beside)) Done) xs ys both.0),
      subst (λ (p : List ℕ). Among (Own (Rename (beside_at path base) p) Done) (xs ++ ys)) of.place
          (subst (λ (p : List ℕ).
          Among (Own (Rename p (string_bytes places.place)) Done) (xs ++ ys)) of.beside
          (among_right
          (Own (Rename (string_bytes places.beside) (string_bytes places.place)) Done) xs ys
          both.1)),
    ))

-- the file was put in its place
pub was_put : (path : List ℕ) (letters all : List Letter) (item : Item) (moment : ℕ)
    (places : Places) (text : List ℕ) (old : Seen) (mid : Option Past) (new : Seen) → letters ≡ all
    → moment ≡ seconds_of item.moment → text ≡ item.text.items
    → Prepares (maildir_files path) old.told mid
    → MeetsFolder (directory true path) old.told mid
    → AreChosen path letters moment item.flags old.told mid places
    → AddsSome (maildir_files path) text mid new.told
    → AddedSome (maildir_files path) text mid new.told
    → PutsAt (string_bytes places.beside) (string_bytes places.place) mid new.told
    → BlamesDisk {A = Unit {0}} (Ok tt) old new
    → AppendsAs maildir_additions path (map plain_letter all) item (Ok tt) old new
was_put path letters all item moment places text old mid new is_all is_moment is prepares first
    chosen some added puts blames =
    let keeps : AddsSome (maildir_files path) item.text.items old.told new.told =
    P.then_some (maildir_files path) (a_maildir path) item.text.items
    (item_fits path item.text.items) is prepares some in
    record {
      keeps = keeps;
      adds = P.then_added (maildir_files path) (a_maildir path) item.text.items
          (item_fits path item.text.items) is prepares added;
      works = record {
        cur = plain_names chosen.present.cur;
        new_names = plain_names chosen.present.new;
        tmp = plain_names chosen.present.tmp;
        saw_cur = saw_longer _ chosen.saw.cur some.grown;
        saw_new = saw_longer _ chosen.saw.new_names some.grown;
        saw_tmp = saw_longer _ chosen.saw.tmp some.grown;
        base = chosen.base;
        first = subst (λ (l : List Letter). IsFirstFree (is_taken chosen.present l)
            (seconds_of item.moment) chosen.base) is_all
            (subst (λ (m : ℕ). IsFirstFree (is_taken chosen.present letters) m chosen.base)
            is_moment chosen.first);
        steps = named_in path chosen.base item.flags places old.told mid new.told chosen.paths
            prepares puts;
      };
      looked = F.found_added (directory true path) first some;
      may_be = tt;
      cause = tt;
      serves = serves_adding (maildir_files path) item.text.items (Ok tt) keeps blames;
    }
