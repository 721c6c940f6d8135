-- The files of discarded messages that were taken before one was not.
use Rattle.std.proofs.Common.{◌≡◌, ◌≢◌, ◌⊎◌, ◌∙◌, ◌∷◌, ℕ, Bool, true, false, List, Option, Some}
use Rattle.std.proofs.Common.{None, ap, if◌then◌else◌, inl, inr, length, refl, subst, sym}
use Rattle.std.proofs.lemmas.Slice.Eq.{bytes_eq-Decides}
use Rattle.std.specs.Option.{option_or}
use Rattle.std.specs.Str.{bytes_eq}
use Rattle.mail_base.specs.Ordered.{IsIn}
use Rattle.mail_base.specs.declared.kind.Id.{Id}
use Rattle.disk_model.specs.Journal.{Call, Past}
use Rattle.disk_model.specs.Judge.{GoesOn, Grows, IsLonger}
use Rattle.disk_model.proofs.Looking.{looks_same}
use Rattle.index_items.specs.Changes.{Changed, PlainChange}
use Rattle.folder_letters.specs.Letters.{Mail}
use Rattle.folder_core.specs.Directory.{path_in}
use Rattle.folder_core.specs.Keeping.{mail_of}
use Rattle.folder_core.specs.Mh.{is_number}
use Rattle.folder_changes.specs.Asked.{AreApart, ids_of, what_of}
use Rattle.folder_changes.specs.Calls.{GoesBy}
use Rattle.folder_changes.specs.Refused.{IsBetween, StepRefused, refuses}
use Rattle.folder_changes.specs.Serving.{IsErrorAt}
use Rattle.folder_changes.specs.declared.sync_error.SyncError.{SyncError}
use Rattle.folder_changes.proofs.TraceLemmas.{IsUnmade, between_earlier, calls_for, calls_looked}
use Rattle.folder_changes.proofs.TraceLemmas.{calls_then, refused_earlier}
use Rattle.folder_drivers.specs.MhLeft.{IsNumberCall}
use Rattle.mh_syncs.specs.Causes.{IsTaking, IsTakingOne, KeyCause, TakeCause}
use Rattle.mh_syncs.proofs.Beginning.{on_changed}
use Rattle.mh_syncs.proofs.Unmade.{number_unmade, taking_left}

-- The call takes the file of a number of which nothing more is wanted.
pub record IsTakingApart (path : List ℕ) (mails : List Mail) (left : List Changed) (call : Call)
    : Type 0 where
  pub key : List ℕ
  pub is : IsTaking path key call
  pub none : what_of mails left key ≡ None

or_none : (a b : Option PlainChange) → option_or a b ≡ None → b ≡ None
or_none None b is = is
or_none (Some change) b is = absurd (cc)

some_none : {A : Type 0} (x : A) → ◌≡◌ {A = Option A} (Some x) None → ⊥
some_none x e = cc

-- a key of which nothing is wanted is another one
other_key : (mails : List Mail) (changed : Changed) (left : List Changed) (key : List ℕ)
    → what_of mails (changed ∷ left) key ≡ None → key ≢ (mail_of mails changed.id.0).key
other_key mails changed left key none same =
    some_none changed.change
    (sym (ap (λ (b : Bool). option_or (if b then Some changed.change else None)
    (what_of mails left key))
    ((bytes_eq-Decides key (mail_of mails changed.id.0).key).1 same)) ∙ none)

-- Each call so far took a file of which nothing more is wanted.
pub record TakenSoFar (path : List ℕ) (mails : List Mail) (left : List Changed)
    (old now : Option Past) : Type 0 where
  pub apart : AreApart mails left
  pub calls : GoesOn (GoesBy (IsTakingApart path mails left)) old now

pub taken_first : (path : List ℕ) (mails : List Mail) (changes : List Changed)
    (told : Option Past) → AreApart mails changes → TakenSoFar path mails changes told told
taken_first path mails changes told apart = record {
  apart = apart;
  calls = calls_looked (IsTakingApart path mails changes) told told (looks_same told);
}

module _ (path : List ℕ) (mails : List Mail) (changed : Changed) (left all : List Changed)
    (old now next : Option Past) (whole : all ≡ changed ∷ left)
    (so_far : TakenSoFar path mails all old now) where
  abbrev key : List ℕ
  key = (mail_of mails changed.id.0).key

  so_far_is : TakenSoFar path mails (changed ∷ left) old now
  so_far_is = subst (λ (l : List Changed). TakenSoFar path mails l old now) whole so_far

  pub taken_next : GoesOn (GoesBy (IsTaking path key)) now next
      → TakenSoFar path mails left old next
  taken_next takes = record {
    apart = so_far_is.apart.1;
    calls = calls_then (IsTakingApart path mails left) old now next
        (calls_for (IsTakingApart path mails (changed ∷ left)) (IsTakingApart path mails left)
        old now (λ call is. record {
          key = is.key;
          is = is.is;
          none = or_none (if bytes_eq is.key key then Some changed.change else None)
              (what_of mails left is.key) is.none;
        }) so_far_is.calls)
        (calls_for (IsTaking path key) (IsTakingApart path mails left) now next
        (λ call is. record { key = key; is = is; none = so_far_is.apart.0 }) takes);
  }

  -- with the calls for the next one
  pub all_taken : GoesOn (GoesBy (IsTaking path key)) now next
      → GoesOn (GoesBy (IsTakingOne path)) old next
  all_taken takes =
      calls_then (IsTakingOne path) old now next
      (calls_for (IsTakingApart path mails all) (IsTakingOne path) old now
      (λ call is. record { key = is.key; is = is.is }) so_far.calls)
      (calls_for (IsTaking path key) (IsTakingOne path) now next
      (λ call is. record { key = key; is = is }) takes)

  taken_unmade : is_number key ≡ true → (call : Call) → IsNumberCall path key call
      → IsUnmade (IsTakingApart path mails (changed ∷ left)) (refuses call)
  taken_unmade number =
      number_unmade path (IsTakingApart path mails (changed ∷ left)) key number
      (λ call is. taking_left path key is.key number (other_key mails changed left is.key is.none)
      call is.is)

  -- why the file of the next one was not taken
  pub take_cause : (changes : List Changed) (told : SyncError)
      → ((id : Id) → IsIn id (ids_of all) → IsIn id (ids_of changes)) → Grows now next
      → IsErrorAt (path_in path key) told → IsBetween (KeyCause path key told) now next
      → IsBetween (TakeCause path mails changes told) old next
  take_cause changes told among grows is cause =
      between_earlier (GoesBy (IsTakingApart path mails (changed ∷ left)))
      (KeyCause path key told) (TakeCause path mails changes told) old now next
      (λ p q r goes on c. on_changed told (λ why. record {
        id = changed.id;
        among = among changed.id (subst (λ (l : List Changed). IsIn changed.id (ids_of l))
            (sym whole) (inl refl));
        at = is;
        cause = by p q r goes on (is_number key) refl why;
      }) c) so_far_is.calls grows cause
    where
      by : (p q r : Past) → GoesBy (IsTakingApart path mails (changed ∷ left)) p q → IsLonger q r
          → (t : Bool) → is_number key ≡ t → (is_number key ≡ false)
          ⊎ StepRefused (IsNumberCall path key) (length q.journal) (length r.journal) r
          → (is_number key ≡ false)
          ⊎ StepRefused (IsNumberCall path key) (length p.journal) (length r.journal) r
      by p q r goes on t number (inl none) = inl none
      by p q r goes on false number (inr refused) = inl number
      by p q r goes on true number (inr refused) =
          inr (refused_earlier (IsTakingApart path mails (changed ∷ left)) (IsNumberCall path key)
          p q r (length r.journal) (taken_unmade number) goes on refused)

pub taken_end : (path : List ℕ) (mails : List Mail) (left : List Changed) (old now : Option Past)
    → TakenSoFar path mails left old now → GoesOn (GoesBy (IsTakingOne path)) old now
taken_end path mails left old now so_far =
    calls_for (IsTakingApart path mails left) (IsTakingOne path) old now
    (λ call is. record { key = is.key; is = is.is }) so_far.calls
