-- The files of discarded messages, one behind the other.
use Rattle.std.proofs.Common.{◌≡◌, ◌≢◌, ℕ, Bool, true, false, List, [], ◌∷◌, Option, Some}
use Rattle.std.proofs.Common.{None, Result, Ok, Err, refl, sym, ◌∙◌, ap, subst, inl, inr}
use Rattle.std.proofs.Common.{if◌then◌else◌}
use Rattle.std.proofs.lemmas.Bool.{or_left, or_right}
use Rattle.std.specs.Option.{option_or}
use Rattle.std.specs.Prelude.{IfErr}
use Rattle.std.specs.Str.{bytes_eq}
use Rattle.mail_base.specs.Ordered.{IsIn}
use Rattle.mail_base.specs.declared.kind.Id.{Id}
use Rattle.disk_model.specs.Journal.{Past}
use Rattle.disk_model.specs.Judge.{GoesOn}
use Rattle.disk_model.proofs.Trees.{bytes_same}
use Rattle.index_items.specs.Changes.{Alters, Changed, Discards, PlainChange}
use Rattle.folder_letters.specs.Letters.{Mail}
use Rattle.folder_core.specs.Directory.{path_in}
use Rattle.folder_core.specs.Keeping.{mail_of}
use Rattle.folder_core.specs.Known.{KnownFolder}
use Rattle.folder_core.proofs.SeenLemmas.{goes_as}
use Rattle.folder_changes.specs.Asked.{AreApart, discarded, ids_of, what_of, with_discarded}
use Rattle.folder_changes.specs.Serving.{IsErrorAt}
use Rattle.folder_changes.specs.Worked.{either, nothing_wanted}
use Rattle.folder_changes.specs.declared.sync_error.Spot.TheVariants.{At, Name}
use Rattle.folder_changes.specs.declared.sync_error.SyncError.{SyncError}
use Rattle.folder_changes.specs.declared.sync_error.SyncError.TheVariants.{Changed as IsChanged}
use Rattle.folder_changes.specs.declared.sync_error.SyncError.TheVariants.{Fault, Locked, NoMemory}
use Rattle.folder_changes.specs.declared.sync_error.SyncError.TheVariants.{NotFolder, TooLarge}
use Rattle.folder_changes.specs.declared.sync_error.SyncError.TheVariants.{TooMany, Unfinished}
use Rattle.folder_drivers.specs.MhLeft.{MhErrors}
use Rattle.folder_drivers.specs.MhSync.{LeavesNumbers, only_discard}
use Rattle.folder_stops.specs.Words.{has}
use Rattle.folder_stops.proofs.Words.{same}
use Rattle.mh_syncs.specs.Parts.{Away, AwayPart, KeepsAllBut, MayAll, MayGo, TakesOne, WentAway}
use Rattle.mh_syncs.specs.Parts.{gone_at}
use Rattle.mh_syncs.specs.Parts.{gone_of}
use Rattle.mh_syncs.proofs.Calling.{goes_both, keeps_first, keeps_then, none_leaves}
use Rattle.mh_syncs.proofs.Stretches.{both_away, leaves_away, same_away}

some_none : {A : Type 0} (x : A) → ◌≡◌ {A = Option A} (Some x) None → ⊥
some_none x e = cc

-- One part behind another.

part_then : (purge : Bool) (path : List ℕ) (a b : List ℕ → Option PlainChange)
    (old mid new : Past) → ((key : List ℕ) → a key ≢ None → b key ≡ None)
    → Away purge path a old mid → AwayPart purge path b mid new
    → AwayPart purge path (either a b) old new
part_then purge path a b old mid new apart first next = record {
  part = either a next.part;
  within = λ key some. by_first key (a key) some;
  does = both_away purge path a next.part old mid new
      (λ key some. none_more key (next.part key) refl (apart key some)) first next.does;
}
  where
    by_first : (key : List ℕ) (first : Option PlainChange) → option_or first (next.part key) ≢ None
        → option_or first (next.part key) ≡ option_or first (b key)
    by_first key None some = next.within key some
    by_first key (Some change) some = refl

    none_more : (key : List ℕ) (part : Option PlainChange) → next.part key ≡ part → b key ≡ None
        → next.part key ≡ None
    none_more key None is none = is
    none_more key (Some change) is none =
        next.within key (λ nothing. some_none change (sym is ∙ nothing)) ∙ none

pub went_then : (purge : Bool) (path : List ℕ) (a b : List ℕ → Option PlainChange)
    (result : Result (Unit {0}) SyncError) (old mid new : Option Past)
    → ((key : List ℕ) → a key ≢ None → b key ≡ None)
    → GoesOn (Away purge path a) old mid → WentAway purge path b result mid new
    → WentAway purge path (either a b) result old new
went_then purge path a b (Ok done) old mid new apart first next =
    goes_both old mid new (λ p q r x y. both_away purge path a b p q r apart x y) first next
went_then purge path a b (Err why) old mid new apart first next =
    goes_both old mid new (λ p q r x y. part_then purge path a b p q r apart x y) first next

pub same_went : (purge : Bool) (path : List ℕ) (a b : List ℕ → Option PlainChange)
    (result : Result (Unit {0}) SyncError) (old new : Option Past)
    → ((key : List ℕ) → a key ≡ b key) → WentAway purge path a result old new
    → WentAway purge path b result old new
same_went purge path a b (Ok done) old new same went =
    goes_as old new (λ p q x. same_away purge path a b p q same x) went
same_went purge path a b (Err why) old new same went =
    goes_as old new (λ p q x. record {
      part = x.part;
      within = λ key some. x.within key some ∙ same key;
      does = x.does;
    }) went

-- nothing went
pub none_went : (purge : Bool) (path : List ℕ) (what : List ℕ → Option PlainChange)
    (why : SyncError) (old new : Option Past) → GoesOn (LeavesNumbers path) old new
    → WentAway purge path what (Err why) old new
none_went purge path what why old new leaves =
    goes_as old new (λ p q x. record {
      part = nothing_wanted;
      within = λ key some. absurd (some refl);
      does = leaves_away purge path p q x;
    }) leaves

-- One change.

alters_none : (key : List ℕ) (change : PlainChange) (is_alter : (discards : change ≡ Discards) → ⊥)
    (other : List ℕ) → gone_at key change other ≡ None
alters_none key Discards is other = absurd (is refl)
alters_none key (Alters added cleared) is other = by (bytes_eq other key)
  where
    by : (t : Bool) → only_discard (if t then Some (Alters added cleared) else None) ≡ None
    by true = refl
    by false = refl

alter_no_discard : (change : PlainChange) (added cleared : _) → change ≡ Alters added cleared
    → change ≡ Discards → ⊥
alter_no_discard change added cleared is same = by (sym is ∙ same)
  where
    by : ◌≡◌ {A = PlainChange} (Alters added cleared) Discards → ⊥
    by e = cc

-- a message whose flags change stays
pub altered_went : (purge : Bool) (path key : List ℕ) (change : PlainChange) (added cleared : _)
    (told : Option Past) → change ≡ Alters added cleared
    → WentAway purge path (gone_at key change) (Ok tt) told told
altered_went purge path key change added cleared told is =
    same_went purge path nothing_wanted (gone_at key change) (Ok tt) told told
    (λ other. sym (alters_none key change (alter_no_discard change added cleared is) other))
    (goes_as told told (λ p q x. leaves_away purge path p q x) (none_leaves path told))

pub discarded_went : (purge : Bool) (path key : List ℕ) (change : PlainChange)
    (old new : Option Past) → change ≡ Discards → TakesOne purge path key (Ok tt) old new
    → WentAway purge path (gone_at key change) (Ok tt) old new
discarded_went purge path key change old new is takes =
    subst (λ (c : PlainChange). WentAway purge path (gone_at key c) (Ok tt) old new) (sym is) takes

-- The files up to one of them.

-- what the table of a change and those of the others behind it say together
both_gone : (mails : List Mail) (changed : Changed) (changes : List Changed)
    → what_of mails changes (mail_of mails changed.id.0).key ≡ None
    → (key : List ℕ)
    → either (gone_at (mail_of mails changed.id.0).key changed.change) (gone_of mails changes) key
    ≡ gone_of mails (changed ∷ changes) key
both_gone mails changed changes none key =
    by changed.change (bytes_eq key (mail_of mails changed.id.0).key) refl
  where
    by : (change : PlainChange) (t : Bool) → bytes_eq key (mail_of mails changed.id.0).key ≡ t
        → option_or (only_discard (if t then Some change else None))
        (only_discard (what_of mails changes key))
        ≡ only_discard (option_or (if t then Some change else None) (what_of mails changes key))
    by change false is = refl
    by Discards true is = refl
    by (Alters added cleared) true is =
        ap only_discard (ap (what_of mails changes)
        (bytes_same key (mail_of mails changed.id.0).key is) ∙ none)

apart_gone : (mails : List Mail) (changed : Changed) (changes : List Changed)
    → what_of mails changes (mail_of mails changed.id.0).key ≡ None
    → (key : List ℕ) → gone_at (mail_of mails changed.id.0).key changed.change key ≢ None
    → gone_of mails changes key ≡ None
apart_gone mails changed changes none key some =
    by (bytes_eq key (mail_of mails changed.id.0).key) refl some
  where
    by : (t : Bool) → bytes_eq key (mail_of mails changed.id.0).key ≡ t
        → only_discard (if t then Some changed.change else None) ≢ None
        → gone_of mails changes key ≡ None
    by true is some = ap only_discard (ap (what_of mails changes)
        (bytes_same key (mail_of mails changed.id.0).key is) ∙ none)
    by false is some = absurd (some refl)

-- what is left does what of all changes is not done
pub record AwaySoFar (purge : Bool) (path : List ℕ) (mails : List Mail)
    (changes left : List Changed) (old now : Option Past) : Type 0 where
  pub apart : AreApart mails left
  pub among : (id : Id) → IsIn id (ids_of left) → IsIn id (ids_of changes)
  pub finishes : (result : Result (Unit {0}) SyncError) (later : Option Past)
      → WentAway purge path (gone_of mails left) result now later
      → WentAway purge path (gone_of mails changes) result old later

pub away_first : (purge : Bool) (path : List ℕ) (mails : List Mail) (changes : List Changed)
    (told : Option Past) → AreApart mails changes
    → AwaySoFar purge path mails changes changes told told
away_first purge path mails changes told apart = record {
  apart = apart;
  among = λ id held. held;
  finishes = λ result later went. went;
}

pub away_next : (purge : Bool) (path : List ℕ) (mails : List Mail) (changes : List Changed)
    (changed : Changed) (left all : List Changed) (old now next : Option Past)
    → all ≡ changed ∷ left → AwaySoFar purge path mails changes all old now
    → WentAway purge path (gone_at (mail_of mails changed.id.0).key changed.change) (Ok tt) now next
    → AwaySoFar purge path mails changes left old next
away_next purge path mails changes changed left all old now next whole so_far went =
    by (subst (λ (l : List Changed). AwaySoFar purge path mails changes l old now) whole so_far)
  where
    by : AwaySoFar purge path mails changes (changed ∷ left) old now
        → AwaySoFar purge path mails changes left old next
    by so_far = record {
      apart = so_far.apart.1;
      among = λ id held. so_far.among id (inr held);
      finishes = λ result later more. so_far.finishes result later
          (same_went purge path
          (either (gone_at (mail_of mails changed.id.0).key changed.change) (gone_of mails left))
          (gone_of mails (changed ∷ left)) result now later
          (both_gone mails changed left so_far.apart.0)
          (went_then purge path (gone_at (mail_of mails changed.id.0).key changed.change)
          (gone_of mails left) result now next later
          (apart_gone mails changed left so_far.apart.0) went more));
    }

pub away_end : (purge : Bool) (path : List ℕ) (mails : List Mail) (changes left : List Changed)
    (old now : Option Past) → left ≡ [] → AwaySoFar purge path mails changes left old now
    → WentAway purge path (gone_of mails changes) (Ok tt) old now
away_end purge path mails changes left old now none so_far =
    by (subst (λ (l : List Changed). AwaySoFar purge path mails changes l old now) none so_far)
  where
    by : AwaySoFar purge path mails changes [] old now
        → WentAway purge path (gone_of mails changes) (Ok tt) old now
    by so_far = so_far.finishes (Ok tt) now
        (goes_as now now (λ p q x. same_away purge path nothing_wanted (gone_of mails []) p q
        (λ key. refl) (leaves_away purge path p q x)) (none_leaves path now))

pub away_failed : (purge : Bool) (path : List ℕ) (mails : List Mail) (changes : List Changed)
    (changed : Changed) (left all : List Changed) (why : SyncError) (old now next : Option Past)
    → all ≡ changed ∷ left → AwaySoFar purge path mails changes all old now
    → WentAway purge path (gone_at (mail_of mails changed.id.0).key changed.change) (Err why)
    now next
    → WentAway purge path (gone_of mails changes) (Err why) old next
away_failed purge path mails changes changed left all why old now next whole so_far went =
    by (subst (λ (l : List Changed). AwaySoFar purge path mails changes l old now) whole so_far)
  where
    part_of : (p q : Past)
        → what_of mails left (mail_of mails changed.id.0).key ≡ None
        → AwayPart purge path (gone_at (mail_of mails changed.id.0).key changed.change) p q
        → AwayPart purge path (gone_of mails (changed ∷ left)) p q
    part_of p q none part = record {
      part = part.part;
      within = λ key some. by_first key (part.part key) refl some (part.within key some);
      does = part.does;
    }
      where
        whole_is : (key : List ℕ) (c : PlainChange)
            → gone_at (mail_of mails changed.id.0).key changed.change key ≡ Some c
            → gone_of mails (changed ∷ left) key ≡ Some c
        whole_is key c is = sym (both_gone mails changed left none key)
            ∙ ap (λ (o : Option PlainChange). option_or o (gone_of mails left key)) is

        by_first : (key : List ℕ) (o : Option PlainChange) → part.part key ≡ o
            → part.part key ≢ None
            → part.part key ≡ gone_at (mail_of mails changed.id.0).key changed.change key
            → part.part key ≡ gone_of mails (changed ∷ left) key
        by_first key None is some same = absurd (some is)
        by_first key (Some c) is some same =
            is ∙ sym (whole_is key c (sym same ∙ is))

    by : AwaySoFar purge path mails changes (changed ∷ left) old now
        → WentAway purge path (gone_of mails changes) (Err why) old next
    by so_far = so_far.finishes (Err why) next
        (goes_as now next (λ p q x. part_of p q so_far.apart.0 x) went)

-- What each stop leaves.

pub record HeldSoFar (path : List ℕ) (keys : List (List ℕ)) (mails : List Mail)
    (left : List Changed) (old now : Option Past) : Type 0 where
  pub may : MayAll keys mails left
  pub held : KeepsAllBut path keys old now

may_more : (key : List ℕ) (one : PlainChange) (keys : List (List ℕ)) (mails : List Mail)
    (changes : List Changed) → MayAll keys mails changes
    → MayAll (with_discarded key one keys) mails changes
may_more key one keys mails [] all = tt
may_more key one keys mails (changed ∷ changes) all =
    (by one changed.change all.0, may_more key one keys mails changes all.1)
  where
    by : (one change : PlainChange) → MayGo keys (mail_of mails changed.id.0).key change
        → MayGo (with_discarded key one keys) (mail_of mails changed.id.0).key change
    by one (Alters added cleared) may = tt
    by (Alters added cleared) Discards may = may
    by Discards Discards may =
        or_right (bytes_eq key (mail_of mails changed.id.0).key)
        (has keys (mail_of mails changed.id.0).key) may

may_discarded : (mails : List Mail) (changes : List Changed)
    → MayAll (discarded mails changes) mails changes
may_discarded mails [] = tt
may_discarded mails (changed ∷ changes) = (
  by changed.change,
  may_more (mail_of mails changed.id.0).key changed.change (discarded mails changes) mails changes
      (may_discarded mails changes),
)
  where
    by : (change : PlainChange)
        → MayGo (with_discarded (mail_of mails changed.id.0).key change (discarded mails changes))
        (mail_of mails changed.id.0).key change
    by (Alters added cleared) = tt
    by Discards =
        or_left (bytes_eq (mail_of mails changed.id.0).key (mail_of mails changed.id.0).key)
        (has (discarded mails changes) (mail_of mails changed.id.0).key)
        (same (mail_of mails changed.id.0).key)

pub held_first : (path : List ℕ) (mails : List Mail) (changes : List Changed)
    (told : Option Past) → HeldSoFar path (discarded mails changes) mails changes told told
held_first path mails changes told = record {
  may = may_discarded mails changes;
  held = keeps_first path (discarded mails changes) told;
}

pub held_next : (path : List ℕ) (keys : List (List ℕ)) (mails : List Mail) (changed : Changed)
    (left all : List Changed) (old now next : Option Past) → all ≡ changed ∷ left
    → HeldSoFar path keys mails all old now
    → ((keys : List (List ℕ)) → MayGo keys (mail_of mails changed.id.0).key changed.change
    → KeepsAllBut path keys now next)
    → HeldSoFar path keys mails left old next
held_next path keys mails changed left all old now next whole so_far holds =
    by (subst (λ (l : List Changed). HeldSoFar path keys mails l old now) whole so_far)
  where
    by : HeldSoFar path keys mails (changed ∷ left) old now
        → HeldSoFar path keys mails left old next
    by so_far = record {
      may = so_far.may.1;
      held = keeps_then path keys old now next so_far.held (holds keys so_far.may.0);
    }

-- Why it is refused.

-- a refusal that names the path of a message that changes
pub error_number : (known : KnownFolder) (mails : List Mail) (changes : List Changed) (id : Id)
    (why : SyncError) → IsIn id (ids_of changes)
    → IsErrorAt (path_in known.path (mail_of mails id.0).key) why
    → MhErrors known mails changes why
error_number known mails changes id (IsChanged (Name name)) among is =
    inr (record { id = id; among = among; at = is })
error_number known mails changes id (IsChanged (At place)) among is = is
error_number known mails changes id Locked among is = is
error_number known mails changes id Unfinished among is = is
error_number known mails changes id (TooMany count) among is = is
error_number known mails changes id (TooLarge bytes) among is = is
error_number known mails changes id Fault among is = tt
error_number known mails changes id NoMemory among is = tt
error_number known mails changes id NotFolder among is = is

-- a refusal that names the folder
pub error_folder : (at : List ℕ) (known : KnownFolder) (mails : List Mail) (changes : List Changed)
    (why : SyncError) → at ≡ known.path → IsErrorAt at why → MhErrors known mails changes why
error_folder at known mails changes (IsChanged (Name name)) same is = inl (is ∙ same)
error_folder at known mails changes (IsChanged (At place)) same is = is
error_folder at known mails changes Locked same is = is
error_folder at known mails changes Unfinished same is = is
error_folder at known mails changes (TooMany count) same is = is
error_folder at known mails changes (TooLarge bytes) same is = is
error_folder at known mails changes Fault same is = tt
error_folder at known mails changes NoMemory same is = tt
error_folder at known mails changes NotFolder same is = is

pub errors_folder : {A : Type 0} (at : List ℕ) (known : KnownFolder) (mails : List Mail)
    (changes : List Changed) (result : Result A SyncError) → at ≡ known.path
    → IfErr result (IsErrorAt at) → IfErr result (MhErrors known mails changes)
errors_folder at known mails changes (Ok given) same is = tt
errors_folder at known mails changes (Err why) same is =
    error_folder at known mails changes why same is

-- the same of one of the changes that are left
pub error_left : (known : KnownFolder) (mails : List Mail) (changes : List Changed)
    (changed : Changed) (left all : List Changed) (why : SyncError) → all ≡ changed ∷ left
    → ((id : Id) → IsIn id (ids_of all) → IsIn id (ids_of changes))
    → IsErrorAt (path_in known.path (mail_of mails changed.id.0).key) why
    → MhErrors known mails changes why
error_left known mails changes changed left all why whole among is =
    error_number known mails changes changed.id why
    (among changed.id (subst (λ (l : List Changed). IsIn changed.id (ids_of l)) (sym whole)
    (inl refl))) is
