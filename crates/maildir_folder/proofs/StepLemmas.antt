-- The steps of a sync, one behind the other.
use Rattle.mail_base.specs.Ordered.{IsIn}
use Rattle.mail_base.specs.declared.kind.Id.{Id}
use Rattle.std.proofs.Common.{◌⊎◌, inl, inr, sym}
use Rattle.std.specs.Prelude.{IfErr}
use Rattle.std.proofs.Common.{◌≡◌, ◌≢◌, ℕ, Bool, true, false, List, [], ◌∷◌, Option, Some, None}
use Rattle.std.proofs.Common.{length}
use Rattle.std.proofs.lemmas.Slice.Eq.{bytes_eq-Decides}
use Rattle.std.proofs.Common.{Result, Ok, Err, refl, ◌∙◌, ap, subst, if◌then◌else◌}
use Rattle.std.specs.Option.{option_or}
use Rattle.std.specs.Str.{bytes_eq}
use Rattle.disk_model.specs.Journal.{Refused}
use Rattle.maildir_folder.proofs.NamingLemmas.{all_longer, named_longer, step_named}
use Rattle.folder_changes.specs.Calls.{GoesBy}
use Rattle.folder_changes.specs.Refused.{IsBetween, refuses}
use Rattle.folder_changes.proofs.TraceLemmas.{IsUnmade, between_earlier, calls_for, calls_looked}
use Rattle.folder_changes.proofs.TraceLemmas.{calls_then, refused_earlier}
use Rattle.maildir_folder.specs.Causes.{CallCause, IsCallOf, IsStepCall, StepsCause}
use Rattle.maildir_folder.proofs.UnmadeLemmas.{IsStepApart, on_changed, step_no_refusal}
use Rattle.maildir_folder.specs.Steps.{DidNothing}
use Rattle.folder_changes.specs.Maildir.{DoesPart}
use Rattle.disk_model.specs.Journal.{Answer, Call, MakeDir, Own, Past, Remove, Rename}
use Rattle.disk_model.specs.Judge.{GoesOn, Grows, OneStep, StepBy, done_by}
use Rattle.disk_model.specs.Looking.{LooksOnly}
use Rattle.disk_model.specs.declared.answers.DiskError.{DiskError}
use Rattle.disk_model.specs.declared.answers.DiskError.TheVariants.{Exists}
use Rattle.disk_model.proofs.Looking.{grows_then, looks_grows, looks_same}
use Rattle.disk_model.proofs.Trees.{bytes_same}
use Rattle.index_items.specs.Changes.{Changed, PlainChange, Alters, Discards}
use Rattle.folder_letters.specs.Letters.{Mail}
use Rattle.folder_core.specs.Keeping.{mail_of}
use Rattle.folder_core.specs.Maildir.{MaildirFile, base_of, directory, path_of}
use Rattle.folder_core.proofs.SeenLemmas.{goes_as}
use Rattle.folder_changes.specs.Maildir.{DoesWanted}
use Rattle.folder_changes.specs.Wanted.{change_at}
use Rattle.folder_changes.specs.Worked.{either, nothing_wanted}
use Rattle.folder_changes.specs.declared.sync_error.SyncError.{SyncError}
use Rattle.folder_changes.specs.declared.sync_error.SyncError.TheVariants.{Locked, Unfinished}
use Rattle.folder_changes.specs.declared.sync_error.SyncError.TheVariants.{Changed as IsChanged}
use Rattle.folder_changes.specs.declared.sync_error.SyncError.TheVariants.{TooMany, TooLarge}
use Rattle.folder_changes.specs.declared.sync_error.SyncError.TheVariants.{Fault, NoMemory}
use Rattle.folder_changes.specs.declared.sync_error.SyncError.TheVariants.{NotFolder}
use Rattle.folder_changes.specs.declared.sync_error.Spot.TheVariants.{Name, At}
use Rattle.folder_drivers.specs.MaildirSync.{AllNamed, IsFileOf, IsSyncError, WorksByName}
use Rattle.folder_changes.specs.Serving.{IsErrorAt}
use Rattle.folder_changes.specs.Asked.{ids_of}
use Rattle.folder_changes.proofs.CallLemmas.{call_does, does_then, looked_does, removed_does}
use Rattle.folder_changes.proofs.CallLemmas.{make_new_leaves, refused_does, renamed_does}
use Rattle.folder_changes.proofs.WorkLemmas.{LeavesMessages, works_same}
use Rattle.maildir_folder.specs.Steps.{AreSteps, IsStep, IsStepOf}
use Rattle.folder_changes.specs.Maildir.{DidWanted}
use Rattle.folder_changes.specs.Asked.{AreApart}
use Rattle.maildir_folder.specs.Steps.{PlainStep, WasDone, call_by, call_of}
use Rattle.folder_changes.specs.Asked.{what_of}

true_false : ◌≡◌ {A = Bool} true false → ⊥
true_false e = cc

some_none : {A : Type 0} (x : A) → ◌≡◌ {A = Option A} (Some x) None → ⊥
some_none x e = cc

-- Told pasts, one part behind another.

-- one part behind another
pub goes_both : {P Q R : Past → Past → Type 0} (a b c : Option Past)
    → ((p q r : Past) → P p q → Q q r → R p r) → GoesOn P a b → GoesOn Q b c → GoesOn R a c
goes_both {P} {Q} {R} None b c by first next =
    subst (λ (o : Option Past). GoesOn Q o c) first next
goes_both (Some a) None c by first next = absurd first
goes_both (Some a) (Some b) None by first next = absurd next
goes_both (Some a) (Some b) (Some c) by first next = by a b c first next

-- what was done, and then what was done behind it
pub does_both : (path : List ℕ) (a b : List ℕ → Option PlainChange) (old mid new : Option Past)
    → ((key : List ℕ) → a key ≢ None → b key ≡ None) → GoesOn (DoesWanted path a) old mid
    → GoesOn (DoesWanted path b) mid new → GoesOn (DoesWanted path (either a b)) old new
does_both path a b old mid new apart first next =
    goes_both old mid new (λ p q r x y. does_then path a b p q r apart x y) first next

-- what was done, and then a part of what was wanted behind it
part_then : (path : List ℕ) (a b : List ℕ → Option PlainChange) (old mid new : Past)
    → ((key : List ℕ) → a key ≢ None → b key ≡ None) → DoesWanted path a old mid
    → DoesPart path b mid new → DoesPart path (either a b) old new
part_then path a b old mid new apart first next = record {
  part = either a next.part;
  within = λ key some. by_first key (a key) some;
  does = does_then path a next.part old mid new
      (λ key some. none_more key (next.part key) refl (apart key some)) first next.does;
}
  where
    by_first : (key : List ℕ) (first : Option PlainChange) → option_or first (next.part key) ≢ None
        → option_or first (next.part key) ≡ option_or first (b key)
    by_first key None some = next.within key some
    by_first key (Some change) some = refl

    none_more : (key : List ℕ) (part : Option PlainChange) → next.part key ≡ part → b key ≡ None
        → next.part key ≡ None
    none_more key None is none = is
    none_more key (Some change) is none =
        next.within key (λ nothing. some_none change (sym is ∙ nothing)) ∙ none

-- what was done, and then a part that may be refused
pub did_then : (path : List ℕ) (a b : List ℕ → Option PlainChange)
    (result : Result (Unit {0}) SyncError) (old mid new : Option Past)
    → ((key : List ℕ) → a key ≢ None → b key ≡ None)
    → GoesOn (DoesWanted path a) old mid → DidWanted path b result mid new
    → DidWanted path (either a b) result old new
did_then path a b (Ok done) old mid new apart first next =
    does_both path a b old mid new apart first next
did_then path a b (Err why) old mid new apart first next =
    goes_both old mid new (λ p q r x y. part_then path a b p q r apart x y) first next

-- nothing was done, and then a part that may be refused
pub did_after : (path : List ℕ) (what : List ℕ → Option PlainChange)
    (result : Result (Unit {0}) SyncError) (old mid new : Option Past)
    → DidNothing path old mid → DidWanted path what result mid new
    → DidWanted path what result old new
did_after path what result old mid new first next =
    did_then path nothing_wanted what result old mid new (λ key some. absurd (some refl)) first next

-- nothing was done, twice
pub nothing_then : (path : List ℕ) (old mid new : Option Past) → DidNothing path old mid
    → DidNothing path mid new → DidNothing path old new
nothing_then path old mid new first next =
    does_both path nothing_wanted nothing_wanted old mid new (λ key some. refl) first next

-- nothing was done up to a refusal
pub did_none : (path : List ℕ) (what : List ℕ → Option PlainChange) (why : SyncError)
    (old new : Option Past) → DidNothing path old new → DidWanted path what (Err why) old new
did_none path what why old new nothing =
    goes_as old new (λ p q does. record {
      part = nothing_wanted;
      within = λ key some. absurd (some refl);
      does = does;
    }) nothing

-- looks do nothing to the messages
pub looks_did : (path : List ℕ) (old new : Option Past) → LooksOnly old new
    → GoesOn (DoesWanted path nothing_wanted) old new
looks_did path old new looks = goes_as old new (λ p q l. looked_does path p q l) looks

-- a call that leaves the messages does nothing to them
pub call_did : {A : Type 0} (path : List ℕ) (result : Result A DiskError) (call : Call)
    (asked : _) (old new : Option Past)
    → ((answer : Answer) → LeavesMessages path (Own call answer))
    → GoesOn (OneStep result call asked) old new
    → GoesOn (DoesWanted path nothing_wanted) old new
call_did path result call asked old new leaves goes =
    goes_as old new (λ p q step. call_does path result call asked p q leaves step) goes

-- a directory that is there already is met by a step that does nothing
pub there_did : (path : List ℕ) (why : DiskError) (dir : List ℕ) (old new : Option Past)
    → why ≡ Exists → dir ≡ directory false path
    → GoesOn (StepBy {A = Unit {0}} (Err why) (MakeDir dir) (done_by (MakeDir dir))) old new
    → GoesOn (DoesWanted path nothing_wanted) old new
there_did path why dir old new exists is goes =
    call_did {A = Unit {0}} path (Err Exists) (MakeDir (directory false path))
    (done_by (MakeDir (directory false path))) old new (make_new_leaves path)
    (subst (λ (w : DiskError). GoesOn (StepBy {A = Unit {0}} (Err w)
    (MakeDir (directory false path)) (done_by (MakeDir (directory false path)))) old new) exists
    (subst (λ (d : List ℕ). GoesOn (StepBy {A = Unit {0}} (Err why) (MakeDir d)
    (done_by (MakeDir d))) old new) is goes))

-- the same, where a table says the same of each key
same_goes : (path : List ℕ) (a b : List ℕ → Option PlainChange) (old new : Option Past)
    → ((key : List ℕ) → a key ≡ b key) → GoesOn (DoesWanted path a) old new
    → GoesOn (DoesWanted path b) old new
same_goes path a b old new same did =
    goes_as old new (λ p q does. record {
      longer = does.longer;
      does = λ past on single others.
          works_same path past a b same (does.does past on single others);
    }) did

none_behind : (what : Option PlainChange) → option_or what None ≡ what
none_behind None = refl
none_behind (Some change) = refl

-- what was wanted was done, and then nothing, whatever the answer
pub did_end : (path : List ℕ) (what : List ℕ → Option PlainChange)
    (result : Result (Unit {0}) SyncError) (old mid new : Option Past)
    → GoesOn (DoesWanted path what) old mid → DidNothing path mid new
    → DidWanted path what result old new
did_end path what result old mid new did nothing =
    by result (same_goes path (either what nothing_wanted) what old new
    (λ key. none_behind (what key))
    (does_both path what nothing_wanted old mid new (λ key some. refl) did nothing))
  where
    by : (result : Result (Unit {0}) SyncError) → GoesOn (DoesWanted path what) old new
        → DidWanted path what result old new
    by (Ok done) whole = whole
    by (Err why) whole = goes_as old new (λ p q does. record {
      part = what;
      within = λ key some. refl;
      does = does;
    }) whole

-- Calls that are refused.

-- a refused call that changes nothing but the bytes of files does nothing to the messages
pub refused_did : (path : List ℕ) (why : DiskError) (call : Call) (old new : Option Past)
    → ((w : DiskError) (wrote : ℕ) → LeavesMessages path (Own call (Refused w wrote)))
    → GoesOn (StepBy {A = Unit {0}} (Err why) call (done_by call)) old new
    → DidNothing path old new
refused_did path why call old new leaves goes =
    goes_as old new (λ p q step. refused_does path why call (done_by call) p q leaves step) goes

-- a step that was refused does nothing
pub step_refused : (path : List ℕ) (step : PlainStep) (why : DiskError) (old new : Option Past)
    → GoesOn (StepBy {A = Unit {0}} (Err why) (call_of step) (done_by (call_of step))) old new
    → DidNothing path old new
step_refused path step why old new goes =
    refused_did path why (call_of step) old new (leaves step.from step.to) goes
  where
    leaves : (from : List ℕ) (to : Option (List ℕ)) (w : DiskError) (wrote : ℕ)
        → LeavesMessages path (Own (call_by from to) (Refused w wrote))
    leaves from None w wrote state own single = (single, refl)
    leaves from (Some to) w wrote state own single = (single, refl)

-- One part of a sync behind another.

step_by : (path : List ℕ) (file : MaildirFile) (change : PlainChange) (from : List ℕ)
    (to : Option (List ℕ)) (old new : Option Past)
    → IsStep path file change (record { from = from; to = to })
    → WasDone (call_by from to) old new
    → GoesOn (DoesWanted path (change_at (base_of file) change)) old new
step_by path file (Alters added cleared) from None old new is done = absurd is.to
step_by path file (Alters added cleared) from (Some to) old new is done =
    goes_as old new (λ p q step. renamed_does path file is.to.target added cleared p q is.shown
    is.to.shown is.to.base is.to.tells step)
    (let is_call : Rename from to ≡ Rename (path_of path file) (path_of path is.to.target) =
    (λ i. Rename (is.from i) (is.to.goes i)) in
    subst (λ (call : Call). WasDone call old new) is_call done)
step_by path file Discards from (Some to) old new is done = absurd is.to
step_by path file Discards from None old new is done =
    goes_as old new (λ p q step. removed_does path file p q is.shown step)
    (subst (λ (call : Call). WasDone call old new) (ap Remove is.from) done)

step_does : (path base : List ℕ) (change : PlainChange) (step : PlainStep) (old new : Option Past)
    → IsStepOf path base change step → WasDone (call_of step) old new
    → GoesOn (DoesWanted path (change_at base change)) old new
step_does path base change step old new is done =
    subst (λ (b : List ℕ). GoesOn (DoesWanted path (change_at b change)) old new) is.named
    (step_by path is.file change step.from step.to old new is.does done)

-- The steps up to one of them.

-- the steps that are left are of changes that are left, and do what of all changes is not done
pub record SoFar (path : List ℕ) (mails : List Mail) (changes : List Changed)
    (left : List PlainStep) (old now : Option Past) : Type 0 where
  pub rest : List Changed
  pub apart : AreApart mails rest
  pub steps : AreSteps path mails rest left
  pub among : (id : Id) → IsIn id (ids_of rest) → IsIn id (ids_of changes)
  pub finishes : (result : Result (Unit {0}) SyncError) (later : Option Past)
      → DidWanted path (what_of mails rest) result now later
      → DidWanted path (what_of mails changes) result old later
  pub grows : Grows old now
  pub names : (later : Option Past) → Grows now later → AllNamed path mails rest now later
      → AllNamed path mails changes old later
  pub calls : GoesOn (GoesBy (IsStepApart path (what_of mails rest))) old now

-- no step is taken
pub so_far_first : (path : List ℕ) (mails : List Mail) (changes : List Changed)
    (steps : List PlainStep) (told : Option Past) → AreApart mails changes
    → AreSteps path mails changes steps → SoFar path mails changes steps told told
so_far_first path mails changes steps told apart are = record {
  rest = changes;
  apart = apart;
  steps = are;
  among = λ id held. held;
  finishes = λ result later does. does;
  grows = looks_grows told told (looks_same told);
  names = λ later grows named. named;
  calls = calls_looked (IsStepApart path (what_of mails changes)) told told (looks_same told);
}

-- a change of one key, and changes of others
one_apart : (base : List ℕ) (change : PlainChange) (what : List ℕ → Option PlainChange)
    → what base ≡ None
    → (key : List ℕ) → change_at base change key ≢ None → what key ≡ None
one_apart base change what none key some = by (bytes_eq key base) refl some
  where
    by : (t : Bool) → bytes_eq key base ≡ t → (if t then Some change else None) ≢ None
        → what key ≡ None
    by true is some = ap what (bytes_same key base is) ∙ none
    by false is some = absurd (some refl)

-- of two of which nothing is said the next says nothing
none_next : (first next : Option PlainChange) → option_or first next ≡ None → next ≡ None
none_next None next none = none
none_next (Some change) next none = absurd (some_none change none)

-- one step more is taken
pub so_far_next : (path : List ℕ) (mails : List Mail) (changes : List Changed)
    (step : PlainStep) (left : List PlainStep) (old now next : Option Past)
    → SoFar path mails changes (step ∷ left) old now → Grows now next
    → GoesOn (GoesBy (IsCallOf step)) now next
    → WasDone (call_of step) now next → SoFar path mails changes left old next
so_far_next path mails changes step left old now next so_far went called done =
    by so_far.rest so_far.apart so_far.steps so_far.among so_far.finishes so_far.names so_far.calls
  where
    by : (rest : List Changed) → AreApart mails rest → AreSteps path mails rest (step ∷ left)
        → ((id : Id) → IsIn id (ids_of rest) → IsIn id (ids_of changes))
        → ((result : Result (Unit {0}) SyncError) (later : Option Past)
        → DidWanted path (what_of mails rest) result now later
        → DidWanted path (what_of mails changes) result old later)
        → ((later : Option Past) → Grows now later → AllNamed path mails rest now later
        → AllNamed path mails changes old later)
        → GoesOn (GoesBy (IsStepApart path (what_of mails rest))) old now
        → SoFar path mails changes left old next
    by [] apart are among finishes names calls = absurd are
    by (changed ∷ rest) apart are among finishes names calls = record {
      rest = rest;
      apart = apart.1;
      steps = are.1;
      among = λ id held. among id (inr held);
      finishes = λ result later does. finishes result later
          (did_then path (change_at (mail_of mails changed.id.0).key changed.change)
          (what_of mails rest) result now next later
          (one_apart (mail_of mails changed.id.0).key changed.change (what_of mails rest) apart.0)
          (step_does path (mail_of mails changed.id.0).key changed.change step now next
          are.0 done) does);
      grows = grows_then old now next so_far.grows went;
      names = λ later grows named. names later (grows_then now next later went grows) (
        named_longer path (mail_of mails changed.id.0).key changed.change now now next later
            (looks_grows now now (looks_same now))
            (step_named path (mail_of mails changed.id.0).key changed.change step now next are.0
            done) grows,
        all_longer path mails rest now next later later went named
            (looks_grows later later (looks_same later)),
      );
      calls = calls_then (IsStepApart path (what_of mails rest)) old now next
          (calls_for (IsStepApart path (what_of mails (changed ∷ rest)))
          (IsStepApart path (what_of mails rest)) old now (λ call of. record {
            step = of.step;
            none = none_next (change_at (mail_of mails changed.id.0).key changed.change of.step.base)
                (what_of mails rest of.step.base) of.none;
          }) calls)
          (calls_for (IsCallOf step) (IsStepApart path (what_of mails rest)) now next
          (λ call is. record {
            step = record {
              base = (mail_of mails changed.id.0).key;
              change = changed.change;
              step = step;
              is = are.0;
              by = is;
            };
            none = apart.0;
          }) called);
    }

-- all steps are taken
pub so_far_done : (path : List ℕ) (mails : List Mail) (changes : List Changed)
    (old now : Option Past)
    → SoFar path mails changes [] old now
    → WorksByName path mails changes (Ok tt) old now
so_far_done path mails changes old now so_far =
    by so_far.rest so_far.steps so_far.finishes so_far.names
  where
    by : (rest : List Changed) → AreSteps path mails rest []
        → ((result : Result (Unit {0}) SyncError) (later : Option Past)
        → DidWanted path (what_of mails rest) result now later
        → DidWanted path (what_of mails changes) result old later)
        → ((later : Option Past) → Grows now later → AllNamed path mails rest now later
        → AllNamed path mails changes old later)
        → WorksByName path mails changes (Ok tt) old now
    by [] are finishes names = record {
      does = finishes (Ok tt) now (looks_did path now now (looks_same now));
      names = names now (looks_grows now now (looks_same now)) tt;
    }
    by (changed ∷ rest) are finishes names = absurd are

-- a step is refused, and does nothing
pub so_far_failed : (path : List ℕ) (mails : List Mail) (changes : List Changed)
    (left : List PlainStep) (why : SyncError) (old now next : Option Past)
    → SoFar path mails changes left old now → DidNothing path now next
    → WorksByName path mails changes (Err why) old next
so_far_failed path mails changes left why old now next so_far nothing = record {
  does = so_far.finishes (Err why) next
      (did_none path (what_of mails so_far.rest) why now next nothing);
  names = tt;
}

-- the same, where the steps that are left are split
pub so_far_more : (path : List ℕ) (mails : List Mail) (changes : List Changed)
    (step : PlainStep) (all left : List PlainStep) (old now next : Option Past)
    → all ≡ step ∷ left → SoFar path mails changes all old now → Grows now next
    → GoesOn (GoesBy (IsCallOf step)) now next
    → WasDone (call_of step) now next → SoFar path mails changes left old next
so_far_more path mails changes step all left old now next whole so_far went called done =
    so_far_next path mails changes step left old now next
    (subst (λ (l : List PlainStep). SoFar path mails changes l old now) whole so_far) went called
    done

-- the same, where no step is left
pub so_far_end : (path : List ℕ) (mails : List Mail) (changes : List Changed)
    (left : List PlainStep) (old now : Option Past) → left ≡ []
    → SoFar path mails changes left old now
    → WorksByName path mails changes (Ok tt) old now
so_far_end path mails changes left old now none so_far =
    so_far_done path mails changes old now
    (subst (λ (l : List PlainStep). SoFar path mails changes l old now) none so_far)

-- Why a sync is refused.

-- a refusal that names the folder
pub error_folder : (at path : List ℕ) (mails : List Mail) (ids : List Id) (why : SyncError)
    → at ≡ path → IsErrorAt at why → IsSyncError path mails ids why
error_folder at path mails ids (IsChanged (Name name)) same is = inl (is ∙ same)
error_folder at path mails ids (IsChanged (At place)) same is = is
error_folder at path mails ids Locked same is = is
error_folder at path mails ids Unfinished same is = is
error_folder at path mails ids (TooMany count) same is = is
error_folder at path mails ids (TooLarge bytes) same is = is
error_folder at path mails ids Fault same is = tt
error_folder at path mails ids NoMemory same is = tt
error_folder at path mails ids NotFolder same is = is

-- the same of a part that may be refused
pub errors_folder : {A : Type 0} (at path : List ℕ) (mails : List Mail) (ids : List Id)
    (result : Result A SyncError) → at ≡ path → IfErr result (IsErrorAt at)
    → IfErr result (IsSyncError path mails ids)
errors_folder at path mails ids (Ok given) same is = tt
errors_folder at path mails ids (Err why) same is = error_folder at path mails ids why same is

-- a refusal that names a file of one of the messages
pub error_file : (at path : List ℕ) (mails : List Mail) (ids : List Id) (why : SyncError)
    → IsFileOf path mails ids at → IsErrorAt at why → IsSyncError path mails ids why
error_file at path mails ids (IsChanged (Name name)) of is = inr (record {
  id = of.id;
  among = of.among;
  file = of.file;
  base = of.base;
  at = is ∙ of.at;
})
error_file at path mails ids (IsChanged (At place)) of is = is
error_file at path mails ids Locked of is = is
error_file at path mails ids Unfinished of is = is
error_file at path mails ids (TooMany count) of is = is
error_file at path mails ids (TooLarge bytes) of is = is
error_file at path mails ids Fault of is = tt
error_file at path mails ids NoMemory of is = tt
error_file at path mails ids NotFolder of is = is

-- a refusal for one of the messages
pub error_among : (path : List ℕ) (mails : List Mail) (id : Id) (ids : List Id) (why : SyncError)
    → IsIn id ids → IsSyncError path mails (id ∷ []) why → IsSyncError path mails ids why
error_among path mails id ids (IsChanged (Name name)) among (inl is) = inl is
error_among path mails id ids (IsChanged (Name name)) among (inr of) = inr (record {
  id = of.id;
  among = by of.among;
  file = of.file;
  base = of.base;
  at = of.at;
})
  where
    by : (id ≡ of.id) ⊎ ⊥ → IsIn of.id ids
    by (inl same) = subst (λ (i : Id). IsIn i ids) same among
    by (inr none) = absurd none
error_among path mails id ids (IsChanged (At place)) among is = is
error_among path mails id ids Locked among is = is
error_among path mails id ids Unfinished among is = is
error_among path mails id ids (TooMany count) among is = is
error_among path mails id ids (TooLarge bytes) among is = is
error_among path mails id ids Fault among is = tt
error_among path mails id ids NoMemory among is = tt
error_among path mails id ids NotFolder among is = is

-- a step that was refused
pub so_far_refused : (path : List ℕ) (mails : List Mail) (changes : List Changed)
    (step : PlainStep) (all left : List PlainStep) (old now : Option Past) (why : SyncError)
    → all ≡ step ∷ left → SoFar path mails changes all old now → IsErrorAt step.from why
    → IsSyncError path mails (ids_of changes) why
so_far_refused path mails changes step all left old now why whole so_far is =
    by so_far.rest so_far.among
    (subst (λ (l : List PlainStep). AreSteps path mails so_far.rest l) whole so_far.steps)
  where
    by : (rest : List Changed) → ((id : Id) → IsIn id (ids_of rest) → IsIn id (ids_of changes))
        → AreSteps path mails rest (step ∷ left) → IsSyncError path mails (ids_of changes) why
    by [] among are = absurd are
    by (changed ∷ rest) among are = error_file step.from path mails (ids_of changes) why (record {
      id = changed.id;
      among = among changed.id (inl refl);
      file = are.0.file;
      base = are.0.named;
      at = are.0.does.from;
    }) is

-- The calls of the steps.

-- the calls so far are those of steps
pub so_far_calls : (path : List ℕ) (mails : List Mail) (changes : List Changed)
    (left : List PlainStep) (old now : Option Past) → SoFar path mails changes left old now
    → GoesOn (GoesBy (IsStepCall path)) old now
so_far_calls path mails changes left old now so_far =
    calls_for (IsStepApart path (what_of mails so_far.rest)) (IsStepCall path) old now
    (λ call of. of.step) so_far.calls

-- something is wanted of the key of the first change
first_some : (key : List ℕ) (change : PlainChange) (rest : List ℕ → Option PlainChange)
    → option_or (change_at key change key) (rest key) ≡ None → ⊥
first_some key change rest none = by (bytes_eq key key) ((bytes_eq-Decides key key).1 refl) none
  where
    by : (t : Bool) → t ≡ true
        → option_or (if t then Some change else None) (rest key) ≡ None → ⊥
    by true is none = some_none change none
    by false is none = true_false (sym is)

-- why the next step was refused
pub so_far_cause : (path : List ℕ) (mails : List Mail) (changes : List Changed)
    (step : PlainStep) (all left : List PlainStep) (old now next : Option Past) (why : SyncError)
    → all ≡ step ∷ left → SoFar path mails changes all old now → Grows now next
    → IsErrorAt step.from why → IsBetween (CallCause (IsCallOf step) why) now next
    → IsBetween (StepsCause path mails (ids_of changes) why) old next
so_far_cause path mails changes step all left old now next why whole so_far on at cause =
    by so_far.rest so_far.among
    (subst (λ (l : List PlainStep). AreSteps path mails so_far.rest l) whole so_far.steps)
    so_far.calls
  where
    by : (rest : List Changed) → ((id : Id) → IsIn id (ids_of rest) → IsIn id (ids_of changes))
        → AreSteps path mails rest (step ∷ left)
        → GoesOn (GoesBy (IsStepApart path (what_of mails rest))) old now
        → IsBetween (StepsCause path mails (ids_of changes) why) old next
    by [] among are calls = absurd are
    by (changed ∷ rest) among are calls =
        between_earlier (GoesBy (IsStepApart path (what_of mails (changed ∷ rest))))
        (CallCause (IsCallOf step) why) (StepsCause path mails (ids_of changes) why) old now next
        (λ p q r goes more c. on_changed why (λ refused. record {
          id = changed.id;
          among = among changed.id (inl refl);
          change = changed.change;
          step = step;
          is = are.0;
          at = at;
          refused = refused_earlier (IsStepApart path (what_of mails (changed ∷ rest)))
              (IsCallOf step) p q r (length r.journal)
              (λ call is. subst (λ (other : Call).
              IsUnmade (IsStepApart path (what_of mails (changed ∷ rest))) (refuses other)) (sym is)
              (step_no_refusal path (mail_of mails changed.id.0).key changed.change step
              (what_of mails (changed ∷ rest)) are.0
              (first_some (mail_of mails changed.id.0).key changed.change (what_of mails rest))))
              goes more refused;
        }) c) calls on cause
