-- Why parts of a sync are refused.
use Rattle.std.proofs.Common.{◌≡◌, ◌⊎◌, ℕ, Bool, true, false, List, Option, Some, None, Result, Ok}
use Rattle.std.proofs.Common.{Err, ap, arith, inl, inr, is_some, length, refl, subst, sym, ◌∷◌, []}
use Rattle.std.proofs.lemmas.List.{append-nil}
use Rattle.std.specs.Prelude.{IfErr}
use Rattle.mail_base.specs.Ordered.{IsIn}
use Rattle.mail_base.specs.declared.kind.Id.{Id}
use Rattle.disk_model.specs.Journal.{Call, Past, SyncDir}
use Rattle.disk_model.specs.Judge.{GoesOn, Grows, IsLonger, StepBy, done_by}
use Rattle.disk_model.specs.Seen.{Seen}
use Rattle.disk_model.specs.Tree.{TreeNode}
use Rattle.disk_model.specs.declared.answers.DiskError.{DiskError}
use Rattle.index_items.specs.Changes.{Changed}
use Rattle.folder_letters.specs.Letters.{Mail}
use Rattle.folder_core.specs.Directory.{path_in}
use Rattle.folder_core.specs.Keeping.{mail_of}
use Rattle.folder_core.specs.Known.{KnownFolder}
use Rattle.folder_core.specs.Mh.{is_number}
use Rattle.folder_changes.specs.Asked.{ids_of}
use Rattle.folder_changes.specs.Calls.{GoesBy}
use Rattle.folder_changes.specs.Refused.{IsBetween, IsOfTree, OnChanged, StepRefused, refuses}
use Rattle.folder_changes.specs.Serving.{IsErrorAt, Serves}
use Rattle.folder_changes.specs.Worked.{WasCause}
use Rattle.folder_changes.specs.declared.sync_error.Spot.TheVariants.{At, Name}
use Rattle.folder_changes.specs.declared.sync_error.SyncError.{SyncError}
use Rattle.folder_changes.specs.declared.sync_error.SyncError.TheVariants.{Changed as IsChanged}
use Rattle.folder_changes.specs.declared.sync_error.SyncError.TheVariants.{Fault, Locked, NoMemory}
use Rattle.folder_changes.specs.declared.sync_error.SyncError.TheVariants.{NotFolder, TooLarge}
use Rattle.folder_changes.specs.declared.sync_error.SyncError.TheVariants.{TooMany, Unfinished}
use Rattle.folder_changes.proofs.TraceLemmas.{IsUnmade, between_as, between_call, between_earlier}
use Rattle.folder_changes.proofs.TraceLemmas.{calls_one, calls_not_ours, met_refusal, met_step}
use Rattle.folder_changes.proofs.TraceLemmas.{refused_as, refused_earlier, traced_back, traced_here}
use Rattle.folder_drivers.specs.MhLeft.{IsFolderCall, IsNumberCall, MhErrors, MhRefused, bears_no}
use Rattle.folder_drivers.specs.MhLeft.{WasUnlike, stamp_known}
use Rattle.folder_drivers.specs.MhNames.{append_path, call_away, new_sequences_path}
use Rattle.mh_syncs.specs.Causes.{CallCause, IsClearing, IsPutting, IsRemove, IsTakeRefused}
use Rattle.mh_syncs.specs.Causes.{AreStamped, BearsNot, IsTaking, IsTakingOne, IsUnlike, KeyCause}
use Rattle.mh_syncs.specs.Causes.{KeyUnlike, TakeCause}
use Rattle.mh_syncs.specs.Met.{MetAt}
use Rattle.mh_syncs.proofs.Beginning.{on_changed}
use Rattle.mh_syncs.proofs.Meeting.{met_earlier}
use Rattle.mh_syncs.proofs.Unmade.{clearing_left, clearing_no_folder, clearing_no_stamp}
use Rattle.mh_syncs.proofs.Unmade.{number_unmade, putting_left, putting_no_folder}
use Rattle.mh_syncs.proofs.Unmade.{removed_no_append, taking_no_folder}

true_false : ◌≡◌ {A = Bool} true false → ⊥
true_false e = cc

-- One call.

-- a call that the tree refused
pub call_cause : (Needs : Call → Type 0) (why : DiskError) (call : Call) (told : SyncError)
    (old new : Option Past) → Needs call → OnChanged told (IsOfTree why)
    → GoesOn (StepBy {A = Unit {0}} (Err why) call (done_by call)) old new
    → IsBetween (CallCause Needs told) old new
call_cause Needs why call told old new needs changed step =
    between_call (StepBy {A = Unit {0}} (Err why) call (done_by call)) (CallCause Needs told)
    old new
    (λ p q s. on_changed told (λ of_tree.
    met_step Needs why call p q needs (met_refusal why call p q of_tree s)) changed) step

-- one need for another
pub cause_for : (Needs Other : Call → Type 0) (told : SyncError) (old new : Option Past)
    → ((call : Call) → Needs call → Other call) → IsBetween (CallCause Needs told) old new
    → IsBetween (CallCause Other told) old new
cause_for Needs Other told old new turns cause =
    between_as (CallCause Needs told) (CallCause Other told) old new
    (λ m n past c. on_changed told (λ refused. refused_as Needs Other m n past turns refused) c)
    cause

-- behind calls that do not bring it about
pub cause_behind : (Is Needs : Call → Type 0) (told : SyncError) (old mid new : Option Past)
    → ((call : Call) → Needs call → IsUnmade Is (refuses call)) → GoesOn (GoesBy Is) old mid
    → Grows mid new → IsBetween (CallCause Needs told) mid new
    → IsBetween (CallCause Needs told) old new
cause_behind Is Needs told old mid new unmade calls grows cause =
    between_earlier (GoesBy Is) (CallCause Needs told) (CallCause Needs told) old mid new
    (λ p q r goes on c. on_changed told (λ refused.
    refused_earlier Is Needs p q r (length r.journal) unmade goes on refused) c) calls grows cause

-- the same refusal of a part that gives something else
pub serves_as : {A B : Type 0} (why : SyncError) (old new : Seen)
    → Serves {A = A} (Err why) old new → Serves {A = B} (Err why) old new
serves_as {A} {B} why old new serves = record {
  grows = serves.grows;
  marks = serves.marks;
  faults = serves.faults;
  cause = λ is. serves.cause (again (same is));
}
  where
    same : ◌≡◌ {A = Result B SyncError} (Err why) (Err Fault) → why ≡ Fault
    same e = cc

    again : why ≡ Fault → ◌≡◌ {A = Result A SyncError} (Err why) (Err Fault)
    again is = ap Err is

-- Side files that were not taken away.

new_needed : (path : List ℕ) (call : Call) → IsRemove (new_sequences_path path) call
    → IsFolderCall path call
new_needed path call is = subst (IsFolderCall path) (sym is) (inl refl)

append_needed : (path : List ℕ) (call : Call) → IsRemove (append_path path) call
    → IsFolderCall path call
append_needed path call is = subst (IsFolderCall path) (sym is) (inr refl)

pub new_stays : (path : List ℕ) (told : SyncError) (old new : Option Past)
    → IsBetween (CallCause (IsRemove (new_sequences_path path)) told) old new
    → IsBetween (CallCause (IsFolderCall path) told) old new
new_stays path told old new cause =
    cause_for (IsRemove (new_sequences_path path)) (IsFolderCall path) told old new
    (new_needed path) cause

pub append_stays : (path : List ℕ) (result : Result (Unit {0}) SyncError)
    (old mid new : Option Past)
    → GoesOn (GoesBy (IsRemove (new_sequences_path path))) old mid → Grows mid new
    → IfErr result (λ told. IsBetween (CallCause (IsRemove (append_path path)) told) mid new)
    → IfErr result (λ told. IsBetween (CallCause (IsFolderCall path) told) old new)
append_stays path (Ok done) old mid new calls grows cause = tt
append_stays path (Err told) old mid new calls grows cause =
    cause_for (IsRemove (append_path path)) (IsFolderCall path) told old new (append_needed path)
    (cause_behind (IsRemove (new_sequences_path path)) (IsRemove (append_path path)) told
    old mid new
    (λ call is. subst (λ (c : Call). IsUnmade (IsRemove (new_sequences_path path)) (refuses c))
    (sym is) (removed_no_append path)) calls grows cause)

pub clears_at : (at path : List ℕ) (old new : Option Past) → at ≡ path
    → GoesOn (GoesBy (IsClearing at)) old new → GoesOn (GoesBy (IsClearing path)) old new
clears_at at path old new is calls =
    subst (λ (p : List ℕ). GoesOn (GoesBy (IsClearing p)) old new) is calls

-- Files of discarded messages.

pub took_calls : (purge : Bool) (path key : List ℕ) (result : Result (Unit {0}) DiskError)
    (old new : Option Past) → is_number key ≡ true
    → GoesOn (StepBy result (call_away purge path key) (done_by (call_away purge path key))) old new
    → GoesOn (GoesBy (IsTaking path key)) old new
took_calls true path key result old new number step =
    calls_one (IsTaking path key) result (call_away true path key)
    (done_by (call_away true path key)) old new (number, inl refl) step
took_calls false path key result old new number step =
    calls_one (IsTaking path key) result (call_away false path key)
    (done_by (call_away false path key)) old new (number, inr refl) step

pub took_cause : (purge : Bool) (path key : List ℕ) (why : DiskError) (told : SyncError)
    (old new : Option Past) → OnChanged told (IsOfTree why)
    → GoesOn (StepBy {A = Unit {0}} (Err why) (call_away purge path key)
    (done_by (call_away purge path key))) old new
    → IsBetween (CallCause (IsNumberCall path key) told) old new
took_cause true path key why told old new changed step =
    call_cause (IsNumberCall path key) why (call_away true path key) told old new refl changed step
took_cause false path key why told old new changed step =
    call_cause (IsNumberCall path key) why (call_away false path key) told old new (refl, refl)
    changed step

pub key_cause : (path name key : List ℕ) (told : SyncError) (old new : Option Past) → name ≡ key
    → IsBetween (CallCause (IsNumberCall path name) told) old new
    → IsBetween (KeyCause path key told) old new
key_cause path name key told old new is cause =
    between_as (CallCause (IsNumberCall path key) told) (KeyCause path key told) old new
    (λ m n past c. on_changed told (λ refused. inr refused) c)
    (subst (λ (k : List ℕ). IsBetween (CallCause (IsNumberCall path k) told) old new) is cause)

-- Messages that are not as they are known.

pub unlike_at : (path key at : List ℕ) (stamp : Option ℕ) (told : SyncError)
    (old new : Option Past) → at ≡ path_in path key → OnChanged told (BearsNot stamp at old new)
    → OnChanged told (KeyUnlike path key stamp old new)
unlike_at path key at stamp told old new is cause =
    on_changed told (λ bears. inr (subst (λ (p : List ℕ). BearsNot stamp p old new) is bears)) cause

pub unlike_as : (path other key to : List ℕ) (stamp known : Option ℕ) (told : SyncError)
    (old new : Option Past) → path ≡ other → key ≡ to → stamp ≡ known
    → OnChanged told (KeyUnlike path key stamp old new)
    → OnChanged told (KeyUnlike other to known old new)
unlike_as path other key to stamp known told old new first second third cause =
    subst (λ (s : Option ℕ). OnChanged told (KeyUnlike other to s old new)) third
    (subst (λ (k : List ℕ). OnChanged told (KeyUnlike other k stamp old new)) second
    (subst (λ (p : List ℕ). OnChanged told (KeyUnlike p key stamp old new)) first cause))

-- one of the messages that are left to be looked at
pub unlike_left : (known : KnownFolder) (mails : List Mail) (changes : List Changed)
    (changed : Changed) (left all : List Changed) (told : SyncError) (old mid new : Option Past)
    → all ≡ changed ∷ left → ((id : Id) → IsIn id (ids_of all) → IsIn id (ids_of changes))
    → Grows old mid → IsErrorAt (path_in known.path (mail_of mails changed.id.0).key) told
    → OnChanged told (KeyUnlike known.path (mail_of mails changed.id.0).key
    (stamp_known known.listing known.stamps changed.id.0) mid new)
    → OnChanged told (IsUnlike known mails changes told old new)
unlike_left known mails changes changed left all told old mid new whole among grows is cause =
    on_changed told (λ unlike. record {
      id = changed.id;
      among = among changed.id (subst (λ (l : List Changed). IsIn changed.id (ids_of l)) (sym whole)
          (inl refl));
      at = is;
      cause = by unlike;
    }) cause
  where
    by : KeyUnlike known.path (mail_of mails changed.id.0).key
        (stamp_known known.listing known.stamps changed.id.0) mid new
        → KeyUnlike known.path (mail_of mails changed.id.0).key
        (stamp_known known.listing known.stamps changed.id.0) old new
    by (inl none) = inl none
    by (inr met) = inr (met_earlier (λ tree. bears_no
        (stamp_known known.listing known.stamps changed.id.0)
        (path_in known.path (mail_of mails changed.id.0).key) tree ≡ true) old mid new grows met)

longer_same : (past : Past) → IsLonger past past
longer_same past = record { same_first = refl; more = []; journal = sym (append-nil past.journal) }

-- a state that was met behind calls that do not bring it about
met_cause : (Is : Call → Type 0) (is_so : List TreeNode → Bool) (p r : Past)
    → IsUnmade Is is_so → GoesBy Is p r
    → MetAt (λ tree. is_so tree ≡ true) (length p.journal) (length r.journal) r
    → WasCause is_so (length p.journal) (length r.journal) r
met_cause Is is_so p r unmade goes met =
    (traced_back is_so (length r.journal) met.mark r (length p.journal) met.mark met.from
    (λ x from to. calls_not_ours Is is_so p r r unmade goes (longer_same r) x from
    (omega (arith, to, met.to)))
    (traced_here is_so met.mark (length r.journal) r met.to met.is)).cause

module _ (known : KnownFolder) (mails : List Mail) (changes : List Changed) where
  abbrev Refuses : SyncError → ℕ → ℕ → Past → Type 0
  Refuses = MhRefused known mails changes

  -- why the file of a message was not found as it is known, or not taken
  abbrev WhyNumber : Id → List ℕ → ℕ → ℕ → Past → Type 0
  WhyNumber id name m n past = (is_number (mail_of mails id.0).key ≡ false)
      ⊎ WasUnlike known id name m n past
      ⊎ StepRefused (IsNumberCall known.path (mail_of mails id.0).key) m n past

  unlike_by : (told : SyncError) (m n : ℕ) (past : Past) (mid new : Option Past)
      → MhErrors known mails changes told
      → OnChanged told (IsUnlike known mails changes told mid new)
      → ((id : Id) → IsIn id (ids_of changes) → KeyUnlike known.path (mail_of mails id.0).key
      (stamp_known known.listing known.stamps id.0) mid new
      → WhyNumber id (path_in known.path (mail_of mails id.0).key) m n past)
      → Refuses told m n past
  unlike_by (IsChanged (Name name)) m n past mid new may unlike by = inr (record {
    of = record { id = unlike.id; among = unlike.among; at = unlike.at };
    why = subst (λ (p : List ℕ). WhyNumber unlike.id p m n past) (sym unlike.at)
        (by unlike.id unlike.among unlike.cause);
  })
  unlike_by (IsChanged (At place)) m n past mid new may unlike by = may
  unlike_by Locked m n past mid new may unlike by = may
  unlike_by Unfinished m n past mid new may unlike by = may
  unlike_by (TooMany count) m n past mid new may unlike by = may
  unlike_by (TooLarge bytes) m n past mid new may unlike by = may
  unlike_by Fault m n past mid new may unlike by = tt
  unlike_by NoMemory m n past mid new may unlike by = tt
  unlike_by NotFolder m n past mid new may unlike by = may

  -- where its stamp is known, a file with that stamp did not stand there
  stamp_by : (id : Id) (stamp : Option ℕ) (name : List ℕ) (m n : ℕ) (past : Past)
      → stamp_known known.listing known.stamps id.0 ≡ stamp → is_some stamp ≡ true
      → WasCause (bears_no stamp name) m n past → WasUnlike known id name m n past
  stamp_by id None name m n past is some cause = absurd (true_false (sym some))
  stamp_by id (Some stamp) name m n past is some cause = record {
    stamp = stamp;
    is_known = is;
    cause = cause;
  }

  key_by : (id : Id) (old mid new : Past)
      → is_some (stamp_known known.listing known.stamps id.0) ≡ true
      → GoesBy (IsClearing known.path) old new → IsLonger old mid
      → KeyUnlike known.path (mail_of mails id.0).key
      (stamp_known known.listing known.stamps id.0) (Some mid) (Some new)
      → WhyNumber id (path_in known.path (mail_of mails id.0).key) (length old.journal)
      (length new.journal) new
  key_by id old mid new some goes on unlike =
      by (is_number (mail_of mails id.0).key) refl unlike
    where
      by : (t : Bool) → is_number (mail_of mails id.0).key ≡ t
          → KeyUnlike known.path (mail_of mails id.0).key
          (stamp_known known.listing known.stamps id.0) (Some mid) (Some new)
          → WhyNumber id (path_in known.path (mail_of mails id.0).key) (length old.journal)
          (length new.journal) new
      by t number (inl none) = inl none
      by false number (inr met) = inl number
      by true number (inr met) = inr (inl (stamp_by id
          (stamp_known known.listing known.stamps id.0)
          (path_in known.path (mail_of mails id.0).key) (length old.journal) (length new.journal)
          new refl some
          (met_cause (IsClearing known.path)
          (bears_no (stamp_known known.listing known.stamps id.0)
          (path_in known.path (mail_of mails id.0).key)) old new
          (clearing_no_stamp known.path (stamp_known known.listing known.stamps id.0)
          (mail_of mails id.0).key number) goes
          (met_earlier (λ tree. bears_no (stamp_known known.listing known.stamps id.0)
          (path_in known.path (mail_of mails id.0).key) tree ≡ true) (Some old)
          (Some mid) (Some new) on met))))

  pub unlike_refused : (told : SyncError) (old mid new : Option Past)
      → MhErrors known mails changes told → AreStamped known changes
      → GoesOn (GoesBy (IsClearing known.path)) old new → Grows old mid → Grows mid new
      → OnChanged told (IsUnlike known mails changes told mid new)
      → IsBetween (Refuses told) old new
  unlike_refused told None mid new may stamped calls before on unlike = tt
  unlike_refused told (Some old) None new may stamped calls before on unlike = absurd before
  unlike_refused told (Some old) (Some mid) None may stamped calls before on unlike = absurd on
  unlike_refused told (Some old) (Some mid) (Some new) may stamped calls before on unlike =
      unlike_by told (length old.journal) (length new.journal) new (Some mid) (Some new) may unlike
      (λ id among u. key_by id old mid new (stamped id among) calls before u)

  -- A call that needs the folder.

  folder_by : (told : SyncError) (m n : ℕ) (past : Past) → IsErrorAt known.path told
      → CallCause (IsFolderCall known.path) told m n past → Refuses told m n past
  folder_by (IsChanged (Name name)) m n past is cause = inl (is, cause)
  folder_by (IsChanged (At place)) m n past is cause = is
  folder_by Locked m n past is cause = is
  folder_by Unfinished m n past is cause = is
  folder_by (TooMany count) m n past is cause = is
  folder_by (TooLarge bytes) m n past is cause = is
  folder_by Fault m n past is cause = tt
  folder_by NoMemory m n past is cause = tt
  folder_by NotFolder m n past is cause = is

  pub folder_refused : (path : List ℕ) (told : SyncError) (old new : Option Past)
      → path ≡ known.path → IsErrorAt path told
      → IsBetween (CallCause (IsFolderCall path) told) old new
      → IsBetween (Refuses told) old new
  folder_refused path told old new same is cause =
      between_as (CallCause (IsFolderCall known.path) told) (Refuses told) old new
      (λ m n past c. folder_by told m n past (subst (λ (p : List ℕ). IsErrorAt p told) same is) c)
      (subst (λ (p : List ℕ). IsBetween (CallCause (IsFolderCall p) told) old new) same cause)

  abbrev Needs : Call → Type 0
  Needs call = call ≡ SyncDir known.path

  -- names that were not put on the disk, behind all calls before
  pub names_refused : (path cleared put taken : List ℕ) (result : Result (Unit {0}) SyncError)
      (old mid late last new : Option Past) → path ≡ known.path → cleared ≡ known.path
      → put ≡ known.path → taken ≡ known.path
      → GoesOn (GoesBy (IsClearing cleared)) old mid → GoesOn (GoesBy (IsPutting put)) mid late
      → GoesOn (GoesBy (IsTakingOne taken)) late last → Grows mid new → Grows late new
      → Grows last new → IfErr result (IsErrorAt path)
      → IfErr result (λ told. IsBetween (CallCause (λ call. call ≡ SyncDir path) told) last new)
      → IfErr result (λ told. IsBetween (Refuses told) old new)
  names_refused path cleared put taken (Ok done) old mid late last new same first second third
      clears puts takes on more rest is cause = tt
  names_refused path cleared put taken (Err told) old mid late last new same first second third
      clears puts takes on more rest is cause =
      folder_refused known.path told old new refl (subst (λ (p : List ℕ). IsErrorAt p told) same is)
      (cause_for Needs (IsFolderCall known.path) told old new
      (λ call needs. subst (IsFolderCall known.path) (sym needs) refl)
      (cause_behind (IsClearing known.path) Needs told old mid new
      (λ call needs. subst (λ (c : Call). IsUnmade (IsClearing known.path) (refuses c)) (sym needs)
      (clearing_no_folder known.path))
      (subst (λ (p : List ℕ). GoesOn (GoesBy (IsClearing p)) old mid) first clears) on
      (cause_behind (IsPutting known.path) Needs told mid late new
      (λ call needs. subst (λ (c : Call). IsUnmade (IsPutting known.path) (refuses c)) (sym needs)
      (putting_no_folder known.path))
      (subst (λ (p : List ℕ). GoesOn (GoesBy (IsPutting p)) mid late) second puts) more
      (cause_behind (IsTakingOne known.path) Needs told late last new
      (λ call needs. subst (λ (c : Call). IsUnmade (IsTakingOne known.path) (refuses c)) (sym needs)
      (taking_no_folder known.path))
      (subst (λ (p : List ℕ). GoesOn (GoesBy (IsTakingOne p)) late last) third takes) rest
      (subst (λ (p : List ℕ). IsBetween (CallCause (λ call. call ≡ SyncDir p) told) last new)
      same cause)))))

  -- Files that were not taken.

  -- behind calls that leave what it hangs on
  number_behind : (Is : Call → Type 0) (key : List ℕ) (p q r : Past)
      → (is_number key ≡ true → (call : Call) → IsNumberCall known.path key call
      → IsUnmade Is (refuses call)) → GoesBy Is p q → IsLonger q r
      → (is_number key ≡ false)
      ⊎ StepRefused (IsNumberCall known.path key) (length q.journal) (length r.journal) r
      → (is_number key ≡ false)
      ⊎ StepRefused (IsNumberCall known.path key) (length p.journal) (length r.journal) r
  number_behind Is key p q r unmade goes on cause = by (is_number key) refl cause
    where
      by : (t : Bool) → is_number key ≡ t → (is_number key ≡ false)
          ⊎ StepRefused (IsNumberCall known.path key) (length q.journal) (length r.journal) r
          → (is_number key ≡ false)
          ⊎ StepRefused (IsNumberCall known.path key) (length p.journal) (length r.journal) r
      by t number (inl none) = inl none
      by false number (inr refused) = inl number
      by true number (inr refused) = inr (refused_earlier Is (IsNumberCall known.path key) p q r
          (length r.journal) (unmade number) goes on refused)

  take_behind : (Is : Call → Type 0) (told : SyncError) (old mid new : Option Past)
      → ((key : List ℕ) → is_number key ≡ true → (call : Call)
      → IsNumberCall known.path key call → IsUnmade Is (refuses call))
      → GoesOn (GoesBy Is) old mid → Grows mid new
      → IsBetween (TakeCause known.path mails changes told) mid new
      → IsBetween (TakeCause known.path mails changes told) old new
  take_behind Is told old mid new unmade calls grows cause =
      between_earlier (GoesBy Is) (TakeCause known.path mails changes told)
      (TakeCause known.path mails changes told) old mid new
      (λ p q r goes on c. on_changed told (λ refused. by p q r goes on refused) c) calls grows cause
    where
      by : (p q r : Past) → GoesBy Is p q → IsLonger q r
          → IsTakeRefused known.path mails changes told (length q.journal) (length r.journal) r
          → IsTakeRefused known.path mails changes told (length p.journal) (length r.journal) r
      by p q r goes on refused = record {
        id = refused.id;
        among = refused.among;
        at = refused.at;
        cause = number_behind Is (mail_of mails refused.id.0).key p q r
            (unmade (mail_of mails refused.id.0).key) goes on refused.cause;
      }

  take_by : (told : SyncError) (m n : ℕ) (past : Past) → MhErrors known mails changes told
      → TakeCause known.path mails changes told m n past → Refuses told m n past
  take_by (IsChanged (Name name)) m n past may cause = inr (record {
    of = record { id = cause.id; among = cause.among; at = cause.at };
    why = by cause.cause;
  })
    where
      by : (is_number (mail_of mails cause.id.0).key ≡ false)
          ⊎ StepRefused (IsNumberCall known.path (mail_of mails cause.id.0).key) m n past
          → WhyNumber cause.id name.items m n past
      by (inl none) = inl none
      by (inr refused) = inr (inr refused)
  take_by (IsChanged (At place)) m n past may cause = may
  take_by Locked m n past may cause = may
  take_by Unfinished m n past may cause = may
  take_by (TooMany count) m n past may cause = may
  take_by (TooLarge bytes) m n past may cause = may
  take_by Fault m n past may cause = tt
  take_by NoMemory m n past may cause = tt
  take_by NotFolder m n past may cause = may

  pub take_refused : (path cleared put : List ℕ) (told : SyncError)
      (old mid late new : Option Past) → path ≡ known.path → cleared ≡ known.path
      → put ≡ known.path → MhErrors known mails changes told
      → GoesOn (GoesBy (IsClearing cleared)) old mid → GoesOn (GoesBy (IsPutting put)) mid late
      → Grows mid new → Grows late new
      → IsBetween (TakeCause path mails changes told) late new
      → IsBetween (Refuses told) old new
  take_refused path cleared put told old mid late new same first second may clears puts on more
      cause =
      between_as (TakeCause known.path mails changes told) (Refuses told) old new
      (λ m n past c. take_by told m n past may c)
      (take_behind (IsClearing known.path) told old mid new
      (λ key number. number_unmade known.path (IsClearing known.path) key number
      (clearing_left known.path key number))
      (subst (λ (p : List ℕ). GoesOn (GoesBy (IsClearing p)) old mid) first clears) on
      (take_behind (IsPutting known.path) told mid late new
      (λ key number. number_unmade known.path (IsPutting known.path) key number
      (putting_left known.path key number))
      (subst (λ (p : List ℕ). GoesOn (GoesBy (IsPutting p)) mid late) second puts) more
      (subst (λ (p : List ℕ). IsBetween (TakeCause p mails changes told) late new) same cause)))

  -- memory ran out before all calls
  pub none_refused : (told : Option Past) → IsBetween (Refuses NoMemory) told told
  none_refused None = tt
  none_refused (Some past) = tt
