-- What is carried along a journal, and how calls go on.
use Rattle.std.proofs.Common.{Err, List, None, Ok, Option, Result, Some, [], ap, append_assoc, inl}
use Rattle.std.proofs.Common.{inr, map, refl, subst, sym, ℕ, ◌++◌, ◌∙◌, ◌∷◌, ◌≡◌, ◌⊎◌}
use Rattle.std.proofs.lemmas.List.{append-nil, append_cancel_left}
use Rattle.disk_model.specs.Tree.{TreeNode}
use Rattle.disk_model.specs.Journal.{Action, Answer, Call, Done, Entry, Others, Own, Past, Refused}
use Rattle.disk_model.specs.State.{State, after_done, after_entry, after_refused, run_entries}
use Rattle.disk_model.specs.State.{state_after, state_of, tree_of}
use Rattle.disk_model.specs.Judge.{GoesOn, IsAnswer, OneStep, StepBy}
use Rattle.disk_model.specs.declared.answers.DiskError.{DiskError}
use Rattle.disk_model.specs.declared.answers.DiskError.TheVariants.{Exists, Fault, Long, Missing}
use Rattle.disk_model.specs.declared.answers.DiskError.TheVariants.{NoMemory, WrongNode}
use Rattle.disk_model.proofs.Runs.{run_entries-append}
use Rattle.folder_stops.specs.Along.{Allows, Along, Grown, Keeps, Onward, carry}

module _ {A : Type 0} (next : Entry → State → A → A) where
  carry_append : (xs ys : List Entry) (a : A) (s : State) → carry next (xs ++ ys) a s
      ≡ carry next ys (carry next xs a s) (run_entries xs s)
  carry_append [] ys a s = refl
  carry_append (x ∷ xs) ys a s = carry_append xs ys (next x s a) (after_entry s x)

  along_append : (P : A → State → Type 0) (xs ys : List Entry) (a : A) (s : State)
      → Along next P xs a s → Along next P ys (carry next xs a s) (run_entries xs s)
      → Along next P (xs ++ ys) a s
  along_append P [] ys a s first rest = rest
  along_append P (x ∷ xs) ys a s first rest =
      (first.0, along_append P xs ys (next x s a) (after_entry s x) first.1 rest)

pub along_map : {A : Type 0} (next : Entry → State → A → A) (P Q : A → State → Type 0)
    → ((a : A) (s : State) → P a s → Q a s) → (es : List Entry) (a : A) (s : State)
    → Along next P es a s → Along next Q es a s
along_map next P Q f [] a s along = f a s along
along_map next P Q f (x ∷ es) a s along =
    (f a s along.0, along_map next P Q f es (next x s a) (after_entry s x) along.1)

-- what holds at each mark holds at the last, where the next call goes on
pub along_end : {A : Type 0} (next : Entry → State → A → A) (P : A → State → Type 0)
    (es : List Entry) (a : A) (s : State) → Along next P es a s
    → P (carry next es a s) (run_entries es s)
along_end next P [] a s along = along
along_end next P (x ∷ es) a s along = along_end next P es (next x s a) (after_entry s x) along.1

-- the same at the mark between two parts
pub along_at : {A : Type 0} (next : Entry → State → A → A) (P : A → State → Type 0)
    (xs ys : List Entry) (a : A) (s : State) → Along next P (xs ++ ys) a s
    → P (carry next xs a s) (run_entries xs s)
along_at next P [] [] a s along = along
along_at next P [] (y ∷ ys) a s along = along.0
along_at next P (x ∷ xs) ys a s along = along_at next P xs ys (next x s a) (after_entry s x) along.1

pub allows_both : (P Q : Action → State → Type 0) (es : List Entry) (s : State) → Allows P es s
    → Allows Q es s → Allows (λ action s. P action s × Q action s) es s
allows_both P Q [] s one two = tt
allows_both P Q (Own call answer ∷ es) s one two =
    allows_both P Q es (after_entry s (Own call answer)) one two
allows_both P Q (Others action ∷ es) s one two =
    ((one.0, two.0), allows_both P Q es (after_entry s (Others action)) one.1 two.1)

pub allows_left : (IsAllowed : Action → State → Type 0) (xs ys : List Entry) (s : State)
    → Allows IsAllowed (xs ++ ys) s → Allows IsAllowed xs s
allows_left IsAllowed [] ys s all = tt
allows_left IsAllowed (Own call answer ∷ xs) ys s all =
    allows_left IsAllowed xs ys (after_entry s (Own call answer)) all
allows_left IsAllowed (Others action ∷ xs) ys s all =
    (all.0, allows_left IsAllowed xs ys (after_entry s (Others action)) all.1)

pub allows_right : (IsAllowed : Action → State → Type 0) (xs ys : List Entry) (s : State)
    → Allows IsAllowed (xs ++ ys) s → Allows IsAllowed ys (run_entries xs s)
allows_right IsAllowed [] ys s all = all
allows_right IsAllowed (Own call answer ∷ xs) ys s all =
    allows_right IsAllowed xs ys (after_entry s (Own call answer)) all
allows_right IsAllowed (Others action ∷ xs) ys s all =
    allows_right IsAllowed xs ys (after_entry s (Others action)) all.1

onward_then : (past mid new : Past) (P Q R : State → List Entry → Type 0) → Onward P past mid
    → Onward Q mid new → ((s : State) (xs ys : List Entry) → P s xs → Q (run_entries xs s) ys
    → R s (xs ++ ys)) → Onward R past new
onward_then past mid new P Q R first rest join =
    let mid_is : state_after mid ≡ run_entries first.more (state_after past) =
    (λ i. run_entries (first.journal i) (state_of (first.same_first i)))
    ∙ run_entries-append past.journal first.more (state_of past.first) in
    record {
      same_first = rest.same_first ∙ first.same_first;
      more = first.more ++ rest.more;
      journal = rest.journal ∙ ap (λ (l : List Entry). l ++ rest.more) first.journal
          ∙ append_assoc past.journal first.more rest.more;
      along = join (state_after past) first.more rest.more first.along
          (subst (λ (s : State). Q s rest.more) mid_is rest.along);
    }

-- what is not told stays so
untold : (b c : Option Past) (Q : State → List Entry → Type 0) → b ≡ None → Grown b c Q → c ≡ None
untold None c Q none rest = rest
untold (Some past) c Q none rest = absurd (cc)

pub grown_then : (a b c : Option Past) (P Q R : State → List Entry → Type 0) → Grown a b P
    → Grown b c Q → ((s : State) (xs ys : List Entry) → P s xs → Q (run_entries xs s) ys
    → R s (xs ++ ys)) → Grown a c R
grown_then None b c P Q R first rest join = untold b c Q first rest
grown_then (Some past) None c P Q R first rest join = absurd first
grown_then (Some past) (Some mid) None P Q R first rest join = absurd rest
grown_then (Some past) (Some mid) (Some new) P Q R first rest join =
    onward_then past mid new P Q R first rest join

pub grown_map : (a b : Option Past) (P Q : State → List Entry → Type 0) → Grown a b P
    → ((s : State) (es : List Entry) → P s es → Q s es) → Grown a b Q
grown_map None b P Q first f = first
grown_map (Some past) None P Q first f = absurd first
grown_map (Some past) (Some new) P Q first f = record {
  same_first = first.same_first;
  more = first.more;
  journal = first.journal;
  along = f (state_after past) first.more first.along;
}

-- two facts of one growth
onward_both : (past new : Past) (P Q : State → List Entry → Type 0) → Onward P past new
    → Onward Q past new → Onward (λ s es. P s es × Q s es) past new
onward_both past new P Q one two = record {
  same_first = one.same_first;
  more = one.more;
  journal = one.journal;
  along = (
    one.along,
    subst (λ (es : List Entry). Q (state_after past) es)
        (append_cancel_left past.journal two.more one.more (sym two.journal ∙ one.journal))
        two.along,
  );
}

pub grown_both : (a b : Option Past) (P Q : State → List Entry → Type 0) → Grown a b P → Grown a b Q
    → Grown a b (λ s es. P s es × Q s es)
grown_both None b P Q one two = one
grown_both (Some past) None P Q one two = absurd one
grown_both (Some past) (Some new) P Q one two = onward_both past new P Q one two

-- nothing has been done yet
pub grown_none : (a : Option Past) (P : State → List Entry → Type 0) → ((s : State) → P s [])
    → Grown a a P
grown_none None P start = refl
grown_none (Some past) P start = record {
  same_first = refl;
  more = [];
  journal = sym (append-nil past.journal);
  along = start (state_after past);
}

-- what a call adds to the journal
abbrev pub IsDone : Call → State → List Entry → Type 0
IsDone call s entries =
    (actions : List Action) × (entries ≡ map Others actions ++ Own call Done ∷ [])

-- what a refused call adds: nothing for want of memory
abbrev pub IsRefused : Call → State → List Entry → Type 0
IsRefused call s entries =
    (entries ≡ []) ⊎ ((actions : List Action) × (why : DiskError) × (wrote : ℕ)
    × (entries ≡ map Others actions ++ Own call (Refused why wrote) ∷ []))

pub done_grown : {T : Type 0} (v : T) (call : Call) (wanted : List TreeNode → Result T DiskError)
    (a b : Option Past) → GoesOn (StepBy (Ok v) call wanted) a b → Grown a b (IsDone call)
done_grown v call wanted None b step = step
done_grown v call wanted (Some past) None step = absurd step
done_grown v call wanted (Some past) (Some new) step = record {
  same_first = step.same_first;
  more = map Others step.actions ++ Own call step.answer ∷ [];
  journal = step.journal;
  along = (
    step.actions,
    ap (λ (answer : Answer). map Others step.actions ++ Own call answer ∷ [])
        step.answered,
  );
}

-- the same with its verdict
abbrev pub IsDoneBy : {T : Type 0} → T → (List TreeNode → Result T DiskError) → Call → State
    → List Entry → Type 0
IsDoneBy v wanted call s entries =
    (actions : List Action) × (entries ≡ map Others actions ++ Own call Done ∷ [])
    × (Ok v ≡ wanted (tree_of (run_entries (map Others actions) s)))

pub judged_grown : {T : Type 0} (v : T) (call : Call) (wanted : List TreeNode → Result T DiskError)
    (a b : Option Past) → GoesOn (StepBy (Ok v) call wanted) a b
    → Grown a b (IsDoneBy v wanted call)
judged_grown v call wanted None b step = step
judged_grown v call wanted (Some past) None step = absurd step
judged_grown v call wanted (Some past) (Some new) step = record {
  same_first = step.same_first;
  more = map Others step.actions ++ Own call step.answer ∷ [];
  journal = step.journal;
  along = (
    step.actions,
    ap (λ (answer : Answer). map Others step.actions ++ Own call answer ∷ [])
        step.answered,
    step.judged ∙ ap (λ (s : State). wanted (tree_of s))
        (run_entries-append past.journal (map Others step.actions) (state_of past.first)),
  );
}

refused_answer : (T : Type 0) (e : DiskError) (call : Call) (answer : Answer)
    → IsAnswer {A = T} call (Err e) answer
    → (why : DiskError) × (wrote : ℕ) × (answer ≡ Refused why wrote)
refused_answer T Fault call answer is = (Fault, is.0, is.1)
refused_answer T Missing call answer is = (Missing, 0, is)
refused_answer T WrongNode call answer is = (WrongNode, 0, is)
refused_answer T Exists call answer is = (Exists, 0, is)
refused_answer T (Long size) call answer is = (Long size, 0, is)
refused_answer T NoMemory call answer is = absurd is

one_refused : {T : Type 0} (e : DiskError) (call : Call)
    (wanted : List TreeNode → Result T DiskError) (a b : Option Past)
    → GoesOn (OneStep (Err e) call wanted) a b → Grown a b (IsRefused call)
one_refused e call wanted None b step = step
one_refused e call wanted (Some past) None step = absurd step
one_refused {T} e call wanted (Some past) (Some new) step =
    let told = refused_answer T e call step.answer step.answered in
    record {
      same_first = step.same_first;
      more = map Others step.actions ++ Own call step.answer ∷ [];
      journal = step.journal;
      along = inr (
        step.actions,
        told.0,
        told.1,
        ap (λ (answer : Answer). map Others step.actions ++ Own call answer ∷ []) told.2,
      );
    }

none_refused : (call : Call) (a b : Option Past) → GoesOn (λ past next. next ≡ past) a b
    → Grown a b (IsRefused call)
none_refused call None b step = step
none_refused call (Some past) None step = absurd step
none_refused call (Some past) (Some new) step =
    record {
      same_first = ap (λ (p : Past). p.first) step;
      more = [];
      journal = ap (λ (p : Past). p.journal) step ∙ sym (append-nil past.journal);
      along = inl refl;
    }

pub refused_grown : {T : Type 0} (e : DiskError) (call : Call)
    (wanted : List TreeNode → Result T DiskError) (a b : Option Past)
    → GoesOn (StepBy (Err e) call wanted) a b → Grown a b (IsRefused call)
refused_grown NoMemory call wanted a b step = none_refused call a b step
refused_grown Missing call wanted a b step = one_refused Missing call wanted a b step
refused_grown WrongNode call wanted a b step = one_refused WrongNode call wanted a b step
refused_grown Exists call wanted a b step = one_refused Exists call wanted a b step
refused_grown (Long size) call wanted a b step = one_refused (Long size) call wanted a b step
refused_grown Fault call wanted a b step = one_refused Fault call wanted a b step

module _ {A : Type 0} (next : Entry → State → A → A) (IsAllowed : Action → State → Type 0)
    (P : A → State → Type 0) where
  -- a stage: others leave it, and it has P
  pub record IsStage (X : A → State → Type 0) : Type 0 where
    pub stable : (action : Action) (a : A) (s : State) → IsAllowed action s → X a s
        → X (next (Others action) s a) (after_entry s (Others action))
    pub good : (a : A) (s : State) → X a s → P a s

  pub keeps_then : (X Y Z : A → State → Type 0) (s : State) (xs ys : List Entry)
      → Keeps next IsAllowed P X Y s xs → Keeps next IsAllowed P Y Z (run_entries xs s) ys
      → Keeps next IsAllowed P X Z s (xs ++ ys)
  keeps_then X Y Z s xs ys first rest a all x =
      let one = first a (allows_left IsAllowed xs ys s all) x in
      let two = rest (carry next xs a s) (allows_right IsAllowed xs ys s all) one.1 in (
        along_append next P xs ys a s one.0 two.0,
        subst (λ (e : State). Z (carry next (xs ++ ys) a s) e) (sym (run_entries-append xs ys s))
            (subst (λ (b : A). Z b (run_entries ys (run_entries xs s)))
            (sym (carry_append next xs ys a s)) two.1),
      )

  step : (X Y : A → State → Type 0) (x : IsStage X) (good : (a : A) (s : State) → Y a s → P a s)
      (call : Call) (answer : Answer)
      → ((a : A) (s : State) → X a s → Y (next (Own call answer) s a)
      (after_entry s (Own call answer)))
      → (actions : List Action) (s : State)
      → Keeps next IsAllowed P X Y s (map Others actions ++ Own call answer ∷ [])
  step X Y x good call answer goes [] s a all is =
      let there = goes a s is in ((x.good a s is, good _ _ there), there)
  step X Y x good call answer goes (action ∷ actions) s a all is =
      let rest = step X Y x good call answer goes actions (after_entry s (Others action))
      (next (Others action) s a) all.1 (x.stable action a s all.0 is) in
      ((x.good a s is, rest.0), rest.1)

  pub step_judged : (Q : State → Type 0) (X Y : A → State → Type 0) (x : IsStage X)
      (good : (a : A) (s : State) → Y a s → P a s) (call : Call) (answer : Answer)
      → ((a : A) (s : State) → Q s → X a s → Y (next (Own call answer) s a)
      (after_entry s (Own call answer)))
      → (actions : List Action) (s : State) → Q (run_entries (map Others actions) s)
      → Keeps next IsAllowed P X Y s (map Others actions ++ Own call answer ∷ [])
  step_judged Q X Y x good call answer goes [] s q a all is = let there = goes a s q is in
      ((x.good a s is, good _ _ there), there)
  step_judged Q X Y x good call answer goes (action ∷ actions) s q a all is =
      let rest = step_judged Q X Y x good call answer goes actions (after_entry s (Others action)) q
      (next (Others action) s a) all.1 (x.stable action a s all.0 is) in
      ((x.good a s is, rest.0), rest.1)

  -- a call that was answered Ok, with its verdict on the tree that it met
  pub done_judged : {T : Type 0} (v : T) (wanted : List TreeNode → Result T DiskError)
      (X Y : A → State → Type 0) → IsStage X → ((a : A) (s : State) → Y a s → P a s) → (call : Call)
      → ((a : A) (s : State) → Ok v ≡ wanted (tree_of s) → X a s → Y (next (Own call Done) s a)
      (after_done call s))
      → (s : State) (es : List Entry) → IsDoneBy v wanted call s es
      → Keeps next IsAllowed P X Y s es
  done_judged v wanted X Y x good call goes s es is =
      subst (λ (l : List Entry). Keeps next IsAllowed P X Y s l) (sym is.1)
      (step_judged (λ s. Ok v ≡ wanted (tree_of s)) X Y x good call Done goes is.0 s is.2)

  -- a call that was answered Ok
  pub done : (X Y : A → State → Type 0) → IsStage X → ((a : A) (s : State) → Y a s → P a s)
      → (call : Call) → ((a : A) (s : State) → X a s → Y (next (Own call Done) s a)
      (after_done call s))
      → (s : State) (es : List Entry) → IsDone call s es → Keeps next IsAllowed P X Y s es
  done X Y x good call goes s es is =
      subst (λ (l : List Entry). Keeps next IsAllowed P X Y s l) (sym is.1)
      (step X Y x good call Done goes is.0 s)

  -- one that was refused
  pub refused : (X Y : A → State → Type 0) → IsStage X → ((a : A) (s : State) → Y a s → P a s)
      → (call : Call) → ((a : A) (s : State) → X a s → Y a s)
      → ((why : DiskError) (wrote : ℕ) (a : A) (s : State) → X a s
      → Y (next (Own call (Refused why wrote)) s a) (after_refused call wrote s))
      → (s : State) (es : List Entry) → IsRefused call s es → Keeps next IsAllowed P X Y s es
  refused X Y x good call stays goes s es (inl is) =
      subst (λ (l : List Entry). Keeps next IsAllowed P X Y s l) (sym is) (λ a all h.
      (x.good a s h, stays a s h))
  refused X Y x good call stays goes s es (inr is) =
      subst (λ (l : List Entry). Keeps next IsAllowed P X Y s l) (sym is.3)
      (step X Y x good call (Refused is.1 is.2) (goes is.1 is.2) is.0 s)
