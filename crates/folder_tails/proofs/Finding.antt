-- How looks and finishing lead on, where what is found is not known before.
use Rattle.std.proofs.Common.{Bool, Err, List, None, Option, Result, Some, [], arith, inl, inr}
use Rattle.std.proofs.Common.{map, subst, sym, ℕ, ◌++◌, ◌∙◌, ◌∷◌, ◌≡◌, ◌≤◌, ◌⊎◌, ap}
use Rattle.std.proofs.lemmas.List.{append_cancel_left}
use Rattle.disk_model.specs.Tree.{TreeNode}
use Rattle.disk_model.specs.Journal.{Action, Answer, Call, Create, Cut, Entry, ListDir, MakeDir}
use Rattle.disk_model.specs.Journal.{Others, Own, Past, ReadAll, ReadFront, Refused, Remove, Rename}
use Rattle.disk_model.specs.Journal.{StatPath, Sync, SyncDir, WriteAt}
use Rattle.disk_model.specs.State.{State, after_refused, run_entries, state_after, state_of}
use Rattle.disk_model.specs.State.{tree_of}
use Rattle.disk_model.specs.Judge.{Called, GoesOn, StepBy}
use Rattle.disk_model.specs.declared.answers.DiskError.{DiskError}
use Rattle.disk_model.specs.declared.answers.DiskError.TheVariants.{Missing}
use Rattle.disk_model.proofs.Runs.{run_entries-append}
use Rattle.folder_stops.specs.Along.{Grown, Keeps, Onward}
use Rattle.folder_stops.specs.Does.{AllOwn}
use Rattle.folder_stops.proofs.Along.{grown_map, grown_then, keeps_then, step_judged}
use Rattle.folder_stops.proofs.Does.{own_append}
use Rattle.folder_tails.specs.Others.{MayDo, met}
use Rattle.folder_tails.specs.Stages.{IsAllowed, Leads}
use Rattle.folder_tails.proofs.Leading.{IsOwnStage, own_step}

-- what a call adds that missed what it wanted, with its verdict
abbrev IsMissed : {T : Type 0} → (List TreeNode → Result T DiskError) → Call → State → List Entry
    → Type 0
IsMissed wanted call s entries = (actions : List Action)
    × (entries ≡ map Others actions ++ Own call (Refused Missing 0) ∷ [])
    × (Err Missing ≡ wanted (tree_of (run_entries (map Others actions) s)))

missed_grown : {T : Type 0} (call : Call) (wanted : List TreeNode → Result T DiskError)
    (a b : Option Past) → GoesOn (StepBy (Err Missing) call wanted) a b
    → Grown a b (IsMissed wanted call)
missed_grown call wanted None b step = step
missed_grown call wanted (Some past) None step = absurd step
missed_grown call wanted (Some past) (Some new) step = record {
  same_first = step.same_first;
  more = map Others step.actions ++ Own call step.answer ∷ [];
  journal = step.journal;
  along = (
    step.actions,
    ap (λ (answer : Answer). map Others step.actions ++ Own call answer ∷ []) step.answered,
    step.judged ∙ ap (λ (s : State). wanted (tree_of s))
        (run_entries-append past.journal (map Others step.actions) (state_of past.first)),
  );
}

module _ (path : List ℕ) (from : ℕ) (P : (List ℕ → Bool) → State → Type 0) where
  abbrev Fits : Call → Answer → Type 0
  Fits call answer = IsAllowed path from call

  -- a call that missed what it wanted
  pub misses : {X Y Z : (List ℕ → Bool) → State → Type 0} {a b c : Option Past} {T : Type 0}
      {call : Call} {wanted : List TreeNode → Result T DiskError}
      → Leads path from P a b X Y → Called (Err Missing) call wanted b c → IsAllowed path from call
      → IsOwnStage path from P Y → ((may : List ℕ → Bool) (s : State) → Z may s → P may s)
      → ((may : List ℕ → Bool) (s : State) → Err Missing ≡ wanted (tree_of s) → Y may s
      → Z may (after_refused call 0 s)) → Leads path from P a c X Z
  misses {X} {Y} {Z} {a} {b} {c} {T} {call} {wanted} so_far took fits y good goes = record {
    grown = grown_then a b c _ _ _ so_far.grown (missed_grown call wanted b c took.goes)
        (λ s xs ys k is. (
          own_append Fits xs ys k.0 (subst (AllOwn Fits) (sym is.1)
              (own_step Fits is.0 call (Refused Missing 0) fits)),
          keeps_then (met path) (MayDo path) P X Y Z s xs ys k.1
              (subst (λ (l : List Entry). Keeps (met path) (MayDo path) P Y Z (run_entries xs s) l)
              (sym is.1)
              (step_judged (met path) (MayDo path) P (λ s. Err Missing ≡ wanted (tree_of s)) Y Z y
              good call (Refused Missing 0) (λ may s is x. goes may s is x) is.0 (run_entries xs s)
              is.2)),
        ));
  }

-- what holds for each of some things holds for all of them
onward_all : {I : Type 0} (past new : Past) (P : I → State → List Entry → Type 0) → I
    → ((i : I) → Onward (P i) past new) → Onward (λ s es. (i : I) → P i s es) past new
onward_all past new P some all = record {
  same_first = (all some).same_first;
  more = (all some).more;
  journal = (all some).journal;
  along = λ i. subst (λ (es : List Entry). P i (state_after past) es)
      (append_cancel_left past.journal (all i).more (all some).more
      (sym (all i).journal ∙ (all some).journal)) (all i).along;
}

grown_all : {I : Type 0} (a b : Option Past) (P : I → State → List Entry → Type 0) → I
    → ((i : I) → Grown a b (P i)) → Grown a b (λ s es. (i : I) → P i s es)
grown_all None b P some all = all some
grown_all (Some past) None P some all = absurd (all some)
grown_all (Some past) (Some new) P some all = onward_all past new P some all

-- one of some stages, whichever it is
pub leads_any : {I : Type 0} (path : List ℕ) (from : ℕ) (P : (List ℕ → Bool) → State → Type 0)
    (X Y : I → (List ℕ → Bool) → State → Type 0) (a b : Option Past) → I
    → ((i : I) → Leads path from P a b (X i) (Y i))
    → Leads path from P a b (λ may s. (i : I) × X i may s) (λ may s. (i : I) × Y i may s)
leads_any path from P X Y a b some all = record {
  grown = grown_map a b _ _ (grown_all a b (λ i s es.
      AllOwn (λ call answer. IsAllowed path from call) es
      × Keeps (met path) (MayDo path) P (X i) (Y i) s es) some (λ i. (all i).grown))
      (λ s es k. (
        (k some).0,
        λ may allowed x. let went = (k x.0).1 may allowed x.1 in (went.0, (x.0, went.1)),
      ));
}

side_or : (at path : List ℕ) (low high n : ℕ) (S : Type 0) → low ≤ high → S ⊎
    ((at ≡ path) × (high ≤ n))
    → S ⊎ ((at ≡ path) × (low ≤ n))
side_or at path low high n S le (inl side) = inl side
side_or at path low high n S le (inr mail) = inr (mail.0, omega (arith, le, mail.1))

allowed_below : (path : List ℕ) (low high : ℕ) → low ≤ high → (call : Call)
    → IsAllowed path high call → IsAllowed path low call
allowed_below path low high le (ListDir dir) is = tt
allowed_below path low high le (StatPath at) is = tt
allowed_below path low high le (ReadFront at size) is = tt
allowed_below path low high le (ReadAll at limit) is = tt
allowed_below path low high le (Create at) is = is
allowed_below path low high le (WriteAt at place piece) is = side_or at path low high place _ le is
allowed_below path low high le (Cut at size) is = side_or at path low high size _ le is
allowed_below path low high le (Sync at) is = is
allowed_below path low high le (Rename at to) is = is
allowed_below path low high le (Remove at) is = is
allowed_below path low high le (SyncDir dir) is = tt
allowed_below path low high le (MakeDir at) is = is

all_below : (path : List ℕ) (low high : ℕ) → low ≤ high → (es : List Entry)
    → AllOwn (λ call answer. IsAllowed path high call) es
    → AllOwn (λ call answer. IsAllowed path low call) es
all_below path low high le [] all = tt
all_below path low high le (Own call answer ∷ es) all =
    (allowed_below path low high le call all.0, all_below path low high le es all.1)
all_below path low high le (Others action ∷ es) all = all_below path low high le es all

-- our calls may change more
pub leads_below : {P X Y : (List ℕ → Bool) → State → Type 0} {a b : Option Past} (path : List ℕ)
    (low high : ℕ) → low ≤ high → Leads path high P a b X Y → Leads path low P a b X Y
leads_below {a = a} {b = b} path low high le so_far = record {
  grown = grown_map a b _ _ so_far.grown (λ s es k. (all_below path low high le es k.0, k.1));
}
