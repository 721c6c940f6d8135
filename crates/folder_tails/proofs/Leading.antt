-- How device calls lead from stage to stage.
use Rattle.std.proofs.Common.{Bool, Err, List, Ok, Option, Result, [], inl, inr, map, subst, sym}
use Rattle.std.proofs.Common.{true, ℕ}
use Rattle.std.proofs.Common.{◌++◌, ◌==◌, ◌∷◌, ◌≡◌}
use Rattle.std.proofs.lemmas.Bool.{or_left}
use Rattle.disk_model.specs.Tree.{TreeNode}
use Rattle.disk_model.specs.Journal.{Action, Answer, Call, Done, Entry, Others, Own, Past, Refused}
use Rattle.disk_model.specs.State.{State, after_done, after_refused, run_entries, tree_of}
use Rattle.disk_model.specs.Looking.{is_look}
use Rattle.disk_model.specs.Judge.{Called}
use Rattle.disk_model.specs.declared.answers.DiskError.{DiskError}
use Rattle.disk_model.proofs.Marks.{look_keeps, refusal_keeps}
use Rattle.folder_stops.specs.Does.{AllOwn}
use Rattle.folder_stops.proofs.Along.{IsDone, IsRefused, IsStage, along_map, done}
use Rattle.folder_stops.proofs.Along.{done_grown, done_judged, grown_map, grown_none, grown_then}
use Rattle.folder_stops.proofs.Along.{judged_grown, keeps_then, refused, refused_grown}
use Rattle.folder_stops.proofs.Does.{own_append}
use Rattle.folder_tails.specs.Others.{MayDo, met}
use Rattle.folder_tails.specs.Stages.{IsAllowed, Leads}

pub own_step : (Q : Call → Answer → Type 0) (actions : List Action) (call : Call) (answer : Answer)
    → Q call answer → AllOwn Q (map Others actions ++ Own call answer ∷ [])
own_step Q [] call answer is = (is, tt)
own_step Q (action ∷ actions) call answer is = own_step Q actions call answer is

pub own_done : (Q : Call → Answer → Type 0) (call : Call) (s : State) (es : List Entry) → Q call
    Done
    → IsDone call s es → AllOwn Q es
own_done Q call s es is took = subst (AllOwn Q) (sym took.1) (own_step Q took.0 call Done is)

pub own_refused : (Q : Call → Answer → Type 0) (call : Call) (s : State) (es : List Entry)
    → ((answer : Answer) → Q call answer) → IsRefused call s es → AllOwn Q es
own_refused Q call s es is (inl none) = subst (AllOwn Q) (sym none) tt
own_refused Q call s es is (inr some) =
    subst (AllOwn Q) (sym some.3) (own_step Q some.0 call (Refused some.1 some.2) (is _))

module _ (path : List ℕ) (from : ℕ) (P : (List ℕ → Bool) → State → Type 0) where
  -- what our calls are
  abbrev Fits : Call → Answer → Type 0
  Fits call answer = IsAllowed path from call

  -- a stage that others leave, and in which P holds
  abbrev pub IsOwnStage : ((List ℕ → Bool) → State → Type 0) → Type 0
  IsOwnStage X = IsStage (met path) (MayDo path) P X

  pub start : {X : (List ℕ → Bool) → State → Type 0} (a : Option Past) → IsOwnStage X
      → Leads path from P a a X X
  start {X} a x = record {
    grown = grown_none a _ (λ s. (
      tt,
      λ may allowed is.
          (x.good may s is, is),
    ));
  }

  -- a call answered Ok
  pub goes_on : {X Y Z : (List ℕ → Bool) → State → Type 0} {a b c : Option Past} {T : Type 0}
      {v : T} {call : Call} {wanted : List TreeNode → Result T DiskError}
      → Leads path from P a b X Y → Called (Ok v) call wanted b c → IsAllowed path from call
      → IsOwnStage Y → IsOwnStage Z
      → ((may : List ℕ → Bool) (s : State) → Y may s → Z may (after_done call s))
      → Leads path from P a c X Z
  goes_on {X} {Y} {Z} {a} {b} {c} {T} {v} {call} {wanted} so_far took fits y z goes = record {
    grown = grown_then a b c _ _ _ so_far.grown (done_grown v call wanted b c took.goes)
        (λ s xs ys k is. (
          own_append Fits xs ys k.0 (own_done Fits call (run_entries xs s) ys fits is),
          keeps_then (met path) (MayDo path) P X Y Z s xs ys k.1
              (done (met path) (MayDo path) P Y Z y z.good call goes (run_entries xs s) ys is),
        ));
  }

  -- the same with its verdict on the tree that it met
  pub goes_judged : {X Y Z : (List ℕ → Bool) → State → Type 0} {a b c : Option Past} {T : Type 0}
      {v : T} {call : Call} {wanted : List TreeNode → Result T DiskError}
      → Leads path from P a b X Y → Called (Ok v) call wanted b c → IsAllowed path from call
      → IsOwnStage Y → IsOwnStage Z
      → ((may : List ℕ → Bool) (s : State) → Ok v ≡ wanted (tree_of s) → Y may s
      → Z may (after_done call s)) → Leads path from P a c X Z
  goes_judged {X} {Y} {Z} {a} {b} {c} {T} {v} {call} {wanted} so_far took fits y z goes = record {
    grown = grown_then a b c _ _ _ so_far.grown (judged_grown v call wanted b c took.goes)
        (λ s xs ys k is. (
          own_append Fits xs ys k.0 (own_done Fits call (run_entries xs s) ys fits (is.0, is.1)),
          keeps_then (met path) (MayDo path) P X Y Z s xs ys k.1
              (done_judged (met path) (MayDo path) P v wanted Y Z y z.good call goes
              (run_entries xs s) ys is),
        ));
  }

  -- a call that was refused, and may have changed something
  pub stops_short : {X Y Z : (List ℕ → Bool) → State → Type 0} {a b c : Option Past} {T : Type 0}
      {e : DiskError} {call : Call} {wanted : List TreeNode → Result T DiskError}
      → Leads path from P a b X Y → Called (Err e) call wanted b c → IsAllowed path from call
      → IsOwnStage Y → ((may : List ℕ → Bool) (s : State) → Z may s → P may s)
      → ((may : List ℕ → Bool) (s : State) → Y may s → Z may s)
      → ((wrote : ℕ) (may : List ℕ → Bool) (s : State) → Y may s
      → Z may (after_refused call wrote s)) → Leads path from P a c X Z
  stops_short {X} {Y} {Z} {a} {b} {c} {T} {e} {call} {wanted} so_far took fits y good stays goes =
      record {
        grown = grown_then a b c _ _ _ so_far.grown (refused_grown e call wanted b c took.goes)
            (λ s xs ys k is. (
              own_append Fits xs ys k.0 (own_refused Fits call (run_entries xs s) ys
                  (λ answer. fits)
                  is),
              keeps_then (met path) (MayDo path) P X Y Z s xs ys k.1
                  (refused (met path) (MayDo path) P Y Z y good call stays
                  (λ why wrote. goes wrote) (run_entries xs s) ys is),
            ));
      }

  -- of what a call leaves that was refused P is said
  pub stops : {X Y : (List ℕ → Bool) → State → Type 0} {a b c : Option Past} {T : Type 0}
      {e : DiskError} {call : Call} {wanted : List TreeNode → Result T DiskError}
      → Leads path from P a b X Y → Called (Err e) call wanted b c → IsAllowed path from call
      → IsOwnStage Y
      → ((wrote : ℕ) (may : List ℕ → Bool) (s : State) → Y may s
      → P may (after_refused call wrote s)) → Leads path from P a c X P
  stops so_far took fits y goes = stops_short so_far took fits y (λ may s is. is) y.good goes

  pub then : {X Y Z : (List ℕ → Bool) → State → Type 0} {a b c : Option Past}
      → Leads path from P a b X Y → Leads path from P b c Y Z → Leads path from P a c X Z
  then {X} {Y} {Z} {a} {b} {c} first rest = record {
    grown = grown_then a b c _ _ _ first.grown rest.grown (λ s xs ys k l. (
      own_append Fits xs ys k.0 l.0,
      keeps_then (met path) (MayDo path) P X Y Z s xs ys k.1 l.1,
    ));
  }

  -- less is said of the end, or more is wanted of the beginning
  pub weaken : {W X Y Z : (List ℕ → Bool) → State → Type 0} {a b : Option Past}
      → Leads path from P a b X Y
      → ((may : List ℕ → Bool) (s : State) → W may s → X may s)
      → ((may : List ℕ → Bool) (s : State) → Y may s → Z may s) → Leads path from P a b W Z
  weaken {W} {X} {Y} {Z} {a} {b} so_far more less = record {
    grown = grown_map a b _ _ so_far.grown (λ s es k. (
      k.0,
      λ may allowed w. let all = k.1 may allowed (more may s w) in (all.0, less _ _ all.1),
    ));
  }

  -- a look leaves a stage as it is, whatever it answers
  pub looks_on : {X : (List ℕ → Bool) → State → Type 0} {b c : Option Past} {T : Type 0}
      {result : Result T DiskError} {call : Call} {wanted : List TreeNode → Result T DiskError}
      → Called result call wanted b c → is_look call ≡ true → IsAllowed path from call
      → IsOwnStage X → Leads path from P b c X X
  looks_on {X = X} {b = b} {result = Ok v} {call = call} took look fits x =
      goes_on (start b x) took fits x x
      (λ may s is. subst (X may) (sym (look_keeps call s look)) is)
  looks_on {X = X} {b = b} {result = Err e} {call = call} took look fits x =
      stops_short (start b x) took fits x x.good (λ may s is. is)
      (λ wrote may s is. subst (X may)
      (sym (refusal_keeps call wrote s (or_left (is_look call) (wrote == 0) look))) is)

-- at each mark less is said
pub loosen : (path : List ℕ) (from : ℕ) (P Q : (List ℕ → Bool) → State → Type 0)
    {X Y : (List ℕ → Bool) → State → Type 0} {a b : Option Past}
    → ((may : List ℕ → Bool) (s : State) → P may s → Q may s) → Leads path from P a b X Y
    → Leads path from Q a b X Y
loosen path from P Q {X} {Y} {a} {b} less so_far = record {
  grown = grown_map a b _ _ so_far.grown (λ s es k. (
    k.0,
    λ may allowed x. let all = k.1 may allowed x in
        (along_map (met path) P Q less es may s all.0, all.1),
  ));
}
