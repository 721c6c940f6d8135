-- How device calls lead from stage to stage.
use Rattle.std.proofs.Common.{Err, List, Ok, Option, Result, subst, sym, true, ℕ, ◌==◌, ◌≡◌}
use Rattle.std.proofs.lemmas.Bool.{or_left}
use Rattle.disk_model.specs.Tree.{TreeNode}
use Rattle.disk_model.specs.Journal.{Action, Answer, Call, Done, Entry, Own, Past, Refused}
use Rattle.disk_model.specs.State.{State, after_done, after_refused, run_entries, tree_of}
use Rattle.disk_model.specs.Looking.{is_look}
use Rattle.disk_model.specs.Judge.{Called}
use Rattle.disk_model.specs.declared.answers.DiskError.{DiskError}
use Rattle.disk_model.proofs.Marks.{look_keeps, refusal_keeps}
use Rattle.folder_stops.specs.Messages.{StoredMessage}
use Rattle.folder_stops.specs.Syncs.{Leads}
use Rattle.folder_stops.proofs.Along.{IsStage, done, done_grown, done_judged, grown_map, grown_none}
use Rattle.folder_stops.proofs.Along.{grown_then, judged_grown, keeps_then, refused, refused_grown}
use Rattle.folder_stops.proofs.Words.{same}

module _ (next : Entry → State → List StoredMessage → List StoredMessage)
    (IsAllowed : Action → State → Type 0) (P : List StoredMessage → State → Type 0) where
  -- a stage that others leave, and in which P holds
  abbrev pub IsOwnStage : (List StoredMessage → State → Type 0) → Type 0
  IsOwnStage X = IsStage next IsAllowed P X

  pub start : {X : List StoredMessage → State → Type 0} (a : Option Past) → IsOwnStage X
      → Leads next IsAllowed P a a X X
  start {X} a x = record { grown = grown_none a _ (λ s all allowed is. (x.good all s is, is)) }

  -- a call answered Ok
  pub goes_on : {X Y Z : List StoredMessage → State → Type 0} {a b c : Option Past} {T : Type 0}
      {v : T} {call : Call} {wanted : List TreeNode → Result T DiskError}
      → Leads next IsAllowed P a b X Y → Called (Ok v) call wanted b c → IsOwnStage Y
      → IsOwnStage Z
      → ((all : List StoredMessage) (s : State) → Y all s → Z (next (Own call Done) s all)
      (after_done call s)) → Leads next IsAllowed P a c X Z
  goes_on {X} {Y} {Z} {a} {b} {c} {T} {v} {call} {wanted} so_far took y z goes = record {
    grown = grown_then a b c _ _ _ so_far.grown (done_grown v call wanted b c took.goes)
        (λ s xs ys k is. keeps_then next IsAllowed P X Y Z s xs ys k
        (done next IsAllowed P Y Z y z.good call goes (run_entries xs s) ys is));
  }

  -- the same with its verdict on the tree that it met
  pub goes_judged : {X Y Z : List StoredMessage → State → Type 0} {a b c : Option Past} {T : Type 0}
      {v : T} {call : Call} {wanted : List TreeNode → Result T DiskError}
      → Leads next IsAllowed P a b X Y → Called (Ok v) call wanted b c → IsOwnStage Y
      → IsOwnStage Z
      → ((all : List StoredMessage) (s : State) → Ok v ≡ wanted (tree_of s) → Y all s
      → Z (next (Own call Done) s all) (after_done call s)) → Leads next IsAllowed P a c X Z
  goes_judged {X} {Y} {Z} {a} {b} {c} {T} {v} {call} {wanted} so_far took y z goes = record {
    grown = grown_then a b c _ _ _ so_far.grown (judged_grown v call wanted b c took.goes)
        (λ s xs ys k is. keeps_then next IsAllowed P X Y Z s xs ys k
        (done_judged next IsAllowed P v wanted Y Z y z.good call goes (run_entries xs s) ys is));
  }

  -- a call that was refused, and may have changed something
  pub stops_short : {X Y Z : List StoredMessage → State → Type 0} {a b c : Option Past} {T : Type 0}
      {e : DiskError} {call : Call} {wanted : List TreeNode → Result T DiskError}
      → Leads next IsAllowed P a b X Y → Called (Err e) call wanted b c → IsOwnStage Y
      → IsOwnStage Z
      → ((all : List StoredMessage) (s : State) → Y all s → Z all s)
      → ((why : DiskError) (wrote : ℕ) (all : List StoredMessage) (s : State) → Y all s
      → Z (next (Own call (Refused why wrote)) s all) (after_refused call wrote s)) → Leads next
      IsAllowed P a c X Z
  stops_short {X} {Y} {Z} {a} {b} {c} {T} {e} {call} {wanted} so_far took y z stays goes = record {
    grown = grown_then a b c _ _ _ so_far.grown (refused_grown e call wanted b c took.goes)
        (λ s xs ys k is. keeps_then next IsAllowed P X Y Z s xs ys k
        (refused next IsAllowed P Y Z y z.good call stays goes (run_entries xs s) ys is));
  }

  -- a call that leaves a stage as it is, whatever it answers
  pub stays_on : {X : List StoredMessage → State → Type 0} {b c : Option Past} {T : Type 0}
      {result : Result T DiskError} {call : Call} {wanted : List TreeNode → Result T DiskError}
      → Called result call wanted b c → IsOwnStage X
      → ((all : List StoredMessage) (s : State) → X all s → X (next (Own call Done) s all)
      (after_done call s)) → ((why : DiskError) (wrote : ℕ) (all : List StoredMessage) (s : State)
      → X all s → X (next (Own call (Refused why wrote)) s all) (after_refused call wrote s))
      → Leads next IsAllowed P b c X X
  stays_on {b = b} {result = Ok v} took x goes short = goes_on (start b x) took x x goes
  stays_on {b = b} {result = Err e} took x goes short =
      stops_short (start b x) took x x (λ all s is. is) short

  pub then : {X Y Z : List StoredMessage → State → Type 0} {a b c : Option Past}
      → Leads next IsAllowed P a b X Y → Leads next IsAllowed P b c Y Z
      → Leads next IsAllowed P a c X Z
  then {X} {Y} {Z} {a} {b} {c} first rest = record {
    grown = grown_then a b c _ _ _ first.grown rest.grown (λ s xs ys k l.
        keeps_then next IsAllowed P X Y Z s xs ys k l);
  }

  -- nothing is said of the end
  pub forget : {X Y : List StoredMessage → State → Type 0} {a b : Option Past}
      → Leads next IsAllowed P a b X Y → Leads next IsAllowed P a b X (λ all s. Unit {0})
  forget {X} {Y} {a} {b} so_far =
      record {
        grown = grown_map a b _ _ so_far.grown (λ s es k all allowed x.
            ((k all allowed x).0, tt));
      }

  -- a look leaves a stage as it is, whatever it answers
  pub looks_on : {X : List StoredMessage → State → Type 0} {b c : Option Past} {T : Type 0}
      {result : Result T DiskError} {call : Call} {wanted : List TreeNode → Result T DiskError}
      → Called result call wanted b c → is_look call ≡ true
      → ((answer : Answer) (all : List StoredMessage) (s : State) → next (Own call answer) s all
      ≡ all) → IsOwnStage X → Leads next IsAllowed P b c X X
  looks_on {X = X} {call = call} took look same x = stays_on took x
      (λ all s is. subst (λ (l : List StoredMessage). X l (after_done call s))
      (sym (same Done all s)) (subst (X all) (sym (look_keeps call s look)) is))
      (λ why wrote all s is.
      subst (λ (l : List StoredMessage). X l (after_refused call wrote s))
      (sym (same (Refused why wrote) all s))
      (subst (X all) (sym (refusal_keeps call wrote s (or_left (is_look call) (wrote == 0) look)))
      is))
