-- What each stop leaves of a mailbox in one file that is made.
use Rattle.std.proofs.Common.{◌≡◌, ◌∷◌, ◌∙◌, [], ℕ, Bool, true, false, List, None, Option}
use Rattle.std.proofs.Common.{Some, ap, inl, inr, refl, subst, sym}
use Rattle.std.proofs.lemmas.Slice.Eq.{bytes_eq-Decides}
use Rattle.std.specs.Prelude.{IfSome}
use Rattle.std.specs.Str.{bytes_eq}
use Rattle.disk_model.specs.Journal.{Action, Answer, Call, Create, Cut, Done, Entry}
use Rattle.disk_model.specs.Journal.{ListDir, MakeDir, Others, Own, Past, ReadAll, ReadFront}
use Rattle.disk_model.specs.Journal.{Refused, Remove, Rename, StatPath, Sync}
use Rattle.disk_model.specs.Journal.{SyncDir, WriteAt}
use Rattle.disk_model.specs.Lawful.{AreLawful, IsAllowed, IsLawful}
use Rattle.disk_model.specs.Refusals.{refusal}
use Rattle.disk_model.specs.State.{State, after_action, after_entry, barrier}
use Rattle.disk_model.specs.State.{name_at, run_entries, tree_of, with_made}
use Rattle.disk_model.specs.Tree.{node_at}
use Rattle.disk_model.proofs.Trees.{node_at-tree_of, node_by}
use Rattle.folder_stops.specs.Along.{Allows, Along, Grown, carry}
use Rattle.folder_stops.specs.Does.{AllOwn, Does, IsOurs, IsWithin, MakesAt}
use Rattle.folder_stops.proofs.Along.{grown_map}
use Rattle.folder_stops.proofs.Sounds.{sound_barrier}
use Rattle.folder_tails.specs.Others.{MayDo, met, with_action}
use Rattle.folder_tails.specs.Rows.{IsSafe, Row}
use Rattle.folder_tails.proofs.Images.{safe}
use Rattle.folder_tails.proofs.Recovering.{safe_stable}
use Rattle.folder_tails.proofs.Stages.{more_rows}
use Rattle.folder_drivers.specs.MboxMade.{KeepsMailbox}
use Rattle.folder_makes.specs.Parts.{IsAt, IsMaking, MakesBy, Nowhere}
use Rattle.folder_makes.proofs.Calling.{own_as}
use Rattle.folder_makes.proofs.MboxMade.{free_there}
use Rattle.folder_makes.proofs.Placing.{grown_lawful}

true_false : ◌≡◌ {A = Bool} true false → ⊥
true_false e = cc

-- what is kept by what others do, by a file that is made where nothing stood, and by names that are
-- put on the disk, is so at each mark
module _ (path : List ℕ) (MayAct : Action → State → Type 0) (P X : (List ℕ → Bool) → State → Type 0)
    (good : (may : List ℕ → Bool) (s : State) → X may s → P may s)
    (acted : (action : Action) (may : List ℕ → Bool) (s : State) → MayAct action s → X may s
    → X (with_action path action s may) (barrier (after_action action s)))
    (created : (may : List ℕ → Bool) (s : State) → refusal (Create path) (tree_of s) ≡ None
    → X may s → X may (with_made path [] s))
    (kept : (may : List ℕ → Bool) (s : State) → X may s → X may (barrier s)) where
  ours : (may : List ℕ → Bool) (s : State) (call : Call) (answer : Answer)
      → IsMaking Nowhere (IsAt path) call → IsAllowed call answer (tree_of s) → X may s
      → X may (after_entry s (Own call answer))
  ours may s (ListDir dir) Done is allowed x = x
  ours may s (ListDir dir) (Refused why wrote) is allowed x = x
  ours may s (ReadAll at limit) Done is allowed x = x
  ours may s (ReadAll at limit) (Refused why wrote) is allowed x = x
  ours may s (Create at) Done is allowed x =
      subst (λ (p : List ℕ). X may (with_made p [] s)) (sym is)
      (created may s (ap (λ (p : List ℕ). refusal (Create p) (tree_of s)) (sym is) ∙ allowed) x)
  ours may s (Create at) (Refused why wrote) is allowed x = x
  ours may s (SyncDir dir) Done is allowed x = kept may s x
  ours may s (SyncDir dir) (Refused why wrote) is allowed x = x
  ours may s (MakeDir at) answer is allowed x = absurd is
  ours may s (StatPath at) answer is allowed x = absurd is
  ours may s (ReadFront at size) answer is allowed x = absurd is
  ours may s (WriteAt at from piece) answer is allowed x = absurd is
  ours may s (Cut at size) answer is allowed x = absurd is
  ours may s (Sync at) answer is allowed x = absurd is
  ours may s (Rename from to) answer is allowed x = absurd is
  ours may s (Remove at) answer is allowed x = absurd is

  pub all_marks : (es : List Entry) (s : State) (may : List ℕ → Bool)
      → AllOwn (λ call answer. IsMaking Nowhere (IsAt path) call) es → AreLawful es s
      → Allows MayAct es s → X may s
      → Along (met path) P es may s × X (carry (met path) es may s) (run_entries es s)
  all_marks [] s may own lawful all x = (good may s x, x)
  all_marks (Own call answer ∷ es) s may own lawful all x =
      let rest = all_marks es (after_entry s (Own call answer)) may own.1 lawful.1 all
      (ours may s call answer own.0 lawful.0.1 x) in
      ((good may s x, rest.0), rest.1)
  all_marks (Others action ∷ es) s may own lawful all x =
      let rest = all_marks es (after_entry s (Others action)) (with_action path action s may) own
      lawful.1 all.1 (acted action may s all.0 x) in
      ((good may s x, rest.0), rest.1)

-- A mailbox that is there stays.

module _ (path : List ℕ) (ours : List ℕ → Bool) where
  row_at : (bytes : List ℕ) (s : State) → Row path ours bytes s.files s.names
      → (n : ℕ) × (name_at s.names path ≡ Some (Some n))
  row_at bytes s (inl plain) = (plain.mail.0, plain.mail.1)
  row_at bytes s (inr tailed) = (tailed.3.mail.0, tailed.3.mail.1)

  -- none is made in its place
  safe_created : (may : List ℕ → Bool) (s : State) → refusal (Create path) (tree_of s) ≡ None
      → IsSafe path ours may s → IsSafe path ours may (with_made path [] s)
  safe_created may s free x =
      let row = x.rows s.names (inl refl) in
      let at = row_at row.0 s row.2 in
      let some : node_at (tree_of s) path ≡ node_by s.files path (Some (Some at.0)) =
      node_at-tree_of s path ∙ ap (node_by s.files path) at.1 in
      let none = free_there path (tree_of s) free in
      absurd (cc (some, none))

  safe_kept : (may : List ℕ → Bool) (s : State) → IsSafe path ours may s
      → IsSafe path ours may (barrier s)
  safe_kept may s x =
      safe path ours may (barrier s) (sound_barrier (λ p. false) s x.sound)
      (more_rows path ours may s.files s.names [] (x.rows s.names (inl refl))
      (λ row never. absurd never))

  pub keeps : (marks : ℕ) (a b : Option Past) → IfSome b (IsLawful marks)
      → MakesBy Nowhere (IsAt path) a b → Grown a b (KeepsMailbox path ours)
  keeps marks a b lawful by =
      grown_lawful marks a b _ _ lawful by.grown (λ s es tree sturdy are own may all x.
      all_marks path (MayDo path) (IsSafe path ours) (IsSafe path ours) (λ m t is. is)
      (safe_stable path ours) safe_created safe_kept es s may own are all x)

-- Our calls change the path alone.

module _ (path : List ℕ) where
  within : (call : Call) → IsMaking Nowhere (IsAt path) call
      → IsWithin (λ at. bytes_eq at path) call
  within (ListDir dir) is = tt
  within (ReadAll at limit) is = tt
  within (Create at) is = (bytes_eq-Decides at path).1 is
  within (SyncDir dir) is = tt
  within (MakeDir at) is = absurd is
  within (StatPath at) is = absurd is
  within (ReadFront at size) is = absurd is
  within (WriteAt at from piece) is = absurd is
  within (Cut at size) is = absurd is
  within (Sync at) is = absurd is
  within (Rename from to) is = absurd is
  within (Remove at) is = absurd is

  makes_none : (call : Call) → IsMaking Nowhere (IsAt path) call
      → MakesAt (λ at. None) None Done call
  makes_none (ListDir dir) is = tt
  makes_none (ReadAll at limit) is = tt
  makes_none (Create at) is = inl refl
  makes_none (SyncDir dir) is = tt
  makes_none (MakeDir at) is = tt
  makes_none (StatPath at) is = tt
  makes_none (ReadFront at size) is = tt
  makes_none (WriteAt at from piece) is = tt
  makes_none (Cut at size) is = tt
  makes_none (Sync at) is = tt
  makes_none (Rename from to) is = tt
  makes_none (Remove at) is = tt

  is_ours : (call : Call) (answer : Answer) → IsMaking Nowhere (IsAt path) call
      → IsOurs (λ at. bytes_eq at path) (λ at. None) None call answer
  is_ours call Done is = (within call is, makes_none call is)
  is_ours call (Refused why wrote) is = (λ changed. within call is, tt)

  pub here : {a b : Option Past} → MakesBy Nowhere (IsAt path) a b
      → Does (λ at. bytes_eq at path) (λ at. None) None a b
  here {a} {b} by = record {
    grown = grown_map a b _ _ by.grown (λ s es all.
        own_as (λ call answer. IsMaking Nowhere (IsAt path) call)
        (IsOurs (λ at. bytes_eq at path) (λ at. None) None) es
        (λ call answer is. is_ours call answer is) all);
  }
