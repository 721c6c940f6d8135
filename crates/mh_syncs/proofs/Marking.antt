-- The marks of calls of ours.
use Rattle.std.proofs.Common.{◌≡◌, ◌≤◌, ◌<◌, ◌+◌, ◌-◌, ◌++◌, ◌||◌, ℕ, zero, suc, Bool}
use Rattle.std.proofs.Common.{true, false, List, [], ◌∷◌, length, take, drop, map}
use Rattle.std.proofs.Common.{nat_lt, ltb-true, refl, sym, ◌∙◌, ap, arith, append_assoc}
use Rattle.std.proofs.Common.{length-append, Result}
use Rattle.std.proofs.Math.Seq.{drop-append-add, take-add}
use Rattle.std.proofs.lemmas.Bool.{and_parts}
use Rattle.std.specs.List.{list_any}
use Rattle.disk_model.specs.Journal.{Action, Answer, Call, Done, Entry, Others, Own, Past, Refused}
use Rattle.disk_model.specs.Judge.{IsLonger, OneStep}
use Rattle.disk_model.specs.Looking.{HasLooked, all_look, looks}
use Rattle.disk_model.specs.State.{State, after_entry, run_entries, state_at, state_of}
use Rattle.disk_model.specs.Tree.{TreeNode}
use Rattle.disk_model.specs.declared.answers.DiskError.{DiskError}
use Rattle.disk_model.proofs.Marks.{look_keeps, refusal_keeps}
use Rattle.disk_model.proofs.Runs.{run_entries-append}
use Rattle.folder_changes.specs.Worked.{is_own, own_at}

true_false : ◌≡◌ {A = Bool} true false → ⊥
true_false e = cc

not_less : (i j : ℕ) → nat_lt i j ≡ false → j ≤ i
not_less i j is = grind (arith, is)

pub longer_then : (a b c : Past) → IsLonger a b → IsLonger b c → IsLonger a c
longer_then a b c first next = record {
  same_first = next.same_first ∙ first.same_first;
  more = first.more ++ next.more;
  journal = next.journal ∙ ap (λ (l : List Entry). l ++ next.more) first.journal
      ∙ append_assoc a.journal first.more next.more;
}

-- the state behind the entry at a mark
pub next_state : (past : Past) (mark : ℕ) (entry : Entry) (behind : List Entry)
    → drop mark past.journal ≡ entry ∷ behind
    → state_at past (mark + 1) ≡ after_entry (state_at past mark) entry
next_state past mark entry behind here =
    ap (λ (l : List Entry). run_entries l (state_of past.first))
    (take-add mark 1 past.journal
    ∙ ap (λ (l : List Entry). take mark past.journal ++ take 1 l) here)
    ∙ run_entries-append (take mark past.journal) (entry ∷ []) (state_of past.first)

pub own_here : (past : Past) (mark : ℕ) (entry : Entry) (behind : List Entry)
    → drop mark past.journal ≡ entry ∷ behind → own_at mark past ≡ (is_own entry || false)
own_here past mark entry behind here =
    ap (λ (l : List Entry). list_any is_own (take 1 l)) here

pub own_true : (b : Bool) → (b || false) ≡ true → b ≡ true
own_true true is = refl
own_true false is = absurd (true_false (sym is))

-- what stands behind the entries of a past that goes on
pub behind_at : (old new past : Past) (more rest : List Entry) → new.journal ≡ old.journal ++ more
    → past.journal ≡ new.journal ++ rest → (place : ℕ)
    → drop (length old.journal + place) past.journal ≡ drop place (more ++ rest)
behind_at old new past more rest journal on place =
    ap (drop (length old.journal + place))
    (on ∙ ap (λ (l : List Entry). l ++ rest) journal ∙ append_assoc old.journal more rest)
    ∙ drop-append-add old.journal (more ++ rest) place

-- One call of ours.

-- the entry at a place before the call is an action of others
others_place : (actions : List Action) (rest : List Entry) (place : ℕ) → place < length actions
    → (action : Action) × (behind : List Entry)
    × (drop place (map Others actions ++ rest) ≡ Others action ∷ behind)
others_place [] rest place low = absurd (omega (arith, low))
others_place (action ∷ actions) rest zero low = (action, map Others actions ++ rest, refl)
others_place (action ∷ actions) rest (suc place) low =
    others_place actions rest place (omega (arith, low))

own_place : (actions : List Action) (rest : List Entry)
    → drop (length actions) (map Others actions ++ rest) ≡ rest
own_place [] rest = refl
own_place (action ∷ actions) rest = own_place actions rest

others_long : (actions : List Action) → length (map Others actions) ≡ length actions
others_long [] = refl
others_long (action ∷ actions) = ap (λ (n : ℕ). suc n) (others_long actions)

-- where a call of ours stands in a past that goes on: others act before it, and it is the last
pub record StepMark (call : Call) (answer : Answer) (old new past : Past) : Type 0 where
  pub at : ℕ
  pub from : length old.journal ≤ at
  pub next : length new.journal ≡ at + 1
  pub behind : List Entry
  pub here : drop at past.journal ≡ Own call answer ∷ behind
  pub before : (mark : ℕ) → length old.journal ≤ mark → mark < at
      → (action : Action) × (rest : List Entry) × (drop mark past.journal ≡ Others action ∷ rest)

pub step_mark : {A : Type 0} (result : Result A DiskError) (call : Call)
    (wanted : List TreeNode → Result A DiskError) (old new past : Past)
    (step : OneStep result call wanted old new) → IsLonger new past
    → StepMark call step.answer old new past
step_mark result call wanted old new past step on = record {
  at = length old.journal + length step.actions;
  from = omega arith;
  next = omega (
    arith,
    ap length step.journal,
    length-append old.journal (map Others step.actions ++ Own call step.answer ∷ []),
    length-append (map Others step.actions) (Own call step.answer ∷ []),
    others_long step.actions,
  );
  behind = on.more;
  here = placed (length step.actions)
      ∙ own_place step.actions (Own call step.answer ∷ on.more);
  before = λ mark from to. by mark (mark - length old.journal) (omega (arith, from)) to;
}
  where
    placed : (place : ℕ) → drop (length old.journal + place) past.journal
        ≡ drop place (map Others step.actions ++ Own call step.answer ∷ on.more)
    placed place =
        behind_at old new past (map Others step.actions ++ Own call step.answer ∷ []) on.more
        step.journal on.journal place
        ∙ ap (drop place)
        (append_assoc (map Others step.actions) (Own call step.answer ∷ []) on.more)

    by : (mark place : ℕ) → mark ≡ length old.journal + place
        → mark < length old.journal + length step.actions
        → (action : Action) × (rest : List Entry)
        × (drop mark past.journal ≡ Others action ∷ rest)
    by mark place is to =
        let o = others_place step.actions (Own call step.answer ∷ on.more) place
        (omega (arith, is, to)) in
        (o.0, o.1, ap (λ (k : ℕ). drop k past.journal) is ∙ placed place ∙ o.2)

module _ {call : Call} {answer : Answer} {old new past : Past}
    (step : StepMark call answer old new past) where
  pub step_own : own_at step.at past ≡ true
  step_own = own_here past step.at (Own call answer) step.behind step.here

  pub step_next : state_at past (step.at + 1)
      ≡ after_entry (state_at past step.at) (Own call answer)
  step_next = next_state past step.at (Own call answer) step.behind step.here

  -- it is the only call of ours there
  pub step_only : (mark : ℕ) → length old.journal ≤ mark → mark < length new.journal
      → own_at mark past ≡ true → mark ≡ step.at
  step_only mark from to own = by (nat_lt mark step.at) refl
    where
      by : (t : Bool) → nat_lt mark step.at ≡ t → mark ≡ step.at
      by true low =
          let o = step.before mark from (ltb-true mark step.at low) in
          absurd (true_false (sym own ∙ own_here past mark (Others o.0) o.1 o.2))
      by false high = omega (arith, not_less mark step.at high, to, step.next)

-- Looks.

-- the entry at a place of entries that are looks is one
looks_place : (front rest : List Entry) (place : ℕ) → all_look front ≡ true
    → place < length front → (entry : Entry) × (behind : List Entry)
    × (drop place (front ++ rest) ≡ entry ∷ behind) × (looks entry ≡ true)
looks_place [] rest place look low = absurd (omega (arith, low))
looks_place (entry ∷ front) rest zero look low =
    (entry, front ++ rest, refl, (and_parts (looks entry) (all_look front) look).0)
looks_place (entry ∷ front) rest (suc place) look low =
    looks_place front rest place (and_parts (looks entry) (all_look front) look).1
    (omega (arith, low))

look_same : (entry : Entry) (s : State) → is_own entry ≡ true → looks entry ≡ true
    → after_entry s entry ≡ s
look_same (Own call Done) s own look = look_keeps call s look
look_same (Own call (Refused why wrote)) s own look = refusal_keeps call wrote s look
look_same (Others action) s own look = absurd (true_false (sym own))

-- a look leaves the state
pub looked_state : (old new past : Past) → HasLooked old new → IsLonger new past → (mark : ℕ)
    → length old.journal ≤ mark → mark < length new.journal → own_at mark past ≡ true
    → state_at past (mark + 1) ≡ state_at past mark
looked_state old new past looked on mark from to own =
    by (mark - length old.journal) (omega (arith, from))
  where
    by : (place : ℕ) → mark ≡ length old.journal + place
        → state_at past (mark + 1) ≡ state_at past mark
    by place is =
        let e = looks_place looked.more on.more place looked.look
        (omega (
          arith,
          is,
          to,
          ap length looked.journal,
          length-append old.journal looked.more,
        )) in
        let here : drop mark past.journal ≡ e.0 ∷ e.1 =
        ap (λ (k : ℕ). drop k past.journal) is
        ∙ behind_at old new past looked.more on.more looked.journal on.journal place ∙ e.2 in
        next_state past mark e.0 e.1 here
        ∙ look_same e.0 (state_at past mark)
        (own_true (is_own e.0) (sym (own_here past mark e.0 e.1 here) ∙ own)) e.3
