-- What our own calls do not bring about is traced back over them.
use Rattle.std.proofs.Common.{◌≡◌, ◌≤◌, ◌<◌, ◌+◌, ◌-◌, ◌⊎◌, ◌++◌, ℕ, zero, suc, Bool, true, false}
use Rattle.std.proofs.Common.{List, [], ◌∷◌, Option, Some, None, Result, Ok, Err, inl, inr}
use Rattle.std.proofs.Common.{refl, sym}
use Rattle.std.proofs.Common.{◌∙◌, ap, subst, arith, append_assoc, length-append, length, map, take}
use Rattle.std.proofs.Common.{drop}
use Rattle.std.proofs.Math.Seq.{drop-append_seam, take-append_seam}
use Rattle.std.proofs.lemmas.Bool.{and_parts}
use Rattle.std.proofs.lemmas.List.{append-nil}
use Rattle.std.specs.List.{list_any}
use Rattle.disk_model.specs.Journal.{Action, Answer, Call, Done, Entry, Others, Own, Past, Refused}
use Rattle.disk_model.specs.Judge.{GoesOn, IsLonger, OneStep, StepBy, answer_by, done_by}
use Rattle.disk_model.specs.Looking.{LooksOnly, all_look, looks}
use Rattle.disk_model.specs.Refusals.{refusal}
use Rattle.disk_model.specs.State.{State, after_entry, run_entries, state_at, state_of, tree_at}
use Rattle.disk_model.specs.State.{tree_of}
use Rattle.disk_model.specs.Tree.{TreeNode}
use Rattle.disk_model.specs.declared.answers.DiskError.{DiskError}
use Rattle.disk_model.specs.declared.answers.DiskError.TheVariants.{Missing, WrongNode, Exists}
use Rattle.disk_model.specs.declared.answers.DiskError.TheVariants.{Long, Fault, NoMemory}
use Rattle.disk_model.proofs.Marks.{look_keeps, refusal_keeps}
use Rattle.folder_changes.specs.Calls.{AreCalls, GoesBy}
use Rattle.folder_changes.specs.Refused.{IsBetween, IsOfTree, StepRefused, refuses}
use Rattle.folder_changes.specs.Worked.{WasCause, is_others, others_at}
use Rattle.folder_changes.proofs.WorkLemmas.{next_state}

true_false : ◌≡◌ {A = Bool} true false → ⊥
true_false e = cc

-- One mark back, and many.

-- a cause that was met at a mark
pub record Traced (is_so : List TreeNode → Bool) (m n mark : ℕ) (past : Past) : Type 0 where
  pub cause : WasCause is_so m n past
  pub same : cause.mark ≡ mark

-- the entry at a mark brings the state about only where it is one of others
abbrev pub IsNotOurs : (List TreeNode → Bool) → Past → ℕ → Type 0
IsNotOurs is_so past k = is_so (tree_at past k) ≡ false → is_so (tree_at past (k + 1)) ≡ true
    → others_at k past ≡ true

-- a state at a mark is a cause from there on
pub traced_here : (is_so : List TreeNode → Bool) (mark n : ℕ) (past : Past) → mark ≤ n
    → is_so (tree_at past mark) ≡ true → Traced is_so mark n mark past
traced_here is_so mark n past high so = record {
  cause = record {
    since = mark;
    mark = mark;
    from = omega arith;
    on = omega arith;
    to = high;
    stands = λ k from to. ap (λ (x : ℕ). is_so (tree_at past x)) (only k from to) ∙ so;
    whose = inl refl;
  };
  same = refl;
}
  where
    only : (k : ℕ) → mark ≤ k → k ≤ mark → k ≡ mark
    only k from to = omega (arith, from, to)

module _ (is_so : List TreeNode → Bool) (n mark : ℕ) (past : Past) where
  one_back : (k : ℕ) → IsNotOurs is_so past k → Traced is_so (k + 1) n mark past
      → Traced is_so k n mark past
  one_back k ours traced = by (is_so (tree_at past k)) refl traced.cause.whose
    where
      was : WasCause is_so (k + 1) n past
      was = traced.cause

      at_least : (x : ℕ) → k ≤ x → (x ≡ k) ⊎ (k + 1 ≤ x)
      at_least x from = grind (arith, from)

      stands_at : was.since ≡ k + 1 → is_so (tree_at past k) ≡ true → (x : ℕ)
          → (x ≡ k) ⊎ (k + 1 ≤ x) → x ≤ was.mark → is_so (tree_at past x) ≡ true
      stands_at first so x (inl here) to = ap (λ (y : ℕ). is_so (tree_at past y)) here ∙ so
      stands_at first so x (inr later) to = was.stands x (omega (arith, first, later)) to

      by : (b : Bool) → is_so (tree_at past k) ≡ b
          → (was.since ≡ k + 1)
          ⊎ ((before : ℕ) × (was.since ≡ before + 1) × (others_at before past ≡ true))
          → Traced is_so k n mark past
      by b is (inr whose) = record {
        cause = record {
          since = was.since;
          mark = was.mark;
          from = omega (arith, was.from);
          on = was.on;
          to = was.to;
          stands = was.stands;
          whose = inr whose;
        };
        same = traced.same;
      }
      by true is (inl first) = record {
        cause = record {
          since = k;
          mark = was.mark;
          from = omega arith;
          on = omega (arith, was.on, first);
          to = was.to;
          stands = λ x from to. stands_at first is x (at_least x from) to;
          whose = inl refl;
        };
        same = traced.same;
      }
      by false is (inl first) = record {
        cause = record {
          since = was.since;
          mark = was.mark;
          from = omega (arith, was.from);
          on = was.on;
          to = was.to;
          stands = was.stands;
          whose = inr (
            k,
            first,
            ours is (was.stands (k + 1) (omega (arith, first))
                (omega (arith, was.on, first))),
          );
        };
        same = traced.same;
      }

  many_back : (d k : ℕ) → ((x : ℕ) → k ≤ x → x < k + d → IsNotOurs is_so past x)
      → Traced is_so (k + d) n mark past → Traced is_so k n mark past
  many_back zero k ours traced = subst (λ (j : ℕ). Traced is_so j n mark past) no_more traced
    where
      no_more : k + 0 ≡ k
      no_more = omega arith
  many_back (suc d) k ours traced =
      one_back k (ours k (omega arith) (omega arith))
      (many_back d (k + 1) (λ x from to. ours x (omega (arith, from)) (omega (arith, to)))
      (subst (λ (j : ℕ). Traced is_so j n mark past) one_more traced))
    where
      one_more : k + suc d ≡ k + 1 + d
      one_more = omega arith

  -- from a mark back to an earlier one
  pub traced_back : (m k : ℕ) → m ≤ k
      → ((x : ℕ) → m ≤ x → x < k → IsNotOurs is_so past x)
      → Traced is_so k n mark past → Traced is_so m n mark past
  traced_back m k low ours traced =
      many_back (k - m) m (λ x from to. ours x from (omega (arith, to, low)))
      (subst (λ (j : ℕ). Traced is_so j n mark past) whole traced)
    where
      whole : k ≡ m + (k - m)
      whole = omega (arith, low)

-- Calls that do not bring a state about.

-- none of these calls brings the state about
abbrev pub IsUnmade : (Call → Type 0) → (List TreeNode → Bool) → Type 0
IsUnmade Is is_so = (call : Call) (answer : Answer) (state : State) → Is call
    → is_so (tree_of state) ≡ false → is_so (tree_of (after_entry state (Own call answer))) ≡ false

module _ (Is : Call → Type 0) (is_so : List TreeNode → Bool) (unmade : IsUnmade Is is_so)
    (past : Past) where
  keeps_looks : (call : Call) (answer : Answer) (state : State) → looks (Own call answer) ≡ true
      → after_entry state (Own call answer) ≡ state
  keeps_looks call Done state look = look_keeps call state look
  keeps_looks call (Refused why wrote) state look = refusal_keeps call wrote state look

  own_unmade : (call : Call) (answer : Answer) (state : State)
      → (looks (Own call answer) ≡ true) ⊎ Is call → is_so (tree_of state) ≡ false
      → is_so (tree_of (after_entry state (Own call answer))) ≡ false
  own_unmade call answer state (inl look) not =
      ap (λ (s : State). is_so (tree_of s)) (keeps_looks call answer state look) ∙ not
  own_unmade call answer state (inr is) not = unmade call answer state is not

  here : (before : List Entry) (entry : Entry) (rest entries : List Entry)
      → past.journal ≡ before ++ (entry ∷ rest) → AreCalls Is (entry ∷ entries)
      → IsNotOurs is_so past (length before)
  here before (Others action) rest entries journal calls not so =
      ap (λ (l : List Entry). list_any is_others (take 1 l))
      (ap (drop (length before)) journal ∙ drop-append_seam before (Others action ∷ rest))
  here before (Own call answer) rest entries journal calls not so =
      absurd (true_false (sym so
      ∙ ap (λ (s : State). is_so (tree_of s)) (next_state past (length before) (Own call answer)
      rest (ap (drop (length before)) journal ∙ drop-append_seam before (Own call answer ∷ rest)))
      ∙ own_unmade call answer (state_at past (length before)) calls.0 not))

  calls_behind : (entry : Entry) (entries : List Entry) → AreCalls Is (entry ∷ entries)
      → AreCalls Is entries
  calls_behind (Own call answer) entries calls = calls.1
  calls_behind (Others action) entries calls = calls

  along : (before front rest : List Entry) → past.journal ≡ before ++ (front ++ rest)
      → AreCalls Is front → (x : ℕ) → length before ≤ x → x < length before + length front
      → IsNotOurs is_so past x
  along before [] rest journal calls x from to = absurd (omega (arith, from, to))
  along before (entry ∷ front) rest journal calls x from to =
      by (first_or x from)
      (λ later. along (before ++ entry ∷ []) front rest
      (journal ∙ sym (append_assoc before (entry ∷ []) (front ++ rest)))
      (calls_behind entry front calls) x (omega (arith, longer, later))
      (omega (arith, longer, to)))
    where
      first_or : (x : ℕ) → length before ≤ x → (length before ≡ x) ⊎ (length before + 1 ≤ x)
      first_or x from = grind (arith, from)

      longer : length (before ++ entry ∷ []) ≡ length before + 1
      longer = length-append before (entry ∷ [])

      by : (length before ≡ x) ⊎ (length before + 1 ≤ x)
          → (length before + 1 ≤ x → IsNotOurs is_so past x) → IsNotOurs is_so past x
      by (inl is) again = subst (IsNotOurs is_so past) is
          (here before entry (front ++ rest) front journal calls)
      by (inr later) again = again later

-- what the calls between two marks do not bring about is not ours there
pub calls_not_ours : (Is : Call → Type 0) (is_so : List TreeNode → Bool) (old mid past : Past)
    → IsUnmade Is is_so → GoesBy Is old mid → IsLonger mid past → (x : ℕ)
    → length old.journal ≤ x → x < length mid.journal → IsNotOurs is_so past x
calls_not_ours Is is_so old mid past unmade goes on x from to =
    along Is is_so unmade past old.journal goes.more on.more
    (on.journal ∙ ap (λ (l : List Entry). l ++ on.more) goes.journal
    ∙ append_assoc old.journal goes.more on.more) goes.calls x from
    (omega (arith, to, ap length goes.journal, length-append old.journal goes.more))

goes_long : (Is : Call → Type 0) (old mid : Past) → GoesBy Is old mid
    → length old.journal ≤ length mid.journal
goes_long Is old mid goes =
    omega (arith, ap length goes.journal, length-append old.journal goes.more)

-- one state of the tree for another
pub cause_as : (is_so is_such : List TreeNode → Bool) (m n : ℕ) (past : Past)
    → ((tree : List TreeNode) → is_so tree ≡ true → is_such tree ≡ true)
    → WasCause is_so m n past → WasCause is_such m n past
cause_as is_so is_such m n past turns was = record {
  since = was.since;
  mark = was.mark;
  from = was.from;
  on = was.on;
  to = was.to;
  stands = λ k from to. turns (tree_at past k) (was.stands k from to);
  whose = was.whose;
}

-- a cause behind calls that do not bring it about is one before them
pub traced_earlier : (Is : Call → Type 0) (is_so : List TreeNode → Bool) (old mid past : Past)
    (n mark : ℕ) → IsUnmade Is is_so → GoesBy Is old mid → IsLonger mid past
    → Traced is_so (length mid.journal) n mark past
    → Traced is_so (length old.journal) n mark past
traced_earlier Is is_so old mid past n mark unmade goes on traced =
    traced_back is_so n mark past (length old.journal) (length mid.journal)
    (goes_long Is old mid goes) (calls_not_ours Is is_so old mid past unmade goes on) traced

pub cause_earlier : (Is : Call → Type 0) (is_so : List TreeNode → Bool) (old mid past : Past)
    (n : ℕ) → IsUnmade Is is_so → GoesBy Is old mid → IsLonger mid past
    → WasCause is_so (length mid.journal) n past → WasCause is_so (length old.journal) n past
cause_earlier Is is_so old mid past n unmade goes on was =
    (traced_earlier Is is_so old mid past n was.mark unmade goes on
    (record { cause = was; same = refl })).cause

-- so is a refused step
pub refused_earlier : (Is Needs : Call → Type 0) (old mid past : Past) (n : ℕ)
    → ((call : Call) → Needs call → IsUnmade Is (refuses call)) → GoesBy Is old mid
    → IsLonger mid past → StepRefused Needs (length mid.journal) n past
    → StepRefused Needs (length old.journal) n past
refused_earlier Is Needs old mid past n unmade goes on step =
    let traced = traced_earlier Is (refuses step.call) old mid past n step.refused.mark
    (unmade step.call step.needs) goes on (record { cause = step.refused; same = refl }) in
    record {
      call = step.call;
      needs = step.needs;
      why = step.why;
      refused = traced.cause;
      asked = ap (λ (i : ℕ). refusal step.call (tree_at past i)) traced.same ∙ step.asked;
      own = ap (λ (i : ℕ). take 1 (drop i past.journal)) traced.same ∙ step.own;
    }

-- a step that needs one thing for one that needs another
pub refused_as : (Needs Other : Call → Type 0) (m n : ℕ) (past : Past)
    → ((call : Call) → Needs call → Other call) → StepRefused Needs m n past
    → StepRefused Other m n past
refused_as Needs Other m n past turns step = record {
  call = step.call;
  needs = turns step.call step.needs;
  why = step.why;
  refused = step.refused;
  asked = step.asked;
  own = step.own;
}

-- Pasts that go on by calls.

calls_append : (Is : Call → Type 0) (xs ys : List Entry) → AreCalls Is xs → AreCalls Is ys
    → AreCalls Is (xs ++ ys)
calls_append Is [] ys first next = next
calls_append Is (Own call answer ∷ xs) ys first next =
    (first.0, calls_append Is xs ys first.1 next)
calls_append Is (Others action ∷ xs) ys first next = calls_append Is xs ys first next

calls_look : (Is : Call → Type 0) (entries : List Entry) → all_look entries ≡ true
    → AreCalls Is entries
calls_look Is [] look = tt
calls_look Is (Own call answer ∷ entries) look =
    let parts = and_parts (looks (Own call answer)) (all_look entries) look in
    (inl parts.0, calls_look Is entries parts.1)
calls_look Is (Others action ∷ entries) look =
    calls_look Is entries (and_parts true (all_look entries) look).1

calls_step : (Is : Call → Type 0) (actions : List Action) (call : Call) (answer : Answer)
    → Is call → AreCalls Is (map Others actions ++ Own call answer ∷ [])
calls_step Is [] call answer is = (inr is, tt)
calls_step Is (action ∷ actions) call answer is = calls_step Is actions call answer is

calls_as : (Is Other : Call → Type 0) (entries : List Entry)
    → ((call : Call) → Is call → Other call) → AreCalls Is entries → AreCalls Other entries
calls_as Is Other [] turns calls = tt
calls_as Is Other (Own call answer ∷ entries) turns calls =
    (by calls.0, calls_as Is Other entries turns calls.1)
  where
    by : (looks (Own call answer) ≡ true) ⊎ Is call → (looks (Own call answer) ≡ true) ⊎ Other call
    by (inl look) = inl look
    by (inr is) = inr (turns call is)
calls_as Is Other (Others action ∷ entries) turns calls = calls_as Is Other entries turns calls

module _ (Is : Call → Type 0) where
  by_then : (a b c : Past) → GoesBy Is a b → GoesBy Is b c → GoesBy Is a c
  by_then a b c first next = record {
    same_first = next.same_first ∙ first.same_first;
    more = first.more ++ next.more;
    journal = next.journal ∙ ap (λ (l : List Entry). l ++ next.more) first.journal
        ∙ append_assoc a.journal first.more next.more;
    calls = calls_append Is first.more next.more first.calls next.calls;
  }

  -- one part behind another
  pub calls_then : (a b c : Option Past) → GoesOn (GoesBy Is) a b → GoesOn (GoesBy Is) b c
      → GoesOn (GoesBy Is) a c
  calls_then None b c first next = subst (λ (o : Option Past). GoesOn (GoesBy Is) o c) first next
  calls_then (Some a) None c first next = absurd first
  calls_then (Some a) (Some b) None first next = absurd next
  calls_then (Some a) (Some b) (Some c) first next = by_then a b c first next

  -- looks
  pub calls_looked : (a b : Option Past) → LooksOnly a b → GoesOn (GoesBy Is) a b
  calls_looked None b looks = looks
  calls_looked (Some a) None looks = absurd looks
  calls_looked (Some a) (Some b) looks = record {
    same_first = looks.same_first;
    more = looks.more;
    journal = looks.journal;
    calls = calls_look Is looks.more looks.look;
  }

  by_one : {A : Type 0} (result : Result A DiskError) (call : Call)
      (asked : List TreeNode → Result A DiskError) (a b : Past) → Is call
      → OneStep result call asked a b → GoesBy Is a b
  by_one result call asked a b is step = record {
    same_first = step.same_first;
    more = map Others step.actions ++ Own call step.answer ∷ [];
    journal = step.journal;
    calls = calls_step Is step.actions call step.answer is;
  }

  by_step : {A : Type 0} (result : Result A DiskError) (call : Call)
      (asked : List TreeNode → Result A DiskError) (a b : Past) → Is call
      → StepBy result call asked a b → GoesBy Is a b
  by_step (Ok value) call asked a b is step = by_one (Ok value) call asked a b is step
  by_step (Err Missing) call asked a b is step = by_one (Err Missing) call asked a b is step
  by_step (Err WrongNode) call asked a b is step = by_one (Err WrongNode) call asked a b is step
  by_step (Err Exists) call asked a b is step = by_one (Err Exists) call asked a b is step
  by_step (Err (Long size)) call asked a b is step = by_one (Err (Long size)) call asked a b is step
  by_step (Err Fault) call asked a b is step = by_one (Err Fault) call asked a b is step
  by_step (Err NoMemory) call asked a b is same =
      subst (λ (p : Past). GoesBy Is a p) (sym same) (record {
        same_first = refl;
        more = [];
        journal = sym (append-nil a.journal);
        calls = tt;
      })

  -- one call
  pub calls_one : {A : Type 0} (result : Result A DiskError) (call : Call)
      (asked : List TreeNode → Result A DiskError) (a b : Option Past) → Is call
      → GoesOn (StepBy result call asked) a b → GoesOn (GoesBy Is) a b
  calls_one result call asked None b is step = step
  calls_one result call asked (Some a) None is step = absurd step
  calls_one result call asked (Some a) (Some b) is step = by_step result call asked a b is step

-- such calls for others
pub calls_for : (Is Other : Call → Type 0) (a b : Option Past)
    → ((call : Call) → Is call → Other call) → GoesOn (GoesBy Is) a b → GoesOn (GoesBy Other) a b
calls_for Is Other None b turns calls = calls
calls_for Is Other (Some a) None turns calls = absurd calls
calls_for Is Other (Some a) (Some b) turns calls = record {
  same_first = calls.same_first;
  more = calls.more;
  journal = calls.journal;
  calls = calls_as Is Other calls.more turns calls.calls;
}

-- A step that the tree refuses.

-- the mark at which a step was refused so, with others before it
pub record MetRefusal (why : DiskError) (call : Call) (old new : Past) : Type 0 where
  pub mark : ℕ
  pub from : length old.journal ≤ mark
  pub to : mark ≤ length new.journal
  pub met : refusal call (tree_at new mark) ≡ Some why
  pub own : take 1 (drop mark new.journal) ≡ Own call (Refused why 0) ∷ []
  pub others : (is_so : List TreeNode → Bool) (x : ℕ) → length old.journal ≤ x → x < mark
      → IsNotOurs is_so new x

some_of : {A : Type 0} (why : DiskError) (met : Option DiskError) (value : A)
    → ◌≡◌ {A = Result A DiskError} (Err why) (answer_by met value) → met ≡ Some why
some_of why None value is = absurd (cc)
some_of why (Some other) value is = cc

-- what a call answers that the tree does not refuse
abbrev pub asked_by : {A : Type 0} → Call → (List TreeNode → A) → List TreeNode
    → Result A DiskError
asked_by call value tree = answer_by (refusal call tree) (value tree)

one_met : {A : Type 0} (value : List TreeNode → A) (why : DiskError) (call : Call) (old new : Past)
    (step : OneStep {A = A} (Err why) call (asked_by call value) old new)
    → step.answer ≡ Refused why 0
    → ◌≡◌ {A = Result A DiskError} (Err why) (asked_by call value
    (tree_of (run_entries (old.journal ++ map Others step.actions) (state_of old.first))))
    → MetRefusal why call old new
one_met value why call old new step answered judged = record {
  mark = length before;
  from = omega (arith, length-append old.journal (map Others step.actions));
  to = omega (arith, ap length journal, length-append before own);
  met = ap (λ (s : State). refusal call (tree_of s)) state_is
      ∙ some_of why (refusal call (tree_of (run_entries before (state_of old.first))))
      (value (tree_of (run_entries before (state_of old.first)))) judged;
  own = ap (λ (l : List Entry). take 1 (drop (length before) l)) journal
      ∙ ap (λ (l : List Entry). take 1 l) (drop-append_seam before own)
      ∙ ap (λ (a : Answer). Own call a ∷ []) answered;
  others = λ is_so x from to. along (λ c. ⊥) is_so (λ c a s none not. absurd none) new old.journal
      (map Others step.actions) own step.journal (acted step.actions) x from
      (omega (arith, to, length-append old.journal (map Others step.actions)));
}
  where
    before : List Entry
    before = old.journal ++ map Others step.actions

    own : List Entry
    own = Own call step.answer ∷ []

    journal : new.journal ≡ before ++ own
    journal = step.journal ∙ sym (append_assoc old.journal (map Others step.actions) own)

    state_is : state_at new (length before) ≡ run_entries before (state_of old.first)
    state_is =
        ap (λ (tree : List TreeNode). run_entries (take (length before) new.journal)
        (state_of tree)) step.same_first
        ∙ ap (λ (l : List Entry). run_entries l (state_of old.first))
        (ap (take (length before)) journal ∙ take-append_seam before own)

    acted : (actions : List Action) → AreCalls (λ c. ⊥) (map Others actions)
    acted [] = tt
    acted (action ∷ actions) = acted actions

pub met_asked : {A : Type 0} (value : List TreeNode → A) (why : DiskError) (call : Call)
    (old new : Past) → IsOfTree why
    → StepBy {A = A} (Err why) call (asked_by call value) old new → MetRefusal why call old new
met_asked value Fault call old new of_tree step = absurd of_tree
met_asked value NoMemory call old new of_tree step = absurd of_tree
met_asked value Missing call old new of_tree step =
    one_met value Missing call old new step step.answered step.judged
met_asked value WrongNode call old new of_tree step =
    one_met value WrongNode call old new step step.answered step.judged
met_asked value Exists call old new of_tree step =
    one_met value Exists call old new step step.answered step.judged
met_asked value (Long size) call old new of_tree step =
    one_met value (Long size) call old new step step.answered step.judged

-- the same of a call that gives nothing
pub met_refusal : (why : DiskError) (call : Call) (old new : Past) → IsOfTree why
    → StepBy {A = Unit {0}} (Err why) call (done_by call) old new → MetRefusal why call old new
met_refusal why call old new of_tree step =
    met_asked {A = Unit {0}} (λ tree. tt) why call old new of_tree step

-- what such a refusal tells of the tree was no doing of ours
pub met_traced : (is_so : List TreeNode → Bool) (why : DiskError) (call : Call) (old new : Past)
    (met : MetRefusal why call old new)
    → ((tree : List TreeNode) → refusal call tree ≡ Some why → is_so tree ≡ true)
    → Traced is_so (length old.journal) (length new.journal) met.mark new
met_traced is_so why call old new met tells =
    traced_back is_so (length new.journal) met.mark new (length old.journal) met.mark met.from
    (met.others is_so)
    (traced_here is_so met.mark (length new.journal) new met.to
    (tells (tree_at new met.mark) met.met))

-- a step that was refused first
pub met_step : (Needs : Call → Type 0) (why : DiskError) (call : Call) (old new : Past)
    → Needs call → MetRefusal why call old new
    → StepRefused Needs (length old.journal) (length new.journal) new
met_step Needs why call old new needs met =
    let traced = met_traced (refuses call) why call old new met
    (λ tree is. ap (λ (w : Option DiskError). is_refused w) is) in
    record {
      call = call;
      needs = needs;
      why = why;
      refused = traced.cause;
      asked = ap (λ (i : ℕ). refusal call (tree_at new i)) traced.same ∙ met.met;
      own = ap (λ (i : ℕ). take 1 (drop i new.journal)) traced.same ∙ met.own;
    }
  where
    is_refused : Option DiskError → Bool
    is_refused None = false
    is_refused (Some w) = true

-- What is so between two marks, where it is told.

-- of one call
pub between_call : (Step : Past → Past → Type 0) (P : ℕ → ℕ → Past → Type 0)
    (old new : Option Past)
    → ((p q : Past) → Step p q → P (length p.journal) (length q.journal) q)
    → GoesOn Step old new → IsBetween P old new
between_call Step P None new by step = tt
between_call Step P (Some old) None by step = tt
between_call Step P (Some old) (Some new) by step = by old new step

-- behind an earlier part
pub between_earlier : (First : Past → Past → Type 0) (P Q : ℕ → ℕ → Past → Type 0)
    (old mid new : Option Past)
    → ((p q r : Past) → First p q → IsLonger q r → P (length q.journal) (length r.journal) r
    → Q (length p.journal) (length r.journal) r)
    → GoesOn First old mid → GoesOn IsLonger mid new → IsBetween P mid new → IsBetween Q old new
between_earlier First P Q None mid new by first on was = tt
between_earlier First P Q (Some old) None new by first on was = absurd first
between_earlier First P Q (Some old) (Some mid) None by first on was = tt
between_earlier First P Q (Some old) (Some mid) (Some new) by first on was =
    by old mid new first on was

-- one cause for another
pub between_as : (P Q : ℕ → ℕ → Past → Type 0) (old new : Option Past)
    → ((m n : ℕ) (past : Past) → P m n past → Q m n past) → IsBetween P old new
    → IsBetween Q old new
between_as P Q None new turns was = tt
between_as P Q (Some old) None turns was = tt
between_as P Q (Some old) (Some new) turns was =
    turns (length old.journal) (length new.journal) new was
