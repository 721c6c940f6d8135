-- States that our own calls do not bring about are traced back over them.
use Rattle.std.proofs.Common.{◌≡◌, ◌≤◌, ◌<◌, ◌+◌, ◌⊎◌, ◌++◌, ◌∙◌, ℕ, Bool, true, false, List, []}
use Rattle.std.proofs.Common.{◌∷◌, Option, Some, None, Result, Err, inl, inr, refl, sym, ap}
use Rattle.std.proofs.Common.{subst, arith, append_assoc, length-append, length, take, drop}
use Rattle.std.proofs.Common.{is_some}
use Rattle.std.proofs.Math.Seq.{drop-append_seam}
use Rattle.std.proofs.lemmas.Bool.{and_parts}
use Rattle.std.specs.List.{list_any}
use Rattle.disk_model.specs.Looking.{LooksOnly, all_look, looks}
use Rattle.disk_model.specs.Journal.{Answer, Call, Done, Entry, Others, Own, Past, Refused}
use Rattle.disk_model.specs.Judge.{Called, GoesOn, Grows, IsLonger, StepBy}
use Rattle.disk_model.specs.Refusals.{first_refusal, refusal}
use Rattle.disk_model.specs.State.{State, after_entry, run_entries, state_after, state_at, state_of}
use Rattle.disk_model.specs.State.{tree_after, tree_at, tree_of}
use Rattle.disk_model.specs.Tree.{TreeNode}
use Rattle.disk_model.specs.declared.answers.DiskError.{DiskError}
use Rattle.disk_model.proofs.Looking.{called_grows, grows_same, grows_then}
use Rattle.disk_model.proofs.Marks.{length_longer, look_keeps, refusal_keeps, tree_at-length}
use Rattle.disk_model.proofs.Marks.{tree_at-longer}
use Rattle.disk_model.proofs.Runs.{run_entries-append}
use Rattle.folder_core.proofs.SeenLemmas.{goes_as}
use Rattle.folder_changes.specs.Refused.{IsBetween, IsOfTree, StepRefused}
use Rattle.folder_changes.specs.Worked.{WasCause, is_others, others_at}
use Rattle.folder_changes.proofs.TraceLemmas.{IsNotOurs, Traced, asked_by, met_asked}
use Rattle.folder_changes.proofs.TraceLemmas.{traced_back, traced_here}
use Rattle.folder_changes.proofs.WorkLemmas.{next_state}
use Rattle.folder_drivers.proofs.Sturdy.{Sturdy, sturdy_at}
use Rattle.folder_drivers.specs.MhAppend.{OthersMade}
use Rattle.mh_appends.specs.Leftovers.{MetNot}
use Rattle.folder_stops.specs.Along.{Grown, Onward}
use Rattle.folder_stops.specs.Does.{AllOwn}
use Rattle.mh_appends.proofs.Calls.{only_call}

true_false : ◌≡◌ {A = Bool} true false → ⊥
true_false e = cc

-- a call of ours does not bring the state about
abbrev pub Hushes : (List TreeNode → Bool) → Call → Answer → Type 0
Hushes is_so call answer = (s : State) → Sturdy s → is_so (tree_of s) ≡ false
    → is_so (tree_of (after_entry s (Own call answer))) ≡ false

module _ (is_so : List TreeNode → Bool) where
  module _ (past : Past) where
    here : (before : List Entry) (entry : Entry) (rest entries : List Entry)
        → past.journal ≡ before ++ (entry ∷ rest) → AllOwn (Hushes is_so) (entry ∷ entries)
        → IsNotOurs is_so past (length before)
    here before (Others action) rest entries journal all not so =
        ap (λ (l : List Entry). list_any is_others (take 1 l))
        (ap (drop (length before)) journal ∙ drop-append_seam before (Others action ∷ rest))
    here before (Own call answer) rest entries journal all not so =
        absurd (true_false (sym so
        ∙ ap (λ (s : State). is_so (tree_of s)) (next_state past (length before) (Own call answer)
        rest (ap (drop (length before)) journal ∙ drop-append_seam before (Own call answer ∷ rest)))
        ∙ all.0 (state_at past (length before)) (sturdy_at past (length before)) not))

    all_behind : (entry : Entry) (entries : List Entry) → AllOwn (Hushes is_so) (entry ∷ entries)
        → AllOwn (Hushes is_so) entries
    all_behind (Own call answer) entries all = all.1
    all_behind (Others action) entries all = all

    along : (before front rest : List Entry) → past.journal ≡ before ++ (front ++ rest)
        → AllOwn (Hushes is_so) front → (x : ℕ) → length before ≤ x
        → x < length before + length front → IsNotOurs is_so past x
    along before [] rest journal all x from to = absurd (omega (arith, from, to))
    along before (entry ∷ front) rest journal all x from to =
        by (first_or x from)
        (λ later. along (before ++ entry ∷ []) front rest
        (journal ∙ sym (append_assoc before (entry ∷ []) (front ++ rest)))
        (all_behind entry front all) x (omega (arith, longer, later))
        (omega (arith, longer, to)))
      where
        first_or : (x : ℕ) → length before ≤ x → (length before ≡ x) ⊎ (length before + 1 ≤ x)
        first_or x from = grind (arith, from)

        longer : length (before ++ entry ∷ []) ≡ length before + 1
        longer = length-append before (entry ∷ [])

        by : (length before ≡ x) ⊎ (length before + 1 ≤ x)
            → (length before + 1 ≤ x → IsNotOurs is_so past x) → IsNotOurs is_so past x
        by (inl is) again = subst (IsNotOurs is_so past) is
            (here before entry (front ++ rest) front journal all)
        by (inr later) again = again later

  -- what such calls between two marks do not bring about is not ours there
  pub not_ours : (old mid past : Past) → Onward (λ s es. AllOwn (Hushes is_so) es) old mid
      → IsLonger mid past → (x : ℕ) → length old.journal ≤ x → x < length mid.journal
      → IsNotOurs is_so past x
  not_ours old mid past goes on x from to =
      along past old.journal goes.more on.more
      (on.journal ∙ ap (λ (l : List Entry). l ++ on.more) goes.journal
      ∙ append_assoc old.journal goes.more on.more) goes.along x from
      (omega (arith, to, ap length goes.journal, length-append old.journal goes.more))

-- this is so where it is wanted
abbrev pub Where : Bool → Type 0 → Type 0
Where true P = P
Where false P = Unit {0}

-- A cause that was met at a mark, which others made where it is new.
pub record TracedAs (is_new : Bool) (is_so : List TreeNode → Bool) (m n mark : ℕ) (past : Past)
    : Type 0 where
  pub traced : Traced is_so m n mark past
  pub others : Where is_new (OthersMade m traced.cause.since past)

-- A cause that is told from the second past on is one from the first on.
pub record Traceable (is_new : Bool) (is_so : List TreeNode → Bool) (a b : Past) : Type 0 where
  pub longer : IsLonger a b
  pub back : (past : Past) → IsLonger b past → (n mark : ℕ)
      → Traced is_so (length b.journal) n mark past
      → TracedAs is_new is_so (length a.journal) n mark past

abbrev pub Traces : Bool → (List TreeNode → Bool) → Option Past → Option Past → Type 0
Traces is_new is_so a b = GoesOn (Traceable is_new is_so) a b

onward_longer : (P : State → List Entry → Type 0) (a b : Past) → Onward P a b → IsLonger a b
onward_longer P a b o =
    record { same_first = o.same_first; more = o.more; journal = o.journal }

-- what is not told stays so
untold : (P : Past → Past → Type 0) (b c : Option Past) → b ≡ None → GoesOn P b c → c ≡ None
untold P None c none goes = goes
untold P (Some past) c none goes = absurd (cc)

-- one part behind another
pub goes_behind : {P Q R : Past → Past → Type 0} (a b c : Option Past)
    → ((p q r : Past) → P p q → Q q r → R p r) → GoesOn P a b → GoesOn Q b c → GoesOn R a c
goes_behind {Q = Q} None b c by first second = untold Q b c first second
goes_behind (Some a) None c by first second = absurd first
goes_behind (Some a) (Some b) None by first second = absurd second
goes_behind (Some a) (Some b) (Some c) by first second = by a b c first second

-- two relations of the same pasts
pub goes_both : {P Q R : Past → Past → Type 0} (a b : Option Past)
    → ((p q : Past) → P p q → Q p q → R p q) → GoesOn P a b → GoesOn Q a b → GoesOn R a b
goes_both None b by one two = one
goes_both (Some a) None by one two = absurd one
goes_both (Some a) (Some b) by one two = by a b one two

module _ (is_so : List TreeNode → Bool) where
  longer_then : (a b c : Past) → IsLonger a b → IsLonger b c → IsLonger a c
  longer_then a b c first rest = grows_then (Some a) (Some b) (Some c) first rest

  trace_then : (is_new : Bool) (a b c : Past) → Traceable is_new is_so a b
      → Traceable false is_so b c → Traceable is_new is_so a c
  trace_then is_new a b c first rest = record {
    longer = longer_then a b c first.longer rest.longer;
    back = λ past on n mark traced. first.back past (longer_then b c past rest.longer on) n mark
        (rest.back past on n mark traced).traced;
  }

  pub traces_then : (is_new : Bool) (a b c : Option Past) → Traces is_new is_so a b
      → Traces false is_so b c → Traces is_new is_so a c
  traces_then is_new a b c first rest = goes_behind a b c (trace_then is_new) first rest

  pub traces_none : (a : Option Past) → Traces false is_so a a
  traces_none None = refl
  traces_none (Some past) = record {
    longer = grows_same (Some past);
    back = λ later on n mark traced. record { traced = traced; others = tt };
  }

  -- calls that do not bring it about
  pub traces_own : (a b : Option Past) → Grown a b (λ s es. AllOwn (Hushes is_so) es)
      → Traces false is_so a b
  traces_own a b grown = goes_as a b (λ p q o. record {
    longer = onward_longer (λ s es. AllOwn (Hushes is_so) es) p q o;
    back = λ past on n mark traced. record {
      traced = traced_back is_so n mark past (length p.journal) (length q.journal)
          (length_longer p q (onward_longer (λ s es. AllOwn (Hushes is_so) es) p q o))
          (λ x from to. not_ours is_so p q past o on x from to) traced;
      others = tt;
    };
  }) grown

  look_hushes : (entries : List Entry) → all_look entries ≡ true
      → AllOwn (Hushes is_so) entries
  look_hushes [] look = tt
  look_hushes (Own call answer ∷ entries) look =
      let parts = and_parts (looks (Own call answer)) (all_look entries) look in
      (by answer parts.0, look_hushes entries parts.1)
    where
      by : (answer : Answer) → looks (Own call answer) ≡ true → Hushes is_so call answer
      by Done look s sturdy not =
          ap (λ (t : State). is_so (tree_of t)) (look_keeps call s look) ∙ not
      by (Refused why wrote) look s sturdy not =
          ap (λ (t : State). is_so (tree_of t)) (refusal_keeps call wrote s look) ∙ not
  look_hushes (Others action ∷ entries) look =
      look_hushes entries (and_parts true (all_look entries) look).1

  pub traces_looked : (a b : Option Past) → LooksOnly a b → Traces false is_so a b
  traces_looked a b looked = traces_own a b (goes_as a b (λ p q l. record {
    same_first = l.same_first;
    more = l.more;
    journal = l.journal;
    along = look_hushes l.more l.look;
  }) looked)

  pub traces_call : {T : Type 0} (result : Result T DiskError) {call : Call}
      {wanted : List TreeNode → Result T DiskError} (a b : Option Past)
      → ((answer : Answer) → Hushes is_so call answer) → Called result call wanted a b
      → Traces false is_so a b
  traces_call result a b hushes took =
      traces_own a b (only_call (Hushes is_so) result hushes took)

  -- where it is not so at a mark, others brought it about behind that
  new_cause : (m k n mark : ℕ) (past : Past) → m ≤ k → is_so (tree_at past k) ≡ false
      → Traced is_so k n mark past → TracedAs true is_so m n mark past
  new_cause m k n mark past low not_yet traced = by was.whose
    where
      was : WasCause is_so k n past
      was = traced.cause

      not_first : was.since ≡ k → ⊥
      not_first at = true_false (sym (was.stands k (omega (arith, at))
          (omega (arith, at, was.on))) ∙ not_yet)

      later_or : (was.since ≡ k) ⊎ (k + 1 ≤ was.since)
      later_or = grind (arith, was.from)

      behind : (before : ℕ) → was.since ≡ before + 1
          → (was.since ≡ k) ⊎ (k + 1 ≤ was.since) → m ≤ before
      behind before is (inl at) = absurd (not_first at)
      behind before is (inr later) = omega (arith, is, later, low)

      by : (was.since ≡ k)
          ⊎ ((before : ℕ) × (was.since ≡ before + 1) × (others_at before past ≡ true))
          → TracedAs true is_so m n mark past
      by (inl at) = absurd (not_first at)
      by (inr others) = record {
        traced = record {
          cause = record {
            since = was.since;
            mark = was.mark;
            from = omega (arith, was.from, low);
            on = was.on;
            to = was.to;
            stands = was.stands;
            whose = inr others;
          };
          same = traced.same;
        };
        others = (others.0, behind others.0 others.1 later_or, others.1, others.2);
      }

  pub met_behind : (a b c : Option Past) → Grows a b → GoesOn (MetNot is_so) b c
      → GoesOn (MetNot is_so) a c
  met_behind a b c on met = goes_behind a b c (λ p q r longer m. record {
    mark = m.mark;
    from = omega (arith, m.from, length_longer p q longer);
    to = m.to;
    is = m.is;
  }) on met

  pub met_before : (a b c : Option Past) → GoesOn (MetNot is_so) a b → Grows b c
      → GoesOn (MetNot is_so) a c
  met_before a b c met on = goes_behind a b c (λ p q r m longer. record {
    mark = m.mark;
    from = m.from;
    to = omega (arith, m.to, length_longer q r longer);
    is = ap is_so (tree_at-longer q r m.mark longer m.to) ∙ m.is;
  }) met on

  pub traces_met : (a b : Option Past) → Grown a b (λ s es. AllOwn (Hushes is_so) es)
      → GoesOn (MetNot is_so) a b → Traces true is_so a b
  traces_met a b grown met = goes_both a b (λ p q o m. record {
    longer = onward_longer (λ s es. AllOwn (Hushes is_so) es) p q o;
    back = λ past on n mark traced. new_cause (length p.journal) m.mark n mark past m.from
        (ap is_so (tree_at-longer q past m.mark on m.to) ∙ m.is)
        (traced_back is_so n mark past m.mark (length q.journal) m.to
        (λ x from to. not_ours is_so p q past o on x (omega (arith, from, m.from)) to) traced);
  }) grown met

  -- where it is not so at an end
  module _ (p q r : Past) (first : IsLonger p q)
      (o : Onward (λ s es. is_so (tree_of (run_entries es s)) ≡ false) q r) where
    end_is : tree_after r ≡ tree_of (run_entries o.more (state_after q))
    end_is =
        ap (λ (t : List TreeNode). tree_of (run_entries r.journal (state_of t))) o.same_first
        ∙ ap (λ (l : List Entry). tree_of (run_entries l (state_of q.first))) o.journal
        ∙ ap tree_of (run_entries-append q.journal o.more (state_of q.first))

    whole : IsLonger q r
    whole = onward_longer (λ s es. is_so (tree_of (run_entries es s)) ≡ false) q r o

    end_back : (past : Past) → IsLonger r past → (n mark : ℕ)
        → Traced is_so (length r.journal) n mark past
        → TracedAs true is_so (length p.journal) n mark past
    end_back past on n mark traced =
        new_cause (length p.journal) (length r.journal) n mark past
        (omega (arith, length_longer p q first, length_longer q r whole))
        (ap is_so (tree_at-longer r past (length r.journal) on (omega arith)
        ∙ tree_at-length r ∙ end_is) ∙ o.along) traced

  pub traces_made : (a b c : Option Past) → Grows a b
      → Grown b c (λ s es. is_so (tree_of (run_entries es s)) ≡ false) → Traces true is_so a c
  traces_made a b c first grown = goes_behind a b c (λ p q r on o. record {
    longer = longer_then p q r on (whole p q r on o);
    back = end_back p q r on o;
  }) first grown

  pub met_end : (a b : Option Past)
      → Grown a b (λ s es. is_so (tree_of (run_entries es s)) ≡ false)
      → GoesOn (MetNot is_so) a b
  met_end a b grown = goes_as a b (λ p q o. record {
    mark = length q.journal;
    from = length_longer p q (onward_longer (λ s es. is_so (tree_of (run_entries es s)) ≡ false) p q
        o);
    to = omega arith;
    is = ap is_so (tree_at-length q ∙ end_is p p q (grows_same (Some p)) o) ∙ o.along;
  }) grown

-- Why a call was refused.

-- A state for which a call is refused, with what is known of whose it is: others made it where it
-- is to be new.
pub record Reason (asks : List TreeNode → Option DiskError) (IsNew : List TreeNode → Type 0)
    (tree : List TreeNode) (a b : Past) : Type 0 where
  pub is_so : List TreeNode → Bool
  pub holds : is_so tree ≡ true
  pub refuses_so : (other : List TreeNode) → is_so other ≡ true → is_some (asks other) ≡ true
  pub is_new : Bool
  pub traceable : Traceable is_new is_so a b
  pub new_is : is_new ≡ false → IsNew tree → ⊥

abbrev pub Reasons : (List TreeNode → Option DiskError) → (List TreeNode → Type 0) → Past → Past
    → Type 0
Reasons asks IsNew a b =
    (tree : List TreeNode) (why : DiskError) → asks tree ≡ Some why → Reason asks IsNew tree a b

abbrev pub HasReasons : (List TreeNode → Option DiskError) → (List TreeNode → Type 0)
    → Option Past → Option Past → Type 0
HasReasons asks IsNew a b = GoesOn (Reasons asks IsNew) a b

-- no state is to be new
abbrev pub NoneNew : List TreeNode → Type 0
NoneNew tree = ⊥

-- each is
abbrev pub AllNew : List TreeNode → Type 0
AllNew tree = Unit {0}

-- the state is the refusal itself
pub old_reason : (asks : List TreeNode → Option DiskError) (a b : Option Past)
    → Traces false (λ tree. is_some (asks tree)) a b → HasReasons asks NoneNew a b
old_reason asks a b traces = goes_as a b (λ p q traceable tree why is. record {
  is_so = λ tree. is_some (asks tree);
  holds = ap is_some is;
  refuses_so = λ other so. so;
  is_new = false;
  traceable = traceable;
  new_is = λ e none. none;
}) traces

pub new_reason : (asks : List TreeNode → Option DiskError) (IsNew : List TreeNode → Type 0)
    (a b : Option Past) → Traces true (λ tree. is_some (asks tree)) a b
    → HasReasons asks IsNew a b
new_reason asks IsNew a b traces = goes_as a b (λ p q traceable tree why is. record {
  is_so = λ tree. is_some (asks tree);
  holds = ap is_some is;
  refuses_so = λ other so. so;
  is_new = true;
  traceable = traceable;
  new_is = λ e none. true_false e;
}) traces

module _ (first next : List TreeNode → Option DiskError) (IsNew : List TreeNode → Type 0) where
  abbrev both : List TreeNode → Option DiskError
  both tree = first_refusal (first tree) (next tree)

  first_some : (one two : Option DiskError) → is_some one ≡ true
      → is_some (first_refusal one two) ≡ true
  first_some None two some = absurd (true_false (sym some))
  first_some (Some why) two some = refl

  next_some : (one two : Option DiskError) → is_some two ≡ true
      → is_some (first_refusal one two) ≡ true
  next_some None two some = some
  next_some (Some why) two some = refl

  pick : (tree : List TreeNode) (why : DiskError) (a b : Past) → Reasons first IsNew a b
      → Reasons next IsNew a b → (one : Option DiskError) → first tree ≡ one
      → first_refusal one (next tree) ≡ Some why → Reason both IsNew tree a b
  pick tree why a b firsts nexts None is e = let reason = nexts tree why e in record {
    is_so = reason.is_so;
    holds = reason.holds;
    refuses_so = λ other so. next_some (first other) (next other) (reason.refuses_so other so);
    is_new = reason.is_new;
    traceable = reason.traceable;
    new_is = reason.new_is;
  }
  pick tree why a b firsts nexts (Some other_why) is e =
      let reason = firsts tree other_why is in record {
        is_so = reason.is_so;
        holds = reason.holds;
        refuses_so = λ other so. first_some (first other) (next other)
            (reason.refuses_so other so);
        is_new = reason.is_new;
        traceable = reason.traceable;
        new_is = reason.new_is;
      }

  -- one of two
  pub two_reasons : (a b : Option Past) → HasReasons first IsNew a b → HasReasons next IsNew a b
      → HasReasons both IsNew a b
  two_reasons a b firsts nexts = goes_both a b
      (λ p q one two tree why is. pick tree why p q one two (first tree) refl is) firsts nexts

-- A step that was refused behind earlier ones.

abbrev pub Turns : (Call → Type 0) → Call → DiskError → (List TreeNode → Type 0)
    → (ℕ → ℕ → Past → Type 0) → Type 0
Turns Needs call why IsNew P = (m n : ℕ) (past : Past) (step : StepRefused Needs m n past)
    → step.why ≡ why → step.call ≡ call
    → (IsNew (tree_at past step.refused.mark) → OthersMade m step.refused.since past)
    → P m n past

module _ (Needs : Call → Type 0) (call : Call) (needs : Needs call) {A : Type 0}
    (value : List TreeNode → A) (why : DiskError) (of_tree : IsOfTree why)
    (IsNew : List TreeNode → Type 0) where
  abbrev Step : Past → Past → Type 0
  Step b c = StepBy {A = A} (Err why) call (asked_by call value) b c

  made_new : (is_new : Bool) (m since : ℕ) (past : Past) (tree : List TreeNode)
      → Where is_new (OthersMade m since past) → (is_new ≡ false → IsNew tree → ⊥) → IsNew tree
      → OthersMade m since past
  made_new true m since past tree others old is = others
  made_new false m since past tree others old is = absurd (old refl is)

  refused_at : (P : ℕ → ℕ → Past → Type 0) (a b c : Past) → Turns Needs call why IsNew P
      → Reasons (refusal call) IsNew a b → Step b c → P (length a.journal) (length c.journal) c
  refused_at P a b c turns reasons step =
      let met = met_asked value why call b c of_tree step in
      let reason = reasons (tree_at c met.mark) why met.met in
      let was = reason.traceable.back c
      (called_grows {A = A} (Err why) call (asked_by call value) (Some b) (Some c) step)
      (length c.journal) met.mark
      (traced_back reason.is_so (length c.journal) met.mark c (length b.journal) met.mark met.from
      (met.others reason.is_so)
      (traced_here reason.is_so met.mark (length c.journal) c met.to reason.holds)) in
      turns (length a.journal) (length c.journal) c (record {
        call = call;
        needs = needs;
        why = why;
        refused = record {
          since = was.traced.cause.since;
          mark = was.traced.cause.mark;
          from = was.traced.cause.from;
          on = was.traced.cause.on;
          to = was.traced.cause.to;
          stands = λ k from to. reason.refuses_so (tree_at c k) (was.traced.cause.stands k from to);
          whose = was.traced.cause.whose;
        };
        asked = ap (λ (i : ℕ). refusal call (tree_at c i)) was.traced.same ∙ met.met;
        own = ap (λ (i : ℕ). take 1 (drop i c.journal)) was.traced.same ∙ met.own;
      }) refl refl
      (λ is. made_new reason.is_new (length a.journal) was.traced.cause.since c (tree_at c met.mark)
      was.others reason.new_is (subst (λ (i : ℕ). IsNew (tree_at c i)) was.traced.same is))

  pub refused_for : (P : ℕ → ℕ → Past → Type 0) (a b c : Option Past)
      → Turns Needs call why IsNew P → HasReasons (refusal call) IsNew a b → GoesOn Step b c
      → IsBetween P a c
  refused_for P None b c turns reasons step = tt
  refused_for P (Some a) None c turns reasons step = absurd reasons
  refused_for P (Some a) (Some b) None turns reasons step = tt
  refused_for P (Some a) (Some b) (Some c) turns reasons step =
      refused_at P a b c turns reasons step
