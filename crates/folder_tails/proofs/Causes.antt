-- What the calls of a recovery met, and why they were refused.
use Rattle.std.proofs.Common.{◌≡◌, ℕ, zero, suc, Bool, true, false, List, [], ◌∷◌, ◌++◌, Option}
use Rattle.std.proofs.Common.{Some, None, Result, Ok, Err, map, length, take, drop, is_none, nat_lt}
use Rattle.std.proofs.Common.{if◌then◌else◌, refl, sym, ◌∙◌, ap, subst, arith, append_assoc}
use Rattle.std.proofs.Common.{length-append, inl, inr}
use Rattle.std.proofs.Math.Seq.{drop-append_seam, take-append_seam}
use Rattle.disk_model.specs.Tree.{TreeNode, node_at}
use Rattle.disk_model.specs.Journal.{Answer, Call, Done, Entry, Others, Own, Past, ReadAll, Refused}
use Rattle.disk_model.specs.Journal.{StatPath}
use Rattle.disk_model.specs.State.{run_entries, state_of, tree_at, tree_of}
use Rattle.disk_model.specs.Judge.{Called, GoesOn, Grows, IsJudged, IsLonger, OneStep, answer_by}
use Rattle.disk_model.specs.Judge.{done_by, read_at, read_node, read_of, stat_at, stat_node}
use Rattle.disk_model.specs.Judge.{stat_of}
use Rattle.disk_model.specs.Refusals.{file_refusal, first_refusal, length_refusal, long_refusal}
use Rattle.disk_model.specs.Refusals.{missing_refusal, refusal}
use Rattle.disk_model.specs.declared.answers.DiskError.{DiskError}
use Rattle.disk_model.specs.declared.answers.DiskError.TheVariants.{Exists, Fault, Long, Missing}
use Rattle.disk_model.specs.declared.answers.DiskError.TheVariants.{NoMemory, WrongNode}
use Rattle.disk_model.specs.declared.answers.Stat.{Stat}
use Rattle.disk_model.proofs.Marks.{length_longer, tree_at-longer}
use Rattle.std.specs.Prelude.{IsErr, IsErrAnd}
use Rattle.disk_model.specs.Seen.{Seen}
use Rattle.folder_tails.specs.Stages.{IsCleared}
use Rattle.folder_tails.specs.Causes.{IsAround, IsOfTree, SeenAt, SeenLast, TellsWhy, WasAround}
use Rattle.folder_tails.specs.Causes.{WasLast, WasSeen}

-- One call.

-- a call that is told met a tree at a mark
step_seen : {T : Type 0} (result : Result T DiskError) (call : Call)
    (wanted : List TreeNode → Result T DiskError) (Is : Entry → List TreeNode → Type 0)
    (old new : Past) (step : OneStep result call wanted old new)
    → ((tree : List TreeNode) → IsJudged result (wanted tree) → Is (Own call step.answer) tree)
    → SeenLast Is old new
step_seen result call wanted Is old new step is =
    let before : List Entry = old.journal ++ map Others step.actions in
    let own : List Entry = Own call step.answer ∷ [] in
    let journal : new.journal ≡ before ++ own =
    step.journal ∙ sym (append_assoc old.journal (map Others step.actions) own) in
    let tree : tree_at new (length before) ≡ tree_of (run_entries before (state_of old.first)) =
    ap (λ (tree : List TreeNode). tree_of
    (run_entries (take (length before) new.journal) (state_of tree))) step.same_first
    ∙ ap (λ (l : List Entry). tree_of (run_entries (take (length before) l) (state_of old.first)))
    journal
    ∙ ap (λ (l : List Entry). tree_of (run_entries l (state_of old.first)))
    (take-append_seam before own) in
    record {
      seen = record {
        mark = length before;
        from = omega (arith, length-append old.journal (map Others step.actions));
        to = omega (arith, ap length journal, length-append before own);
        call = call;
        answer = step.answer;
        own =
            ap (λ (l : List Entry). take 1 (drop (length before) l)) journal
            ∙ ap (take 1) (drop-append_seam before own);
        is = subst (Is (Own call step.answer)) (sym tree)
            (is (tree_of (run_entries before (state_of old.first))) step.judged);
      };
      last = omega (arith, ap length journal, length-append before own);
    }

pub goes_map : (Step Seen : Past → Past → Type 0) (a b : Option Past)
    → ((old new : Past) → Step old new → Seen old new) → GoesOn Step a b → GoesOn Seen a b
goes_map Step Seen None b turns step = step
goes_map Step Seen (Some old) None turns step = absurd step
goes_map Step Seen (Some old) (Some new) turns step = turns old new step

pub goes_both : (One Other : Past → Past → Type 0) (a b : Option Past) → GoesOn One a b
    → GoesOn Other a b → GoesOn (λ old new. One old new × Other old new) a b
goes_both One Other None b one other = one
goes_both One Other (Some old) None one other = absurd one
goes_both One Other (Some old) (Some new) one other = (one, other)

-- what was seen at the last mark was seen
pub was_seen : {Is : Entry → List TreeNode → Type 0} {a b : Option Past} → WasLast Is a b
    → WasSeen Is a b
was_seen {Is} {a} {b} last =
    record { goes = goes_map (SeenLast Is) (SeenAt Is) a b (λ old new is. is.seen) last.goes }

-- a call that gave a value
pub last_ok : {T : Type 0} {value : T} {call : Call} {wanted : List TreeNode → Result T DiskError}
    {a b : Option Past} (Is : Entry → List TreeNode → Type 0)
    → ((tree : List TreeNode) → Ok value ≡ wanted tree → Is (Own call Done) tree)
    → Called (Ok value) call wanted a b → WasLast Is a b
last_ok {T} {value} {call} {wanted} {a} {b} Is is took =
    record {
      goes = goes_map (OneStep (Ok value) call wanted) (SeenLast Is) a b
          (λ old new step. step_seen (Ok value) call wanted Is old new step
          (λ tree judged. subst (λ (answer : Answer). Is (Own call answer) tree)
          (sym step.answered) (is tree judged))) took.goes;
    }

pub seen_ok : {T : Type 0} {value : T} {call : Call} {wanted : List TreeNode → Result T DiskError}
    {a b : Option Past} (Is : Entry → List TreeNode → Type 0)
    → ((tree : List TreeNode) → Ok value ≡ wanted tree → Is (Own call Done) tree)
    → Called (Ok value) call wanted a b → WasSeen Is a b
seen_ok Is is took = was_seen (last_ok Is is took)

-- one that was refused for the tree
pub last_refused : {T : Type 0} (why : DiskError) {call : Call}
    {wanted : List TreeNode → Result T DiskError} {a b : Option Past}
    (Is : Entry → List TreeNode → Type 0)
    → ((tree : List TreeNode) → Err why ≡ wanted tree → Is (Own call (Refused why 0)) tree)
    → Called (Err why) call wanted a b → IsOfTree why → WasLast Is a b
last_refused Fault Is is took of_tree = absurd of_tree
last_refused NoMemory Is is took of_tree = absurd of_tree
last_refused {T} Missing {call} {wanted} {a} {b} Is is took of_tree =
    record {
      goes = goes_map (OneStep {A = T} (Err Missing) call wanted) (SeenLast Is) a b
          (λ old new step. step_seen {T = T} (Err Missing) call wanted Is old new step
          (λ tree judged. subst (λ (answer : Answer). Is (Own call answer) tree)
          (sym step.answered) (is tree judged))) took.goes;
    }
last_refused {T} WrongNode {call} {wanted} {a} {b} Is is took of_tree =
    record {
      goes = goes_map (OneStep {A = T} (Err WrongNode) call wanted) (SeenLast Is) a b
          (λ old new step. step_seen {T = T} (Err WrongNode) call wanted Is old new step
          (λ tree judged. subst (λ (answer : Answer). Is (Own call answer) tree)
          (sym step.answered) (is tree judged))) took.goes;
    }
last_refused {T} Exists {call} {wanted} {a} {b} Is is took of_tree =
    record {
      goes = goes_map (OneStep {A = T} (Err Exists) call wanted) (SeenLast Is) a b
          (λ old new step. step_seen {T = T} (Err Exists) call wanted Is old new step
          (λ tree judged. subst (λ (answer : Answer). Is (Own call answer) tree)
          (sym step.answered) (is tree judged))) took.goes;
    }
last_refused {T} (Long size) {call} {wanted} {a} {b} Is is took of_tree =
    record {
      goes = goes_map (OneStep {A = T} (Err (Long size)) call wanted) (SeenLast Is) a b
          (λ old new step. step_seen {T = T} (Err (Long size)) call wanted Is old new step
          (λ tree judged. subst (λ (answer : Answer). Is (Own call answer) tree)
          (sym step.answered) (is tree judged))) took.goes;
    }

pub seen_refused : {T : Type 0} (why : DiskError) {call : Call}
    {wanted : List TreeNode → Result T DiskError} {a b : Option Past}
    (Is : Entry → List TreeNode → Type 0)
    → ((tree : List TreeNode) → Err why ≡ wanted tree → Is (Own call (Refused why 0)) tree)
    → Called (Err why) call wanted a b → IsOfTree why → WasSeen Is a b
seen_refused why Is is took of_tree = was_seen (last_refused why Is is took of_tree)

-- What a refused call says of the tree.

done_why : (why : DiskError) (met : Option DiskError)
    → ◌≡◌ {A = Result (Unit {0}) DiskError} (Err why) (answer_by met tt) → met ≡ Some why
done_why why None is = absurd (cc)
done_why why (Some other) is = cc

stat_why : (why : DiskError) (node : Option TreeNode)
    → ◌≡◌ {A = Result Stat DiskError} (Err why) (stat_at node) → missing_refusal node ≡ Some why
stat_why why None is = cc
stat_why why (Some node) is = absurd (cc)

long_why : (why : DiskError) (long : Bool) (size : ℕ) (value : Stat × List ℕ)
    → ◌≡◌ {A = Result (Stat × List ℕ) DiskError} (Err why)
    (if long then Err (Long size) else Ok value)
    → (if long then Some (Long size) else None) ≡ Some why
long_why why true size value is = cc
long_why why false size value is = absurd (cc)

bytes_why : (why : DiskError) (bytes : Option (List ℕ)) (stamp limit : ℕ)
    → ◌≡◌ {A = Result (Stat × List ℕ) DiskError} (Err why) (read_node bytes stamp limit)
    → first_refusal (if is_none bytes then Some WrongNode else None) (length_refusal limit bytes)
    ≡ Some why
bytes_why why None stamp limit is = cc
bytes_why why (Some bytes) stamp limit is =
    long_why why (nat_lt limit (length bytes)) (length bytes) (stat_node (Some bytes) stamp, bytes)
    is

read_why : (why : DiskError) (node : Option TreeNode) (limit : ℕ)
    → ◌≡◌ {A = Result (Stat × List ℕ) DiskError} (Err why) (read_at node limit)
    → first_refusal (file_refusal node) (long_refusal limit node) ≡ Some why
read_why why None limit is = cc
read_why why (Some node) limit is = bytes_why why node.bytes node.stamp limit is

-- a call that gives nothing
pub step_around : {why : DiskError} {call : Call} {a b : Option Past} (path : List ℕ)
    → IsAround path call → Called {A = Unit {0}} (Err why) call (done_by call) a b
    → IsOfTree why → WasLast (WasAround path) a b
step_around {why} {call} path around took = last_refused why (WasAround path)
    (λ tree is. (call, why, refl, around, done_why why (refusal call tree) is)) took

-- a look at what stands there
pub stat_around : {why : DiskError} {at : List ℕ} {a b : Option Past} (path : List ℕ)
    → IsAround path (StatPath at)
    → Called {A = Stat} (Err why) (StatPath at) (λ tree. stat_of tree at) a b
    → IsOfTree why → WasLast (WasAround path) a b
stat_around {why} {at} path around took = last_refused why (WasAround path)
    (λ tree is. (StatPath at, why, refl, around, stat_why why (node_at tree at) is)) took

-- a look into a file
pub read_around : {why : DiskError} {at : List ℕ} {limit : ℕ} {a b : Option Past} (path : List ℕ)
    → IsAround path (ReadAll at limit)
    → Called {A = Stat × List ℕ} (Err why) (ReadAll at limit) (λ tree. read_of tree at limit) a b
    → IsOfTree why → WasLast (WasAround path) a b
read_around {why} {at} {limit} path around took = last_refused why (WasAround path)
    (λ tree is. (ReadAll at limit, why, refl, around, read_why why (node_at tree at) limit is)) took

-- One part behind another.

pub first_entry : (mark : ℕ) (entry : Entry) (entries more : List Entry)
    → take 1 (drop mark entries) ≡ entry ∷ [] → take 1 (drop mark (entries ++ more)) ≡ entry ∷ []
first_entry zero entry [] more is = absurd (cc)
first_entry zero entry (first ∷ entries) more is = is
first_entry (suc mark) entry [] more is = absurd (cc)
first_entry (suc mark) entry (first ∷ entries) more is = first_entry mark entry entries more is

module _ {Is : Entry → List TreeNode → Type 0} where
  unfoldable pub at_later : (p q r : Past) → IsLonger p q → SeenAt Is q r → SeenAt Is p r
  at_later p q r first seen = record {
    mark = seen.mark;
    from = omega (arith, seen.from, length_longer p q first);
    to = seen.to;
    call = seen.call;
    answer = seen.answer;
    own = seen.own;
    is = seen.is;
  }

  unfoldable pub at_before : (p q r : Past) → SeenAt Is p q → IsLonger q r → SeenAt Is p r
  at_before p q r seen next = record {
    mark = seen.mark;
    from = seen.from;
    to = omega (arith, seen.to, length_longer q r next);
    call = seen.call;
    answer = seen.answer;
    own = ap (λ (l : List Entry). take 1 (drop seen.mark l)) next.journal
        ∙ first_entry seen.mark (Own seen.call seen.answer) q.journal next.more seen.own;
    is = subst (Is (Own seen.call seen.answer))
        (sym (tree_at-longer q r seen.mark next (omega (arith, seen.to)))) seen.is;
  }

-- what is so behind a part that came first is so of both
pub goes_later : (Seen : Past → Past → Type 0) (a b c : Option Past)
    → ((p q r : Past) → IsLonger p q → Seen q r → Seen p r) → Grows a b → GoesOn Seen b c
    → GoesOn Seen a c
goes_later Seen None b c turns first seen =
    subst (λ (mid : Option Past). GoesOn Seen mid c) first seen
goes_later Seen (Some p) None c turns first seen = absurd first
goes_later Seen (Some p) (Some q) None turns first seen = absurd seen
goes_later Seen (Some p) (Some q) (Some r) turns first seen = turns p q r first seen

-- and before one that comes next
pub goes_before : (Seen Next Both : Past → Past → Type 0) (a b c : Option Past)
    → ((p q r : Past) → Seen p q → Next q r → Both p r) → GoesOn Seen a b → GoesOn Next b c
    → GoesOn Both a c
goes_before Seen Next Both None b c turns seen next =
    none_on Next Both b c seen next
  where
    none_on : (Next Both : Past → Past → Type 0) (b c : Option Past) → b ≡ None → GoesOn Next b c
        → c ≡ None
    none_on Next Both None c is next = next
    none_on Next Both (Some q) c is next = absurd (cc)
goes_before Seen Next Both (Some p) None c turns seen next = absurd seen
goes_before Seen Next Both (Some p) (Some q) None turns seen next = absurd next
goes_before Seen Next Both (Some p) (Some q) (Some r) turns seen next = turns p q r seen next

pub seen_later : {Is : Entry → List TreeNode → Type 0} {a b c : Option Past} → Grows a b
    → WasSeen Is b c → WasSeen Is a c
seen_later {Is} {a} {b} {c} first seen =
    record { goes = goes_later (SeenAt Is) a b c (at_later {Is = Is}) first seen.goes }

at_last : {Is : Entry → List TreeNode → Type 0} (p q r : Past) → IsLonger p q → SeenLast Is q r
    → SeenLast Is p r
unfolding at_later
at_last p q r first last = record { seen = at_later p q r first last.seen; last = last.last }

pub last_later : {Is : Entry → List TreeNode → Type 0} {a b c : Option Past} → Grows a b
    → WasLast Is b c → WasLast Is a c
last_later {Is} {a} {b} {c} first last =
    record { goes = goes_later (SeenLast Is) a b c (at_last {Is = Is}) first last.goes }

pub seen_before : {Is : Entry → List TreeNode → Type 0} {a b c : Option Past} → WasSeen Is a b
    → Grows b c → WasSeen Is a c
seen_before {Is} {a} {b} {c} seen next =
    record {
      goes = goes_before (SeenAt Is) IsLonger (SeenAt Is) a b c (at_before {Is = Is})
          seen.goes next;
    }

-- what a refused call tells is told by what is refused for it
pub passed_on : {A P : Type 0} (why : DiskError) (result : Result A DiskError)
    → IsErr result × IsErrAnd result (λ told. told ≡ why) → (IsOfTree why → P)
    → TellsWhy result P
passed_on why (Ok value) from is = absurd from.1
passed_on {A} {P} why (Err told) from is =
    subst (λ (e : DiskError). IsOfTree e → P) (sym from.1) is

pub why_as : {A P Q : Type 0} (result : Result A DiskError) → (P → Q) → TellsWhy result P
    → TellsWhy result Q
why_as (Ok value) turns is = tt
why_as (Err why) turns is = λ of_tree. turns (is of_tree)

-- the same of what was seen
pub seen_as : {Is Other : Entry → List TreeNode → Type 0} {a b : Option Past}
    → ((entry : Entry) (tree : List TreeNode) → Is entry tree → Other entry tree)
    → WasSeen Is a b → WasSeen Other a b
seen_as {Is} {Other} {a} {b} turns seen =
    record {
      goes = goes_map (SeenAt Is) (SeenAt Other) a b (λ old new seen. record {
        mark = seen.mark;
        from = seen.from;
        to = seen.to;
        call = seen.call;
        answer = seen.answer;
        own = seen.own;
        is = turns (Own seen.call seen.answer) (tree_at new seen.mark) seen.is;
      }) seen.goes;
    }

-- a file was taken away, or nothing stood there
pub cleared_grows : (at : List ℕ) (old new : Seen) → IsCleared at old new
    → Grows old.told new.told
cleared_grows at old new (inl gone) = gone.grows
cleared_grows at old new (inr none) = none.grows
