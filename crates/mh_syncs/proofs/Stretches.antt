-- Stretches of a past in which our own calls leave the messages, or take some of them away.
use Rattle.std.proofs.Common.{◌≡◌, ◌≢◌, ◌≤◌, ◌<◌, ◌+◌, ◌==◌, ℕ, Bool, true, false, List, [], ◌∷◌}
use Rattle.std.proofs.Common.{Option, Some, None, option_map, length, take, drop, refl, sym, ◌∙◌}
use Rattle.std.proofs.Common.{ap}
use Rattle.std.proofs.Common.{subst, arith, nat_lt, ltb-true, if◌then◌else◌, Result, Ok, Err}
use Rattle.std.specs.Option.{option_or}
use Rattle.mail_base.specs.declared.kind.Kind.TheVariants.{Mh}
use Rattle.disk_model.specs.Journal.{Answer, Call, Done, Entry, Own, Past, Refused}
use Rattle.disk_model.specs.Judge.{IsLonger, OneStep, StepBy, done_by}
use Rattle.disk_model.specs.Looking.{HasLooked}
use Rattle.disk_model.specs.State.{State, after_entry, state_at, tree_of}
use Rattle.disk_model.specs.Tree.{TreeNode}
use Rattle.disk_model.specs.declared.answers.DiskError.{DiskError}
use Rattle.disk_model.specs.declared.answers.DiskError.TheVariants.{Missing, WrongNode, Exists}
use Rattle.disk_model.specs.declared.answers.DiskError.TheVariants.{Long, Fault, NoMemory}
use Rattle.disk_model.proofs.Looking.{looked_longer, looked_same}
use Rattle.disk_model.proofs.Marks.{length_longer}
use Rattle.index_items.specs.Changes.{Discards, PlainChange}
use Rattle.folder_core.specs.Mh.{is_number, mh_reads}
use Rattle.folder_changes.specs.Wanted.{wanted}
use Rattle.folder_changes.specs.Worked.{due, either, nothing_wanted, own_at}
use Rattle.folder_changes.proofs.StepLemmas.{early, nothing_of, same_of}
use Rattle.folder_drivers.specs.MhNames.{call_away}
use Rattle.folder_drivers.specs.MhSync.{LeavesNumbers, mh_at, only_discard}
use Rattle.std.specs.Str.{bytes_eq}
use Rattle.disk_model.proofs.Trees.{bytes_same}
use Rattle.mh_syncs.specs.Parts.{Away, AwayAt, gone_at}
use Rattle.folder_drivers.proofs.MhCalls.{LeavesBy}
use Rattle.mh_syncs.proofs.Folders.{away_takes}
use Rattle.mh_syncs.proofs.Marking.{StepMark, longer_then, looked_state, step_mark, step_next}
use Rattle.mh_syncs.proofs.Marking.{step_only}
use Rattle.folder_drivers.proofs.Sturdy.{sturdy_at}

true_false : ◌≡◌ {A = Bool} true false → ⊥
true_false e = cc

none_some : (c : PlainChange) → ◌≡◌ {A = Option PlainChange} None (Some c) → ⊥
none_some c e = cc

not_less : (i j : ℕ) → nat_lt i j ≡ false → j ≤ i
not_less i j is = grind (arith, is)

-- Stretches that leave the messages.

-- one behind another
pub leaves_then : (path : List ℕ) (a b c : Past) → LeavesNumbers path a b → LeavesNumbers path b c
    → LeavesNumbers path a c
leaves_then path a b c first next = record {
  longer = longer_then a b c first.longer next.longer;
  leaves = λ past on mark from to own. by past on mark from to own
      (nat_lt mark (length b.journal)) refl;
}
  where
    by : (past : Past) → IsLonger c past → (mark : ℕ) → length a.journal ≤ mark
        → mark < length c.journal → own_at mark past ≡ true → (t : Bool)
        → nat_lt mark (length b.journal) ≡ t → mh_at path past (mark + 1) ≡ mh_at path past mark
    by past on mark from to own true is =
        first.leaves past (longer_then b c past next.longer on) mark from
        (ltb-true mark (length b.journal) is) own
    by past on mark from to own false is =
        next.leaves past on mark (not_less mark (length b.journal) is) to own

-- looks
pub looked_leaves : (path : List ℕ) (a b : Past) → HasLooked a b → LeavesNumbers path a b
looked_leaves path a b looked = record {
  longer = looked_longer a b looked;
  leaves = λ past on mark from to own.
      ap (λ (s : State). mh_reads (tree_of s) path)
      (looked_state a b past looked on mark from to own);
}

-- one call that leaves them
pub step_leaves : {A : Type 0} (path : List ℕ) (result : Result A DiskError) (call : Call)
    (wanted : List TreeNode → Result A DiskError) (a b : Past)
    → (step : OneStep result call wanted a b)
    → LeavesBy path call step.answer → LeavesNumbers path a b
step_leaves path result call wanted a b step leaves = record {
  longer = record { same_first = step.same_first; more = _; journal = step.journal };
  leaves = λ past on mark from to own.
      let m = step_mark result call wanted a b past step on in
      let is : mark ≡ m.at = step_only m mark from to own in
      ap (λ (k : ℕ). mh_at path past (k + 1)) is
      ∙ ap (λ (s : State). mh_reads (tree_of s) path) (step_next m)
      ∙ leaves (state_at past m.at) (sturdy_at past m.at)
      ∙ sym (ap (λ (k : ℕ). mh_at path past k) is);
}

-- a refused call that leaves them
pub refused_leaves : {A : Type 0} (path : List ℕ) (why : DiskError) (call : Call)
    (wanted : List TreeNode → Result A DiskError) (a b : Past)
    → ((w : DiskError) (wrote : ℕ) → LeavesBy path call (Refused w wrote))
    → StepBy (Err why) call wanted a b → LeavesNumbers path a b
refused_leaves {A} path why call wanted a b leaves step = by why step
  where
    by_answer : (w v : DiskError) (wrote : ℕ) (step : OneStep {A = A} (Err w) call wanted a b)
        → step.answer ≡ Refused v wrote → LeavesNumbers path a b
    by_answer w v wrote step is = step_leaves path (Err w) call wanted a b step
        (subst (λ (x : Answer). LeavesBy path call x) (sym is) (leaves v wrote))

    by : (w : DiskError) → StepBy {A = A} (Err w) call wanted a b → LeavesNumbers path a b
    by NoMemory same = subst (λ (p : Past). LeavesNumbers path a p) (sym same)
        (looked_leaves path a a (looked_same a))
    by Fault step = by_answer Fault Fault step.answered.0 step step.answered.1
    by Missing step = by_answer Missing Missing 0 step step.answered
    by WrongNode step = by_answer WrongNode WrongNode 0 step step.answered
    by Exists step = by_answer Exists Exists 0 step step.answered
    by (Long size) step = by_answer (Long size) (Long size) 0 step step.answered

-- a refused rename, removal, or what else changes nothing then
pub quiet_leaves : (path : List ℕ) (why : DiskError) (call : Call)
    (wanted : List TreeNode → Result (Unit {0}) DiskError) (a b : Past)
    → ((w : DiskError) (wrote : ℕ) (s : State) → after_entry s (Own call (Refused w wrote)) ≡ s)
    → StepBy (Err why) call wanted a b → LeavesNumbers path a b
quiet_leaves path why call wanted a b quiet step =
    refused_leaves path why call wanted a b
    (λ w wrote s sturdy. ap (λ (t : State). mh_reads (tree_of t) path) (quiet w wrote s)) step

-- Stretches in which messages go.

module _ (purge : Bool) (path : List ℕ) (past : Past) where
  module _ (a b : List ℕ → Option PlainChange) (m k n : ℕ) (low : m ≤ k) (high : k ≤ n)
      (apart : (key : List ℕ) → a key ≢ None → b key ≡ None)
      (first : AwayAt purge path a m k past) (next : AwayAt purge path b k n past) where
    some_is : (key : List ℕ) (change : PlainChange) → a key ≡ Some change → a key ≢ None
    some_is key change is none = none_some change (sym none ∙ is)

    -- the step of a key, by what the first table says of it
    abbrev step_by : Option PlainChange → List ℕ → ℕ
    step_by None key = next.step key
    step_by (Some change) key = first.step key

    from_by : (key : List ℕ) (what : Option PlainChange) → a key ≡ what
        → option_or what (b key) ≢ None → m ≤ step_by what key
    from_by key None is some = omega (arith, low, next.from key some)
    from_by key (Some change) is some = first.from key (some_is key change is)

    to_by : (key : List ℕ) (what : Option PlainChange) → a key ≡ what
        → option_or what (b key) ≢ None → step_by what key < n
    to_by key None is some = next.to key some
    to_by key (Some change) is some =
        omega (arith, high, first.to key (some_is key change is))

    call_by : (key : List ℕ) (what : Option PlainChange) → a key ≡ what
        → option_or what (b key) ≢ None
        → take 1 (drop (step_by what key) past.journal) ≡ Own (call_away purge path key) Done ∷ []
    call_by key None is some = next.by key some
    call_by key (Some change) is some = first.by key (some_is key change is)

    due_before : (mark : ℕ) → mark < k → (key : List ℕ) (what : Option PlainChange)
        → a key ≡ what
        → (if step_by what key == mark then option_or what (b key) else None)
        ≡ (if first.step key == mark then what else None)
    due_before mark before key (Some change) is = refl
    due_before mark before key None is =
        early (b key) (next.step key == mark)
        (λ some. grind (arith, before, next.from key some))
        ∙ sym (early None (first.step key == mark) (λ some. absurd (some refl)))

    due_behind : (mark : ℕ) → k ≤ mark → (key : List ℕ) (what : Option PlainChange)
        → a key ≡ what
        → (if step_by what key == mark then option_or what (b key) else None)
        ≡ (if next.step key == mark then b key else None)
    due_behind mark behind key None is = refl
    due_behind mark behind key (Some change) is =
        early (Some change) (first.step key == mark)
        (λ some. grind (arith, behind, first.to key (some_is key change is)))
        ∙ sym (early (b key) (next.step key == mark)
        (λ some. absurd (some (apart key (some_is key change is)))))

    does_by : (mark : ℕ) → m ≤ mark → mark < n → own_at mark past ≡ true → (t : Bool)
        → nat_lt mark k ≡ t
        → mh_at path past (mark + 1)
        ≡ option_map (wanted Mh (due (λ key. step_by (a key) key) (either a b) mark))
        (mh_at path past mark)
    does_by mark from to own true is =
        first.does mark from (ltb-true mark k is) own
        ∙ sym (same_of Mh (due (λ key. step_by (a key) key) (either a b) mark)
        (due first.step a mark)
        (λ key. due_before mark (ltb-true mark k is) key (a key) refl)
        (mh_at path past mark))
    does_by mark from to own false is =
        next.does mark (not_less mark k is) to own
        ∙ sym (same_of Mh (due (λ key. step_by (a key) key) (either a b) mark)
        (due next.step b mark)
        (λ key. due_behind mark (not_less mark k is) key (a key) refl)
        (mh_at path past mark))

    away_then : AwayAt purge path (either a b) m n past
    away_then = record {
      step = λ key. step_by (a key) key;
      from = λ key some. from_by key (a key) refl some;
      to = λ key some. to_by key (a key) refl some;
      by = λ key some. call_by key (a key) refl some;
      does = λ mark from to own. does_by mark from to own (nat_lt mark k) refl;
    }

-- a table that says the same of each key
away_same : (purge : Bool) (path : List ℕ) (past : Past) (a b : List ℕ → Option PlainChange)
    {m n : ℕ} → ((key : List ℕ) → a key ≡ b key) → AwayAt purge path a m n past
    → AwayAt purge path b m n past
away_same purge path past a b same done = record {
  step = done.step;
  from = λ key some. done.from key (λ none. some (sym (same key) ∙ none));
  to = λ key some. done.to key (λ none. some (sym (same key) ∙ none));
  by = λ key some. done.by key (λ none. some (sym (same key) ∙ none));
  does = λ mark from to own. done.does mark from to own
      ∙ same_of Mh (due done.step a mark) (due done.step b mark)
      (λ key. ap (λ (w : Option PlainChange). if done.step key == mark then w else None)
      (same key)) (mh_at path past mark);
}

pub same_away : (purge : Bool) (path : List ℕ) (a b : List ℕ → Option PlainChange)
    (old new : Past) → ((key : List ℕ) → a key ≡ b key) → Away purge path a old new
    → Away purge path b old new
same_away purge path a b old new same away = record {
  longer = away.longer;
  does = λ past on. away_same purge path past a b same (away.does past on);
}

-- one stretch behind another
pub both_away : (purge : Bool) (path : List ℕ) (a b : List ℕ → Option PlainChange)
    (old mid new : Past) → ((key : List ℕ) → a key ≢ None → b key ≡ None)
    → Away purge path a old mid → Away purge path b mid new
    → Away purge path (either a b) old new
both_away purge path a b old mid new apart first next = record {
  longer = longer_then old mid new first.longer next.longer;
  does = λ past on. away_then purge path past a b (length old.journal) (length mid.journal)
      (length new.journal) (length_longer old mid first.longer)
      (length_longer mid new next.longer) apart
      (first.does past (longer_then mid new past next.longer on)) (next.does past on);
}

-- a stretch that leaves the messages takes none
pub leaves_away : (purge : Bool) (path : List ℕ) (old new : Past) → LeavesNumbers path old new
    → Away purge path nothing_wanted old new
leaves_away purge path old new leaves = record {
  longer = leaves.longer;
  does = λ past on. record {
    step = λ key. 0;
    from = λ key some. absurd (some refl);
    to = λ key some. absurd (some refl);
    by = λ key some. absurd (some refl);
    does = λ mark from to own.
        leaves.leaves past on mark from to own
        ∙ sym (same_of Mh (due (λ key. 0) nothing_wanted mark) (λ key. None)
        (λ key. early None (0 == mark) (λ some. absurd (some refl)))
        (mh_at path past mark) ∙ nothing_of Mh (mh_at path past mark));
  };
}

-- the file of a number went
pub taken_away : (purge : Bool) (path key : List ℕ) (old new : Past) → is_number key ≡ true
    → OneStep (Ok tt) (call_away purge path key) (done_by (call_away purge path key)) old new
    → Away purge path (gone_at key Discards) old new
taken_away purge path key old new number step = record {
  longer = record { same_first = step.same_first; more = _; journal = step.journal };
  does = λ past on. by past on
      (step_mark (Ok tt) (call_away purge path key) (done_by (call_away purge path key)) old new
      past step on);
}
  where
    by : (past : Past) → IsLonger new past
        → StepMark (call_away purge path key) step.answer old new past
        → AwayAt purge path (gone_at key Discards) (length old.journal) (length new.journal) past
    by past on m = record {
      step = λ other. m.at;
      from = λ other some. m.from;
      to = λ other some. omega (arith, m.next);
      by = λ other some. call_is other (bytes_eq other key) refl some;
      does = λ mark from to own. does_at mark (step_only m mark from to own);
    }
      where
        here : take 1 (drop m.at past.journal) ≡ Own (call_away purge path key) Done ∷ []
        here = ap (λ (l : List Entry). take 1 l) m.here
            ∙ ap (λ (a : Answer). Own (call_away purge path key) a ∷ []) step.answered

        call_is : (other : List ℕ) (t : Bool) → bytes_eq other key ≡ t
            → only_discard (if t then Some Discards else None) ≢ None
            → take 1 (drop m.at past.journal) ≡ Own (call_away purge path other) Done ∷ []
        call_is other true is some = here
            ∙ ap (λ (k : List ℕ). Own (call_away purge path k) Done ∷ [])
            (sym (bytes_same other key is))
        call_is other false is some = absurd (some refl)

        does_at : (mark : ℕ) → mark ≡ m.at
            → mh_at path past (mark + 1)
            ≡ option_map (wanted Mh (due (λ other. m.at) (gone_at key Discards) mark))
            (mh_at path past mark)
        does_at mark is =
            ap (λ (k : ℕ). mh_at path past (k + 1)) is
            ∙ ap (λ (s : State). mh_reads (tree_of s) path)
            (step_next m ∙ ap (λ (a : Answer). after_entry (state_at past m.at)
            (Own (call_away purge path key) a)) step.answered)
            ∙ away_takes path key number purge (state_at past m.at) (sturdy_at past m.at)
            ∙ ap (λ (k : ℕ). option_map (wanted Mh (gone_at key Discards)) (mh_at path past k))
            (sym is)
            ∙ sym (same_of Mh (due (λ other. m.at) (gone_at key Discards) mark)
            (gone_at key Discards)
            (λ other. ap (λ (t : Bool). if t then gone_at key Discards other else None)
            (same_mark mark is)) (mh_at path past mark))
          where
            same_mark : (mark : ℕ) → mark ≡ m.at → (m.at == mark) ≡ true
            same_mark mark is = grind (arith, is)
