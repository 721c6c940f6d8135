-- Steps of a call, one behind the other, that do what is wanted of the messages of a Maildir.
use Rattle.std.proofs.Common.{◌≡◌, ◌≢◌, ◌≤◌, ◌<◌, ◌+◌, ◌-◌, ◌==◌, ◌++◌, ◌||◌}
use Rattle.std.proofs.Common.{ℕ}
use Rattle.std.proofs.Common.{zero, suc, Bool, true, false, List, [], ◌∷◌, Option, Some, None}
use Rattle.std.proofs.Common.{option_map, length, take, drop, refl, sym, ◌∙◌, ap, subst, arith}
use Rattle.std.proofs.Common.{nat_lt, if◌then◌else◌, ltb-true}
use Rattle.std.proofs.Math.Seq.{drop-append-add, drop-append_seam, take-add}
use Rattle.std.specs.List.{list_any}
use Rattle.std.specs.Option.{option_or}
use Rattle.mail_base.specs.declared.kind.Kind.TheVariants.{Maildir}
use Rattle.disk_model.specs.Journal.{Entry, Others, Own, Past}
use Rattle.disk_model.specs.State.{State, after_entry, run_entries, state_at, state_of, tree_at}
use Rattle.disk_model.specs.State.{tree_of}
use Rattle.disk_model.proofs.Runs.{run_entries-append}
use Rattle.index_items.specs.Changes.{PlainChange}
use Rattle.folder_core.specs.Maildir.{maildir_reads}
use Rattle.folder_changes.specs.Maildir.{IsSingleNamed, OthersKeepSingle, WorksSingly}
use Rattle.folder_changes.specs.Maildir.{maildir_at}
use Rattle.folder_changes.specs.Wanted.{wanted}
use Rattle.folder_changes.specs.Worked.{due, either, is_others, is_own, nothing_wanted}
use Rattle.folder_changes.specs.Worked.{others_at, own_at}
use Rattle.folder_changes.proofs.StepLemmas.{early, nothing_of, same_of}

true_false : ◌≡◌ {A = Bool} true false → ⊥
true_false e = cc

none_some : (c : PlainChange) → ◌≡◌ {A = Option PlainChange} None (Some c) → ⊥
none_some c e = cc

not_less : (i j : ℕ) → nat_lt i j ≡ false → j ≤ i
not_less i j is = grind (arith, is)

-- Entries at marks.

-- each of these entries is so
abbrev pub Each : (Entry → Type 0) → List Entry → Type 0
Each Is [] = Unit {0}
Each Is (entry ∷ entries) = Is entry × Each Is entries

-- the entry at a place, and that it is so
record EntryAt (Is : Entry → Type 0) (entries : List Entry) (place : ℕ) : Type 0 where
  entry : Entry
  behind : List Entry
  here : drop place entries ≡ entry ∷ behind
  is : Is entry

entry_at : (Is : Entry → Type 0) (front rest : List Entry) (place : ℕ) → Each Is front
    → place < length front → EntryAt Is (front ++ rest) place
entry_at Is [] rest place each low = absurd (omega (arith, low))
entry_at Is (entry ∷ front) rest zero each low =
    record { entry = entry; behind = front ++ rest; here = refl; is = each.0 }
entry_at Is (entry ∷ front) rest (suc place) each low =
    let at = entry_at Is front rest place each.1 (omega (arith, low)) in
    record { entry = at.entry; behind = at.behind; here = at.here; is = at.is }

-- the state behind the entry at a mark
pub next_state : (past : Past) (mark : ℕ) (entry : Entry) (behind : List Entry)
    → drop mark past.journal ≡ entry ∷ behind
    → state_at past (mark + 1) ≡ after_entry (state_at past mark) entry
next_state past mark entry behind here =
    ap (λ (l : List Entry). run_entries l (state_of past.first))
    (take-add mark 1 past.journal
    ∙ ap (λ (l : List Entry). take mark past.journal ++ take 1 l) here)
    ∙ run_entries-append (take mark past.journal) (entry ∷ []) (state_of past.first)

own_here : (past : Past) (mark : ℕ) (entry : Entry) (behind : List Entry)
    → drop mark past.journal ≡ entry ∷ behind → own_at mark past ≡ (is_own entry || false)
own_here past mark entry behind here =
    ap (λ (l : List Entry). list_any is_own (take 1 l)) here

others_here : (past : Past) (mark : ℕ) (entry : Entry) (behind : List Entry)
    → drop mark past.journal ≡ entry ∷ behind → others_at mark past ≡ (is_others entry || false)
others_here past mark entry behind here =
    ap (λ (l : List Entry). list_any is_others (take 1 l)) here

-- Steps behind steps.

module _ (path : List ℕ) (past : Past) where
  module _ (a b : List ℕ → Option PlainChange) (m k n : ℕ) (low : m ≤ k) (high : k ≤ n)
      (apart : (key : List ℕ) → a key ≢ None → b key ≡ None)
      (first : WorksSingly path a m k past) (next : WorksSingly path b k n past) where
    some_is : (key : List ℕ) (change : PlainChange) → a key ≡ Some change → a key ≢ None
    some_is key change is none = none_some change (sym none ∙ is)

    -- the step of a key, by what the first table says of it
    abbrev step_by : Option PlainChange → List ℕ → ℕ
    step_by None key = next.works.step key
    step_by (Some change) key = first.works.step key

    from_by : (key : List ℕ) (what : Option PlainChange) → a key ≡ what
        → option_or what (b key) ≢ None → m ≤ step_by what key
    from_by key None is some = omega (arith, low, next.works.from key some)
    from_by key (Some change) is some = first.works.from key (some_is key change is)

    to_by : (key : List ℕ) (what : Option PlainChange) → a key ≡ what
        → option_or what (b key) ≢ None → step_by what key < n
    to_by key None is some = next.works.to key some
    to_by key (Some change) is some = omega (
      arith,
      high,
      first.works.to key (some_is key change
          is),
    )

    -- what is due before the middle is what is due of the first table
    due_before : (mark : ℕ) → mark < k → (key : List ℕ) (what : Option PlainChange)
        → a key ≡ what
        → (if step_by what key == mark then option_or what (b key) else None)
        ≡ (if first.works.step key == mark then what else None)
    due_before mark before key (Some change) is = refl
    due_before mark before key None is =
        early (b key) (next.works.step key == mark)
        (λ some. grind (arith, before, next.works.from key some))
        ∙ sym (early None (first.works.step key == mark) (λ some. absurd (some refl)))

    -- and from the middle on of the next one
    due_behind : (mark : ℕ) → k ≤ mark → (key : List ℕ) (what : Option PlainChange)
        → a key ≡ what
        → (if step_by what key == mark then option_or what (b key) else None)
        ≡ (if next.works.step key == mark then b key else None)
    due_behind mark behind key None is = refl
    due_behind mark behind key (Some change) is =
        early (Some change) (first.works.step key == mark)
        (λ some. grind (arith, behind, first.works.to key (some_is key change is)))
        ∙ sym (early (b key) (next.works.step key == mark)
        (λ some. absurd (some (apart key (some_is key change is)))))

    does_by : (mark : ℕ) → m ≤ mark → mark < n → own_at mark past ≡ true → (t : Bool)
        → nat_lt mark k ≡ t
        → maildir_at path past (mark + 1)
        ≡ option_map (wanted Maildir (due (λ key. step_by (a key) key) (either a b) mark))
        (maildir_at path past mark)
    does_by mark from to own true is =
        first.works.does mark from (ltb-true mark k is) own
        ∙ sym (same_of Maildir (due (λ key. step_by (a key) key) (either a b) mark)
        (due first.works.step a mark)
        (λ key. due_before mark (ltb-true mark k is) key (a key) refl)
        (maildir_at path past mark))
    does_by mark from to own false is =
        next.works.does mark (not_less mark k is) to own
        ∙ sym (same_of Maildir (due (λ key. step_by (a key) key) (either a b) mark)
        (due next.works.step b mark)
        (λ key. due_behind mark (not_less mark k is) key (a key) refl)
        (maildir_at path past mark))

    single_by : (mark : ℕ) → m ≤ mark → mark ≤ n → (t : Bool) → nat_lt mark k ≡ t
        → IsSingleNamed path (tree_at past mark)
    single_by mark from to true is = first.single mark from (omega (arith, ltb-true mark k is))
    single_by mark from to false is = next.single mark (not_less mark k is) to

    -- steps behind steps do what both do
    pub works_then : WorksSingly path (either a b) m n past
    works_then = record {
      works = record {
        step = λ key. step_by (a key) key;
        from = λ key some. from_by key (a key) refl some;
        to = λ key some. to_by key (a key) refl some;
        does = λ mark from to own. does_by mark from to own (nat_lt mark k) refl;
      };
      single = λ mark from to. single_by mark from to (nat_lt mark k) refl;
    }

-- a table that says the same of each key
pub works_same : (path : List ℕ) (past : Past) (a b : List ℕ → Option PlainChange) {m n : ℕ}
    → ((key : List ℕ) → a key ≡ b key) → WorksSingly path a m n past → WorksSingly path b m n past
works_same path past a b same done = record {
  works = record {
    step = done.works.step;
    from = λ key some. done.works.from key (λ none. some (sym (same key) ∙ none));
    to = λ key some. done.works.to key (λ none. some (sym (same key) ∙ none));
    does = λ mark from to own. done.works.does mark from to own
        ∙ same_of Maildir (due done.works.step a mark) (due done.works.step b mark)
        (λ key. ap (λ (w : Option PlainChange). if done.works.step key == mark then w else None)
        (same key)) (maildir_at path past mark);
  };
  single = done.single;
}

-- Segments of a journal in which the messages stay.

-- an own entry leaves the messages as they are
abbrev pub LeavesMessages : List ℕ → Entry → Type 0
LeavesMessages path entry = (state : State) → is_own entry ≡ true
    → IsSingleNamed path (tree_of state)
    → IsSingleNamed path (tree_of (after_entry state entry))
    × (maildir_reads (tree_of (after_entry state entry)) path ≡ maildir_reads (tree_of state) path)

module _ (path : List ℕ) (past : Past) (before front rest : List Entry)
    (journal : past.journal ≡ before ++ (front ++ rest)) where
  dropped : (place : ℕ) → drop (length before + place) past.journal ≡ drop place (front ++ rest)
  dropped place = ap (drop (length before + place)) journal
      ∙ drop-append-add before (front ++ rest) place

  module _ (leaves : Each (LeavesMessages path) front)
      (single : IsSingleNamed path (tree_at past (length before)))
      (others : OthersKeepSingle path (length before) (length before + length front) past) where
    single_at : (place : ℕ) → place ≤ length front
        → IsSingleNamed path (tree_at past (length before + place))
    single_at zero low = subst (λ (i : ℕ). IsSingleNamed path (tree_at past i)) no_more single
      where
        no_more : length before ≡ length before + 0
        no_more = omega arith
    single_at (suc place) low =
        let at = entry_at (LeavesMessages path) front rest place leaves (omega (arith, low)) in
        let here = dropped place ∙ at.here in
        subst (λ (i : ℕ). IsSingleNamed path (tree_at past i)) one_more
        (by at.entry at.behind here at.is (is_own at.entry) refl
        (single_at place (omega (arith, low))))
      where
        one_more : length before + place + 1 ≡ length before + suc place
        one_more = omega arith

        not_own : (entry : Entry) → is_own entry ≡ false → (is_others entry || false) ≡ true
        not_own (Own call answer) is = absurd (true_false is)
        not_own (Others action) is = refl

        by : (entry : Entry) (behind : List Entry)
            → drop (length before + place) past.journal ≡ entry ∷ behind
            → LeavesMessages path entry → (own : Bool) → is_own entry ≡ own
            → IsSingleNamed path (tree_at past (length before + place))
            → IsSingleNamed path (tree_at past (length before + place + 1))
        by entry behind here is true own was =
            subst (λ (state : State). IsSingleNamed path (tree_of state))
            (sym (next_state past (length before + place) entry behind here))
            (is (state_at past (length before + place)) own was).0
        by entry behind here is false own was =
            others (length before + place) (omega arith) (omega (arith, low))
            (others_here past (length before + place) entry behind here ∙ not_own entry own)

    stays_at : (place : ℕ) → place < length front
        → own_at (length before + place) past ≡ true
        → maildir_at path past (length before + place + 1)
        ≡ maildir_at path past (length before + place)
    stays_at place low own =
        let at = entry_at (LeavesMessages path) front rest place leaves low in
        let here = dropped place ∙ at.here in
        ap (λ (state : State). maildir_reads (tree_of state) path)
        (next_state past (length before + place) at.entry at.behind here)
        ∙ (at.is (state_at past (length before + place))
        (own_true (is_own at.entry)
        (sym (own_here past (length before + place) at.entry at.behind here) ∙ own))
        (single_at place (omega (arith, low)))).1
      where
        own_true : (b : Bool) → (b || false) ≡ true → b ≡ true
        own_true true is = refl
        own_true false is = absurd (true_false (sym is))

    pub stay : WorksSingly path nothing_wanted (length before) (length before + length front) past
    stay = record {
      works = record {
        step = λ key. length before;
        from = λ key some. absurd (some refl);
        to = λ key some. absurd (some refl);
        does = λ mark from to own. by_place mark (mark - length before) (omega (arith, from)) to
            own;
      };
      single = λ mark from to. subst (λ (i : ℕ). IsSingleNamed path (tree_at past i))
          (place_is mark from) (single_at (mark - length before) (omega (arith, from, to)));
    }
      where
        place_is : (mark : ℕ) → length before ≤ mark
            → length before + (mark - length before) ≡ mark
        place_is mark from = omega (arith, from)

        by_place : (mark place : ℕ) → mark ≡ length before + place
            → mark < length before + length front → own_at mark past ≡ true
            → maildir_at path past (mark + 1)
            ≡ option_map (wanted Maildir (due (λ key. length before) nothing_wanted mark))
            (maildir_at path past mark)
        by_place mark place is to own =
            ap (λ (i : ℕ). maildir_at path past (i + 1)) is
            ∙ stays_at place (omega (arith, is, to))
            (sym (ap (λ (i : ℕ). own_at i past) is) ∙ own)
            ∙ sym (ap (λ (i : ℕ). maildir_at path past i) is)
            ∙ sym (same_of Maildir (due (λ key. length before) nothing_wanted mark)
            (λ key. None)
            (λ key. early None (length before == mark) (λ some. absurd (some refl)))
            (maildir_at path past mark) ∙ nothing_of Maildir (maildir_at path past mark))

-- One entry of our own that does what is wanted.

pub one_work : (path : List ℕ) (what : List ℕ → Option PlainChange) (past : Past)
    (before rest : List Entry) (entry : Entry) → past.journal ≡ before ++ entry ∷ rest
    → IsSingleNamed path (tree_at past (length before))
    → IsSingleNamed path (tree_of (after_entry (state_at past (length before)) entry))
    → maildir_reads (tree_of (after_entry (state_at past (length before)) entry)) path
    ≡ option_map (wanted Maildir what) (maildir_at path past (length before))
    → WorksSingly path what (length before) (length before + 1) past
one_work path what past before rest entry journal single then_single does = record {
  works = record {
    step = λ key. length before;
    from = λ key some. omega arith;
    to = λ key some. omega arith;
    does = λ mark from to own. does_at mark (omega (arith, from, to));
  };
  single = λ mark from to. single_by mark from to (nat_lt (length before) mark) refl;
}
  where
    here : drop (length before) past.journal ≡ entry ∷ rest
    here = ap (drop (length before)) journal ∙ drop-append_seam before (entry ∷ rest)

    next : state_at past (length before + 1) ≡ after_entry (state_at past (length before)) entry
    next = next_state past (length before) entry rest here

    does_at : (mark : ℕ) → mark ≡ length before
        → maildir_at path past (mark + 1)
        ≡ option_map (wanted Maildir (due (λ key. length before) what mark))
        (maildir_at path past mark)
    does_at mark is =
        ap (λ (i : ℕ). maildir_at path past (i + 1)) is
        ∙ ap (λ (state : State). maildir_reads (tree_of state) path) next
        ∙ does
        ∙ ap (λ (i : ℕ). option_map (wanted Maildir what) (maildir_at path past i)) (sym is)
        ∙ sym (same_of Maildir (due (λ key. length before) what mark) what
        (λ key. ap (λ (t : Bool). if t then what key else None) (same_mark mark is))
        (maildir_at path past mark))
      where
        same_mark : (mark : ℕ) → mark ≡ length before → (length before == mark) ≡ true
        same_mark mark is = grind (arith, is)

    single_by : (mark : ℕ) → length before ≤ mark → mark ≤ length before + 1 → (t : Bool)
        → nat_lt (length before) mark ≡ t → IsSingleNamed path (tree_at past mark)
    single_by mark from to true is =
        subst (λ (i : ℕ). IsSingleNamed path (tree_at past i)) (last mark to is)
        (subst (λ (state : State). IsSingleNamed path (tree_of state)) (sym next) then_single)
      where
        last : (mark : ℕ) → mark ≤ length before + 1 → nat_lt (length before) mark ≡ true
            → length before + 1 ≡ mark
        last mark to is = omega (arith, to, ltb-true (length before) mark is)
    single_by mark from to false is =
        subst (λ (i : ℕ). IsSingleNamed path (tree_at past i)) (first mark from is) single
      where
        first : (mark : ℕ) → length before ≤ mark → nat_lt (length before) mark ≡ false
            → length before ≡ mark
        first mark from is = omega (arith, from, not_less (length before) mark is)
