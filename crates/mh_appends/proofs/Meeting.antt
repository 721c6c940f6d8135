-- What the listing of the folder has met, and what others put there behind it.
use Rattle.std.proofs.Common.{◌≡◌, ◌≤◌, ◌<◌, ◌==◌, ◌||◌, ◌∷◌, ◌++◌, ◌∙◌, [], ℕ, zero, suc, Bool}
use Rattle.std.proofs.Common.{true, false, List, Option, Some, None, Ok, Err, ap, arith}
use Rattle.std.proofs.Common.{drop, if◌then◌else◌, inl, inr, is_none, is_some, length, max}
use Rattle.std.proofs.Common.{refl, subst, sym, take}
use Rattle.std.proofs.lemmas.Bool.Decides.{nat_tests}
use Rattle.std.specs.Fmt.{decimal}
use Rattle.std.specs.Str.{bytes_eq}
use Rattle.std.specs.String.{string_bytes}
use Rattle.disk_model.specs.Journal.{Create, Entry, ListDir, Own, Past}
use Rattle.disk_model.specs.Judge.{GoesOn, Grows, IsLonger, MakesStep, StepBy, done_by, list_of}
use Rattle.disk_model.specs.Looking.{LooksOnly}
use Rattle.disk_model.specs.Refusals.{below_refusal, first_refusal, free_refusal, refusal}
use Rattle.disk_model.specs.Seen.{Seen}
use Rattle.disk_model.specs.State.{tree_at}
use Rattle.disk_model.specs.Tree.{TreeNode, folder_of, node_at}
use Rattle.disk_model.specs.declared.answers.DiskError.TheVariants as disk
use Rattle.disk_model.proofs.Looking.{called_grows}
use Rattle.disk_model.proofs.Marks.{length_longer, tree_at-longer}
use Rattle.disk_model.proofs.Trees.{bytes_same}
use Rattle.folder_core.specs.Directory.{is_name}
use Rattle.folder_core.specs.Looked.{SawAt}
use Rattle.folder_core.specs.Mh.{number_at}
use Rattle.folder_core.proofs.KindsLemmas.{number_is_name}
use Rattle.folder_core.proofs.LookedLemmas.{list_tells, looked_ok}
use Rattle.folder_core.proofs.NamesIn.{holds_name, name_held}
use Rattle.folder_changes.specs.Refused.{IsBetween}
use Rattle.folder_changes.specs.Serving.{IsErrorAt}
use Rattle.folder_changes.specs.declared.sync_error.Spot.TheVariants.{At as PlaceAt, Name}
use Rattle.folder_changes.specs.declared.sync_error.SyncError.{SyncError}
use Rattle.folder_changes.specs.declared.sync_error.SyncError.TheVariants.{Changed, Fault, Locked}
use Rattle.folder_changes.specs.declared.sync_error.SyncError.TheVariants.{NoMemory, NotFolder}
use Rattle.folder_changes.specs.declared.sync_error.SyncError.TheVariants.{TooLarge, TooMany}
use Rattle.folder_changes.specs.declared.sync_error.SyncError.TheVariants.{Unfinished}
use Rattle.folder_changes.proofs.TraceLemmas.{Traced, met_refusal, traced_back, traced_here}
use Rattle.folder_drivers.specs.MaildirAppend.{is_there}
use Rattle.folder_drivers.specs.MhAppend.{IsNextNumber, MhAppendRefused, WasPut, has_number}
use Rattle.folder_drivers.specs.MhAppend.{highest_number, number_path}
use Rattle.folder_stops.specs.Along.{Grown, Onward}
use Rattle.folder_stops.specs.Does.{AllOwn}
use Rattle.mh_appends.specs.Placing.{AreChosen, IsPlaced, MetListing}
use Rattle.mh_appends.specs.Putting.{InWay}
use Rattle.mh_appends.specs.declared.places.Places.{Places}
use Rattle.mh_appends.proofs.Tracing.{Hushes, goes_behind, not_ours}

true_false : ◌≡◌ {A = Bool} true false → ⊥
true_false e = cc

-- What was listed.

pub met_listing : (path : List ℕ) {names : List (List ℕ)} {old new : Seen}
    → MakesStep (Ok names) (ListDir path) (λ tree. list_of tree path) 0 old new
    → LooksOnly old.told new.told → MetListing path names old.told new.told
met_listing path {names} step looks =
    (looked_ok {Tells = λ (given : List (List ℕ)) (tree : List TreeNode).
    Ok given ≡ list_of tree path} names names step looks (λ tree told. told)).saw

first_entry : (mark : ℕ) (entry : Entry) (entries more : List Entry)
    → take 1 (drop mark entries) ≡ entry ∷ [] → take 1 (drop mark (entries ++ more)) ≡ entry ∷ []
first_entry zero entry [] more is = absurd (cc)
first_entry zero entry (first ∷ entries) more is = is
first_entry (suc mark) entry [] more is = absurd (cc)
first_entry (suc mark) entry (first ∷ entries) more is = first_entry mark entry entries more is

own_longer : (mark : ℕ) (entry : Entry) (old new : Past) → IsLonger old new
    → take 1 (drop mark old.journal) ≡ entry ∷ [] → take 1 (drop mark new.journal) ≡ entry ∷ []
own_longer mark entry old new on is =
    ap (λ (l : List Entry). take 1 (drop mark l)) on.journal
    ∙ first_entry mark entry old.journal on.more is

module _ (path : List ℕ) (names : List (List ℕ)) where
  saw_longer : (p q r : Past)
      → SawAt (ListDir path) (λ tree. Ok names ≡ list_of tree path) p q → IsLonger q r
      → SawAt (ListDir path) (λ tree. Ok names ≡ list_of tree path) p r
  saw_longer p q r saw on = record {
    mark = saw.mark;
    from = saw.from;
    to = omega (arith, saw.to, length_longer q r on);
    answer = saw.answer;
    own = own_longer saw.mark (Own (ListDir path) saw.answer) q r on saw.own;
    tells = subst (λ (tree : List TreeNode). Ok names ≡ list_of tree path)
        (sym (tree_at-longer q r saw.mark on saw.to)) saw.tells;
  }

  -- whatever comes behind
  pub met_longer : (a b c : Option Past) → MetListing path names a b → Grows b c
      → MetListing path names a c
  met_longer a b c met on = goes_behind a b c saw_longer met on

-- A number that no name has.

other_number : (names : List (List ℕ)) (number : ℕ) → highest_number names < number
    → has_number names number ≡ false
other_number [] number above = refl
other_number (name ∷ names) number above =
    by (number_at name == number) refl
    (other_number names number (omega (arith, above, right)))
  where
    right : highest_number names ≤ max (number_at name) (highest_number names)
    right = grind arith

    differs : (number_at name == number) ≡ true → ⊥
    differs same = grind (arith, nat_tests, above, same)

    by : (t : Bool) → (number_at name == number) ≡ t → has_number names number ≡ false
        → (t || has_number names number) ≡ false
    by true same none = absurd (differs same)
    by false same none = none

next_free : (names : List (List ℕ)) (number : ℕ) → IsNextNumber names number
    → has_number names number ≡ false
next_free names number (inl above) =
    other_number names number (omega (arith, above.1))
next_free names number (inr least) = least.1.free

named_number : (number : ℕ) (name : List ℕ) (names : List (List ℕ)) → number_at name ≡ number
    → holds_name name names ≡ true → has_number names number ≡ true
named_number number name [] order held = absurd (true_false (sym held))
named_number number name (other ∷ names) order held =
    by (bytes_eq other name) refl held (λ rest. named_number number name names order rest)
  where
    is_number_at : number_at other ≡ number → (number_at other == number) ≡ true
    is_number_at is = grind (arith, nat_tests, is)

    left : (a b : Bool) → a ≡ true → (a || b) ≡ true
    left true b is = refl
    left false b is = absurd (cc)

    right : (a b : Bool) → b ≡ true → (a || b) ≡ true
    right true b is = refl
    right false b is = is

    by : (t : Bool) → bytes_eq other name ≡ t → (t || holds_name name names) ≡ true
        → (holds_name name names ≡ true → has_number names number ≡ true)
        → ((number_at other == number) || has_number names number) ≡ true
    by true same held again = left _ _ (is_number_at (ap number_at (bytes_same other name same)
        ∙ order))
    by false same held again = right _ _ (again held)

-- nothing stands under it where the names are those of the folder
free_number : (path : List ℕ) (names : List (List ℕ)) (number : ℕ) (tree : List TreeNode)
    → is_name (decimal number) ≡ true → number_at (decimal number) ≡ number
    → IsNextNumber names number → Ok names ≡ list_of tree path
    → is_there (number_path path number) tree ≡ false
free_number path names number tree named order next met =
    by (is_there (number_path path number) tree) refl
  where
    by : (t : Bool) → is_there (number_path path number) tree ≡ t → t ≡ false
    by false there = refl
    by true there = absurd (true_false (sym (named_number number (decimal number) names order
        (ap (holds_name (decimal number)) (list_tells tree path names met).1
        ∙ name_held tree path (decimal number) named there)) ∙ next_free names number next))

-- What stood in the way.

way_there : (name : List ℕ) (tree : List TreeNode) → refusal (Create name) tree ≡ Some disk.Exists
    → is_there name tree ≡ true
way_there name tree is = by (node_at tree (folder_of name)) (node_at tree name) is
  where
    at_free : (at : Option TreeNode) → free_refusal at ≡ Some disk.Exists → is_some at ≡ true
    at_free None e = absurd (cc)
    at_free (Some node) e = refl

    by_below : (folder : Bool) (at : Option TreeNode)
        → first_refusal (if folder then None else Some disk.Missing) (free_refusal at)
        ≡ Some disk.Exists → is_some at ≡ true
    by_below true at e = at_free at e
    by_below false at e = absurd (cc)

    by : (below at : Option TreeNode)
        → first_refusal (below_refusal below) (free_refusal at) ≡ Some disk.Exists
        → is_some at ≡ true
    by None at e = absurd (cc)
    by (Some node) at e = by_below (is_none node.bytes) at e

module _ (path core : List ℕ) (places : Places) (is : IsPlaced path places core) where
  abbrev held_at : List ℕ
  held_at = string_bytes places.held

  pub held_free : (names : List (List ℕ)) (tree : List TreeNode) → IsNextNumber names places.number
      → Ok names ≡ list_of tree path → is_there held_at tree ≡ false
  held_free names tree next met =
      ap (λ (p : List ℕ). is_there p tree) is.of.held
      ∙ free_number path names places.number tree
      (number_is_name (decimal places.number) is.numbered) is.order next met

  -- others put a file there
  was_put : (names : List (List ℕ)) (next : IsNextNumber names places.number) (p q r : Past)
      → Onward (λ s es. AllOwn (Hushes (is_there held_at)) es) p q
      → SawAt (ListDir path) (λ tree. Ok names ≡ list_of tree path) p q
      → StepBy {A = Unit {0}} (Err disk.Exists) (Create held_at) (done_by (Create held_at)) q r
      → WasPut path held_at (length p.journal) (length r.journal) r
  was_put names next p q r hushed saw step =
      let on = called_grows {A = Unit {0}} (Err disk.Exists) (Create held_at)
      (done_by (Create held_at)) (Some q) (Some r) step in
      let met = met_refusal disk.Exists (Create held_at) q r tt step in
      let traced : Traced (is_there held_at) saw.mark (length r.journal) met.mark r =
      traced_back (is_there held_at) (length r.journal) met.mark r saw.mark (length q.journal)
      saw.to
      (λ x from to. not_ours (is_there held_at) p q r hushed on x (omega (arith, from, saw.from))
      to)
      (traced_back (is_there held_at) (length r.journal) met.mark r (length q.journal) met.mark
      met.from (met.others (is_there held_at))
      (traced_here (is_there held_at) met.mark (length r.journal) r met.to
      (way_there held_at (tree_at r met.mark) met.met))) in
      let listed : Ok names ≡ list_of (tree_at r saw.mark) path =
      subst (λ (tree : List TreeNode). Ok names ≡ list_of tree path)
      (sym (tree_at-longer q r saw.mark on saw.to)) saw.tells in
      record {
        names = names;
        number = places.number;
        next = next;
        named = is.of.held;
        listed = saw.mark;
        from = saw.from;
        answer = saw.answer;
        call = own_longer saw.mark (Own (ListDir path) saw.answer) q r on saw.own;
        met = listed;
        free = held_free names (tree_at r saw.mark) next listed;
        put = traced.cause;
        refused = ap (λ (i : ℕ). take 1 (drop i r.journal)) traced.same ∙ met.own;
      }

  by_told : (told : SyncError) → IsErrorAt held_at told → (m n : ℕ) (past : Past)
      → WasPut path held_at m n past → MhAppendRefused path told m n past
  by_told (Changed (Name name)) at m n past was =
      subst (λ (p : List ℕ). WasPut path p m n past) (sym at) was
  by_told (Changed (PlaceAt place)) at m n past was = at
  by_told Locked at m n past was = at
  by_told Unfinished at m n past was = at
  by_told (TooMany count) at m n past was = at
  by_told (TooLarge bytes) at m n past was = at
  by_told Fault at m n past was = tt
  by_told NoMemory at m n past was = tt
  by_told NotFolder at m n past was = absurd at

  pub in_way : (told : SyncError) (old mid new : Option Past)
      → Grown old mid (λ s es. AllOwn (Hushes (is_there held_at)) es)
      → AreChosen path old mid places → InWay places told mid new
      → IsBetween (MhAppendRefused path told) old new
  in_way told old mid new hushed chosen way =
      by old mid new hushed chosen.met way.fails.goes
    where
      by : (a b c : Option Past) → Grown a b (λ s es. AllOwn (Hushes (is_there held_at)) es)
          → MetListing path chosen.names a b
          → GoesOn (StepBy {A = Unit {0}} (Err disk.Exists) (Create held_at)
          (done_by (Create held_at))) b c
          → IsBetween (MhAppendRefused path told) a c
      by None b c hush saw step = tt
      by (Some p) None c hush saw step = absurd hush
      by (Some p) (Some q) None hush saw step = tt
      by (Some p) (Some q) (Some r) hush saw step =
          by_told told way.at (length p.journal) (length r.journal) r
          (was_put chosen.names chosen.next p q r hush saw step)
