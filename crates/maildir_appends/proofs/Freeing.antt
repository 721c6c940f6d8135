-- Where nothing stood as an append looked, and what stood there later.
use Rattle.std.proofs.Common.{◌≡◌, ◌||◌, ◌∷◌, ◌++◌, ◌∙◌, ℕ, zero, suc, Bool, true, false, List, []}
use Rattle.std.proofs.Common.{Option, Some, None, Ok, Err, ap, arith, codes, drop, is_some}
use Rattle.std.proofs.Common.{length, map, refl, subst, sym, take, if◌then◌else◌, not}
use Rattle.std.proofs.lemmas.Bool.{and_parts, or_left, or_right}
use Rattle.std.proofs.lemmas.Slice.Eq.{bytes_eq-Decides}
use Rattle.std.specs.Prelude.{◌&&◌, IfErr, IfOk, IfSome, Result}
use Rattle.std.specs.Result.{IsErrAnd}
use Rattle.std.specs.Str.{bytes_eq, is_utf8}
use Rattle.mail_base.specs.Series.{Held}
use Rattle.disk_model.specs.Journal.{Call, Create, Entry, ListDir, Own, Past}
use Rattle.disk_model.specs.Judge.{GoesOn, Grows, IsLonger, MakesStep, StepBy, done_by, list_of}
use Rattle.disk_model.specs.Lawful.{IsLawful}
use Rattle.disk_model.specs.Looking.{LooksOnly}
use Rattle.disk_model.specs.Refusals.{below_refusal, first_refusal, free_refusal, refusal}
use Rattle.disk_model.specs.Seen.{Seen}
use Rattle.disk_model.specs.State.{tree_at}
use Rattle.disk_model.specs.Tree.{TreeNode, are_distinct, are_placed, folder_of, is_folder_node}
use Rattle.disk_model.specs.Tree.{is_placed, is_root, is_tree, node_at, node_in}
use Rattle.disk_model.specs.declared.answers.DiskError.{DiskError}
use Rattle.disk_model.specs.declared.answers.DiskError.TheVariants.{Exists, Missing}
use Rattle.disk_model.proofs.LawsOfTrees.{each_mark_has_a_tree}
use Rattle.disk_model.proofs.Marks.{length_longer, tree_at-longer}
use Rattle.disk_model.proofs.Trees.{bytes_same}
use Rattle.folder_letters.specs.declared.letter.Letter.{Letter}
use Rattle.folder_core.specs.Directory.{path_in}
use Rattle.folder_core.specs.Looked.{SawAt}
use Rattle.folder_core.specs.MaildirNames.{split_name}
use Rattle.folder_core.proofs.LookedLemmas.{list_missing, list_tells, looked_err, looked_ok}
use Rattle.folder_core.proofs.NamesIn.{holds_name, name_held, path_is_in}
use Rattle.folder_core.proofs.SeenLemmas.{goes_as}
use Rattle.folder_changes.specs.Calls.{GoesBy}
use Rattle.folder_changes.specs.Refused.{IsBetween}
use Rattle.folder_changes.specs.Serving.{IsErrorAt}
use Rattle.folder_changes.specs.declared.sync_error.Spot.TheVariants.{At, Name}
use Rattle.folder_changes.specs.declared.sync_error.SyncError.{SyncError}
use Rattle.folder_changes.specs.declared.sync_error.SyncError.TheVariants.{Changed, Fault, Locked}
use Rattle.folder_changes.specs.declared.sync_error.SyncError.TheVariants.{NoMemory, NotFolder}
use Rattle.folder_changes.specs.declared.sync_error.SyncError.TheVariants.{TooLarge, TooMany}
use Rattle.folder_changes.specs.declared.sync_error.SyncError.TheVariants.{Unfinished}
use Rattle.folder_changes.proofs.TraceLemmas.{IsUnmade, between_call, calls_not_ours, met_refusal}
use Rattle.folder_changes.proofs.TraceLemmas.{met_traced, traced_back}
use Rattle.folder_drivers.specs.MaildirAppend.{IsBase, MaildirAppendRefused, WasPut, beside_at}
use Rattle.folder_drivers.specs.MaildirAppend.{has_base, has_key, is_there}
use Rattle.folder_drivers.specs.Refusing.{IsMake}
use Rattle.maildir_appends.specs.Causes.{IsFreeFor, IsMakeIn, MeetsFree, MeetsNone}
use Rattle.maildir_appends.specs.Causes.{WasInWay}
use Rattle.maildir_appends.specs.Taken.{is_taken, letter_keys}
use Rattle.folder_drivers.specs.MetNames.{plain_names}
use Rattle.maildir_appends.specs.declared.listing.Present.{Present}
use Rattle.maildir_appends.proofs.Naming.{base_shown, base_split}

true_false : ◌≡◌ {A = Bool} true false → ⊥
true_false e = cc

-- A base that no name has.

base_held : (base : List ℕ) (names : List (List ℕ)) → IsBase base → holds_name base names ≡ true
    → has_base names base ≡ true
base_held base [] is held = absurd (true_false (sym held))
base_held base (name ∷ names) is held =
    by (bytes_eq name base) refl held (λ rest. base_held base names is rest)
  where
    by : (t : Bool) → bytes_eq name base ≡ t → (t || holds_name base names) ≡ true
        → (holds_name base names ≡ true → has_base names base ≡ true)
        → (bytes_eq (split_name name).0 base || has_base names base) ≡ true
    by true same held again = or_left _ _ ((bytes_eq-Decides (split_name name).0 base).1
        (ap (λ (n : List ℕ). (split_name n).0) (bytes_same name base same) ∙ base_split base is))
    by false same held again = or_right _ _ (again held)

-- nothing stands there that the names do not have
free_in : (dir : List ℕ) (names : List (List ℕ)) (tree : List TreeNode)
    → Ok names ≡ list_of tree dir → IsFreeFor dir names tree
free_in dir names tree is base is_base free = by (is_there (path_in dir base) tree) refl
  where
    by : (t : Bool) → is_there (path_in dir base) tree ≡ t → t ≡ false
    by false there = refl
    by true there = absurd (true_false (sym (base_held base names is_base
        (ap (holds_name base) (list_tells tree dir names is).1
        ∙ name_held tree dir base (and_parts _ _ (base_shown base is_base)).0 there)) ∙ free))

-- a node of a tree stands in a folder
found_placed : (tree : List TreeNode) (path : List ℕ) (nodes : List TreeNode)
    → are_placed tree nodes ≡ true → is_some (node_in nodes path) ≡ true
    → is_folder_node (node_at tree (folder_of path)) ≡ true
found_placed tree path [] placed some = absurd (true_false (sym some))
found_placed tree path (node ∷ nodes) placed some =
    let parts = and_parts (is_placed tree node.path) (are_placed tree nodes) placed in
    by (bytes_eq node.path path) refl some
    (and_parts (not (is_root node.path) && is_utf8 node.path)
    (is_folder_node (node_at tree (folder_of node.path))) parts.0).1
    (λ rest. found_placed tree path nodes parts.1 rest)
  where
    by : (t : Bool) → bytes_eq node.path path ≡ t
        → is_some (if t then Some node else node_in nodes path) ≡ true
        → is_folder_node (node_at tree (folder_of node.path)) ≡ true
        → (is_some (node_in nodes path) ≡ true
        → is_folder_node (node_at tree (folder_of path)) ≡ true)
        → is_folder_node (node_at tree (folder_of path)) ≡ true
    by true same some folder again =
        ap (λ (p : List ℕ). is_folder_node (node_at tree (folder_of p)))
        (sym (bytes_same node.path path same)) ∙ folder
    by false same some folder again = again some

-- in a directory that is not there nothing stands
free_missing : (dir : List ℕ) (tree : List TreeNode) → is_tree tree ≡ true
    → node_at tree dir ≡ None → IsFreeFor dir [] tree
free_missing dir tree is none base is_base free = by (is_there (path_in dir base) tree) refl
  where
    at : folder_of (path_in dir base) ≡ dir
    at = (path_is_in dir base (and_parts _ _ (base_shown base is_base)).0).folder

    found : (root : Bool) (node : TreeNode) → root ≡ false
        → is_some (if root then Some node else node_in tree (path_in dir base)) ≡ true
        → is_some (node_in tree (path_in dir base)) ≡ true
    found true node root there = absurd (true_false root)
    found false node root there = there

    by : (t : Bool) → is_there (path_in dir base) tree ≡ t → t ≡ false
    by false there = refl
    by true there = absurd (true_false (sym
        (found_placed tree (path_in dir base) tree (and_parts (are_distinct tree)
        (are_placed tree tree) is).1
        (found (is_root (path_in dir base)) _
        (path_is_in dir base (and_parts _ _ (base_shown base is_base)).0).no_root there))
        ∙ ap (λ (p : List ℕ). is_folder_node (node_at tree p)) at ∙ ap is_folder_node none))

-- What was listed.

pub meets_listed : {names : List (List ℕ)} {old new : Seen} (dir path : List ℕ) → path ≡ dir
    → MakesStep (Ok names) (ListDir path) (λ tree. list_of tree path) 0 old new
    → LooksOnly old.told new.told → MeetsFree dir names old.told new.told
meets_listed {names} {old} {new} dir path is step looks =
    subst (λ (d : List ℕ). MeetsFree d names old.told new.told) is
    (looked_ok {Tells = λ (given : List (List ℕ)) (tree : List TreeNode). IsFreeFor path given tree}
    names names step looks (λ tree told. free_in path names tree told)).saw

-- a directory that was missing
missing_by : (dir : List ℕ) (marks : ℕ) (a b : Option Past) → IfSome b (IsLawful marks)
    → GoesOn (SawAt (ListDir dir) (λ tree. node_at tree dir ≡ None)) a b → MeetsFree dir [] a b
missing_by dir marks None b lawful saw = saw
missing_by dir marks (Some p) None lawful saw = absurd saw
missing_by dir marks (Some p) (Some q) lawful saw = record {
  mark = saw.mark;
  from = saw.from;
  to = saw.to;
  answer = saw.answer;
  own = saw.own;
  tells = free_missing dir (tree_at q saw.mark) (each_mark_has_a_tree q marks saw.mark lawful)
      saw.tells;
}

pub meets_missing : {old new : Seen} (dir path : List ℕ) (why : DiskError) (marks : ℕ)
    → path ≡ dir → why ≡ Missing
    → MakesStep {A = List (List ℕ)} (Err why) (ListDir path) (λ tree. list_of tree path) 0 old new
    → LooksOnly old.told new.told → IfSome new.told (IsLawful marks)
    → MeetsFree dir [] old.told new.told
meets_missing {old} {new} dir path why marks is missing step looks lawful =
    subst (λ (d : List ℕ). MeetsFree d [] old.told new.told) is
    (missing_by path marks old.told new.told lawful
    (looked_err {R = List (List ℕ)} {Tells = λ (given : Unit {0}) (tree : List TreeNode).
    node_at tree path ≡ None} tt why Missing missing refl step looks
    (λ tree told. list_missing tree path told)).saw)

-- What was seen, while the past goes on.

first_entry : (mark : ℕ) (entry : Entry) (entries more : List Entry)
    → take 1 (drop mark entries) ≡ entry ∷ [] → take 1 (drop mark (entries ++ more)) ≡ entry ∷ []
first_entry zero entry [] more is = absurd (cc)
first_entry zero entry (first ∷ entries) more is = is
first_entry (suc mark) entry [] more is = absurd (cc)
first_entry (suc mark) entry (first ∷ entries) more is = first_entry mark entry entries more is

own_longer : (mark : ℕ) (entry : Entry) (old new : Past) → IsLonger old new
    → take 1 (drop mark old.journal) ≡ entry ∷ [] → take 1 (drop mark new.journal) ≡ entry ∷ []
own_longer mark entry old new on is =
    ap (λ (l : List Entry). take 1 (drop mark l)) on.journal
    ∙ first_entry mark entry old.journal on.more is

module _ (call : Call) (Tells : List TreeNode → Type 0) where
  seen_both : (p q r : Past) → IsLonger p q → IsLonger q r → SawAt call Tells q r
      → SawAt call Tells p r
  seen_both p q r first next saw = record {
    mark = saw.mark;
    from = omega (arith, saw.from, length_longer p q first);
    to = saw.to;
    answer = saw.answer;
    own = saw.own;
    tells = saw.tells;
  }

  seen_on : (p q r : Past) → IsLonger q r → SawAt call Tells p q → SawAt call Tells p r
  seen_on p q r on saw = record {
    mark = saw.mark;
    from = saw.from;
    to = omega (arith, saw.to, length_longer q r on);
    answer = saw.answer;
    own = own_longer saw.mark (Own call saw.answer) q r on saw.own;
    tells = subst Tells (sym (tree_at-longer q r saw.mark on saw.to)) saw.tells;
  }

  none_told : (b c : Option Past) → b ≡ None → GoesOn (SawAt call Tells) b c → c ≡ None
  none_told None c is saw = saw
  none_told (Some past) c is saw = absurd (cc)

  none_grown : (b c : Option Past) → b ≡ None → Grows b c → c ≡ None
  none_grown None c is on = on
  none_grown (Some past) c is on = absurd (cc)

  -- behind an earlier part
  pub seen_behind : (a b c : Option Past) → Grows a b → Grows b c → GoesOn (SawAt call Tells) b c
      → GoesOn (SawAt call Tells) a c
  seen_behind None b c first next saw = none_told b c first saw
  seen_behind (Some a) None c first next saw = absurd first
  seen_behind (Some a) (Some b) None first next saw = absurd next
  seen_behind (Some a) (Some b) (Some c) first next saw = seen_both a b c first next saw

  -- before a later one
  pub seen_before : (a b c : Option Past) → Grows b c → GoesOn (SawAt call Tells) a b
      → GoesOn (SawAt call Tells) a c
  seen_before None b c on saw = none_grown b c saw on
  seen_before (Some a) None c on saw = absurd saw
  seen_before (Some a) (Some b) None on saw = absurd on
  seen_before (Some a) (Some b) (Some c) on saw = seen_on a b c on saw

-- a base that is taken by none of them
free_tmp : (a b c d : Bool) → (a || b || c || d) ≡ false → c ≡ false
free_tmp true b c d is = absurd (true_false is)
free_tmp false true c d is = absurd (true_false is)
free_tmp false false true d is = absurd (true_false is)
free_tmp false false false d is = refl

pub meets_none : (path base : List ℕ) (present : Present) (letters : List Letter)
    (old new : Option Past) → IsBase base → is_taken present letters base ≡ false
    → MeetsFree (path_in path (codes "tmp")) (plain_names present.tmp) old new
    → MeetsNone path base old new
meets_none path base present letters old new is_base free meets =
    goes_as old new (λ p q saw. record {
      mark = saw.mark;
      from = saw.from;
      to = saw.to;
      answer = saw.answer;
      own = saw.own;
      tells = saw.tells base is_base (free_tmp (has_base (plain_names present.cur) base)
          (has_base (plain_names present.new) base) (has_base (plain_names present.tmp) base)
          (has_key (letter_keys letters) base) free);
    }) meets

-- calls of ours make a past grow
pub calls_grow : (Is : Call → Type 0) (a b : Option Past) → GoesOn (GoesBy Is) a b → Grows a b
calls_grow Is a b calls =
    goes_as a b (λ p q goes. record {
      same_first = goes.same_first;
      more = goes.more;
      journal = goes.journal;
    }) calls

pub calls_to : (at dir : List ℕ) (a b : Option Past) → at ≡ dir → GoesOn (GoesBy (IsMake at)) a b
    → GoesOn (GoesBy (IsMake dir)) a b
calls_to at dir a b is calls = subst (λ (d : List ℕ). GoesOn (GoesBy (IsMake d)) a b) is calls

-- the directory is made in which nothing was then
pub meets_made : {E : Type 0} (result : Result (Held (Held ℕ)) E) (dir : List ℕ)
    (a b c : Option Past) → IfOk result (λ names. names.items ≡ []) → MeetsFree dir [] a b
    → Grows b c → IfOk result (λ names. MeetsFree dir (plain_names names) a c)
meets_made (Err e) dir a b c none meets on = tt
meets_made (Ok names) dir a b c none meets on =
    subst (λ (l : List (Held ℕ)). MeetsFree dir (map (λ name. name.items) l) a c) (sym none)
    (seen_before (ListDir dir) (IsFreeFor dir []) a b c on meets)

-- What stood in the way.

way_there : (name : List ℕ) (tree : List TreeNode) → refusal (Create name) tree ≡ Some Exists
    → is_there name tree ≡ true
way_there name tree is = by (node_at tree (folder_of name)) (node_at tree name) is
  where
    at_free : (at : Option TreeNode) → free_refusal at ≡ Some Exists → is_some at ≡ true
    at_free None e = absurd (cc)
    at_free (Some node) e = refl

    by_below : (b : Bool) (at : Option TreeNode)
        → first_refusal (if b then None else Some Missing) (free_refusal at) ≡ Some Exists
        → is_some at ≡ true
    by_below true at e = at_free at e
    by_below false at e = absurd (cc)

    by : (below at : Option TreeNode)
        → first_refusal (below_refusal below) (free_refusal at) ≡ Some Exists → is_some at ≡ true
    by None at e = absurd (cc)
    by (Some node) at e = by_below _ at e

-- a file was to be made where something stood
pub in_way : (name : List ℕ) (why : DiskError) (old new : Option Past) → why ≡ Exists
    → GoesOn (StepBy {A = Unit {0}} (Err why) (Create name) (done_by (Create name))) old new
    → IsBetween (WasInWay name) old new
in_way name why old new is step =
    between_call (StepBy {A = Unit {0}} (Err Exists) (Create name) (done_by (Create name)))
    (WasInWay name) old new (λ p q s.
    let met = met_refusal Exists (Create name) p q tt s in
    let traced = met_traced (is_there name) Exists (Create name) p q met (way_there name) in record {
      cause = traced.cause;
      own = ap (λ (i : ℕ). take 1 (drop i q.journal)) traced.same ∙ met.own;
    })
    (subst (λ (w : DiskError). GoesOn (StepBy {A = Unit {0}} (Err w) (Create name)
    (done_by (Create name))) old new) is step)

-- the same by another name of the path
pub way_at : (at name : List ℕ) (old new : Option Past) → at ≡ name
    → IsBetween (WasInWay at) old new → IsBetween (WasInWay name) old new
way_at at name old new is way = subst (λ (p : List ℕ). IsBetween (WasInWay p) old new) is way

-- the same of a refusal that is handed on
pub in_way_if : (at name : List ℕ) (why : DiskError) (result : Result (Unit {0}) DiskError)
    (old new : Option Past) → at ≡ name → IsErrAnd result (λ e. e ≡ why)
    → GoesOn (StepBy {A = Unit {0}} (Err why) (Create at) (done_by (Create at))) old new
    → IfErr result (λ e. e ≡ Exists → IsBetween (WasInWay name) old new)
in_way_if at name why (Ok done) old new same is step = tt
in_way_if at name why (Err e) old new same is step =
    λ exists. way_at at name old new same (in_way at why old new (sym is ∙ exists) step)

-- others put it there
module _ (path base : List ℕ) (is_base : IsBase base)
    (unmade : IsUnmade (IsMakeIn path) (is_there (beside_at path base))) where
  was_put : (name : List ℕ) (p q r : Past) → name ≡ beside_at path base
      → GoesBy (IsMakeIn path) p q
      → SawAt (ListDir (path_in path (codes "tmp")))
      (λ tree. is_there (beside_at path base) tree ≡ false) p q
      → IsLonger q r → WasInWay (beside_at path base) (length q.journal) (length r.journal) r
      → WasPut path name (length p.journal) (length r.journal) r
  was_put name p q r same goes saw on way =
      subst (λ (n : List ℕ). WasPut path n (length p.journal) (length r.journal) r) (sym same)
      (let traced = traced_back (is_there (beside_at path base)) (length r.journal) way.cause.mark r
      saw.mark (length q.journal) saw.to
      (λ x from to. calls_not_ours (IsMakeIn path) (is_there (beside_at path base)) p q r unmade goes
      on x (omega (arith, from, saw.from)) to) (record { cause = way.cause; same = refl }) in
      record {
        base = base;
        is_base = is_base;
        named = refl;
        listed = saw.mark;
        from = saw.from;
        answer = saw.answer;
        call = own_longer saw.mark (Own (ListDir (path_in path (codes "tmp"))) saw.answer) q r on
            saw.own;
        free = ap (is_there (beside_at path base)) (tree_at-longer q r saw.mark on saw.to)
            ∙ saw.tells;
        put = traced.cause;
        refused = ap (λ (i : ℕ). take 1 (drop i r.journal)) traced.same ∙ way.own;
      })

  put_by : (told : SyncError) (p q r : Past) → IsErrorAt (beside_at path base) told
      → (told ≡ NotFolder → ⊥) → GoesBy (IsMakeIn path) p q
      → SawAt (ListDir (path_in path (codes "tmp")))
      (λ tree. is_there (beside_at path base) tree ≡ false) p q
      → IsLonger q r → WasInWay (beside_at path base) (length q.journal) (length r.journal) r
      → MaildirAppendRefused path told (length p.journal) (length r.journal) r
  put_by (Changed (Name name)) p q r at none goes saw on way =
      was_put name.items p q r at goes saw on way
  put_by (Changed (At place)) p q r at none goes saw on way = at
  put_by Locked p q r at none goes saw on way = at
  put_by Unfinished p q r at none goes saw on way = at
  put_by (TooMany count) p q r at none goes saw on way = at
  put_by (TooLarge bytes) p q r at none goes saw on way = at
  put_by Fault p q r at none goes saw on way = tt
  put_by NoMemory p q r at none goes saw on way = tt
  put_by NotFolder p q r at none goes saw on way = absurd at

  pub put_refused : (told : SyncError) (old mid new : Option Past)
      → IsErrorAt (beside_at path base) told → GoesOn (GoesBy (IsMakeIn path)) old mid
      → MeetsNone path base old mid → Grows mid new
      → IsBetween (WasInWay (beside_at path base)) mid new
      → IsBetween (MaildirAppendRefused path told) old new
  put_refused told None mid new at calls saw on way = tt
  put_refused told (Some p) None new at calls saw on way = absurd calls
  put_refused told (Some p) (Some q) None at calls saw on way = tt
  put_refused told (Some p) (Some q) (Some r) at calls saw on way =
      put_by told p q r at (λ is. by told at is) calls saw on way
    where
      by : (told : SyncError) → IsErrorAt (beside_at path base) told → told ≡ NotFolder → ⊥
      by told at is = subst (IsErrorAt (beside_at path base)) is at
