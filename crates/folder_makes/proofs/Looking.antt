-- The first look of the making of a folder.
use Rattle.std.proofs.Common.{◌≡◌, ◌∷◌, ◌++◌, ◌&&◌, ◌∙◌, [], ℕ, Bool, true, false, List, Option}
use Rattle.std.proofs.Common.{Some}
use Rattle.std.proofs.Common.{None, Result, Ok, Err, ap, inl, inr, is_none, map, refl, subst, sym}
use Rattle.std.proofs.Common.{if◌then◌else◌, length}
use Rattle.std.specs.Prelude.{IfOk}
use Rattle.std.specs.Str.{bytes_eq}
use Rattle.mail_base.specs.Series.{Held}
use Rattle.disk_model.specs.Journal.{Action, Answer, Appends, Call, Done, Entry, ListDir, MakeDir}
use Rattle.disk_model.specs.Journal.{Others, Own, Past, Puts, Refused, Removes, Renames, Writes}
use Rattle.disk_model.specs.Judge.{Called, answer_by, done_by, list_of}
use Rattle.disk_model.specs.Names.{names_in}
use Rattle.disk_model.specs.Refusals.{below_refusal, first_refusal, free_refusal}
use Rattle.disk_model.specs.State.{File, Name, State, after_action, after_entry, appended, can_make}
use Rattle.disk_model.specs.State.{can_take, changed, is_file, is_folder, moved, name_at, name_in}
use Rattle.disk_model.specs.State.{replaced, run_entries, tree_of, with_made, with_names, without}
use Rattle.disk_model.specs.State.{state_after, state_of}
use Rattle.disk_model.specs.Tree.{TreeNode, folder_of, is_folder_node, is_root, node_at}
use Rattle.disk_model.specs.declared.answers.DiskError.{DiskError}
use Rattle.disk_model.specs.declared.answers.DiskError.TheVariants as disk
use Rattle.disk_model.proofs.LawsOfTrees.{still_no_folder}
use Rattle.disk_model.proofs.Runs.{run_entries-append}
use Rattle.disk_model.proofs.Trees.{node_at-tree_of, node_by}
use Rattle.folder_core.specs.Directory.{is_folder_at}
use Rattle.folder_core.specs.FirstLook.{Look, first_look}
use Rattle.folder_core.proofs.LookedLemmas.{list_missing, list_tells}
use Rattle.folder_stops.specs.Along.{Grown}
use Rattle.folder_stops.proofs.Along.{grown_map, grown_then, judged_grown}
use Rattle.folder_drivers.specs.Made.{fits_at, may_be_made}
use Rattle.folder_drivers.specs.Making.{IsSoAt, MetFirst}
use Rattle.folder_drivers.specs.MetNames.{plain_names}
use Rattle.folder_makes.specs.Parts.{AreNames, FoundAround, LookedAt, MakesBy, MetNames}
use Rattle.folder_makes.proofs.Leaving.{run_last}

true_false : ◌≡◌ {A = Bool} true false → ⊥
true_false e = cc

-- Others make no folders.

-- a file more
file_if : (root same : Bool) (number : ℕ) (found : Option (Option ℕ))
    → is_folder (if root then Some None else found) ≡ false
    → is_folder (if root then Some None else (if same then Some (Some number) else found)) ≡ false
file_if true same number found is = is
file_if false true number found is = refl
file_if false false number found is = is

no_folder_made : (path q : List ℕ) (number : ℕ) (names : List Name)
    → is_folder (name_at names q) ≡ false
    → is_folder (name_at (record { path = path; file = Some number } ∷ names) q) ≡ false
no_folder_made path q number names is =
    file_if (is_root q) (bytes_eq path q) number (name_in names q) is

no_folder_moved : (from to q : List ℕ) (s : State) (at : Option (Option ℕ))
    → is_folder (name_at s.names q) ≡ false
    → is_folder (name_at (moved at from to s).names q) ≡ false
no_folder_moved from to q s None is = is
no_folder_moved from to q s (Some None) is = is
no_folder_moved from to q s (Some (Some number)) is =
    no_folder_made to q number (without to (without from s.names))
    (still_no_folder to q (without from s.names) (still_no_folder from q s.names is))

no_folder_changed : (change : ℕ → File → File) (q : List ℕ) (s : State) (at : Option (Option ℕ))
    → is_folder (name_at s.names q) ≡ false
    → is_folder (name_at (changed at change s).names q) ≡ false
no_folder_changed change q s None is = is
no_folder_changed change q s (Some None) is = is
no_folder_changed change q s (Some (Some number)) is = is

no_folder_if : (fits : Bool) (q : List ℕ) (s t : State) → is_folder (name_at s.names q) ≡ false
    → is_folder (name_at t.names q) ≡ false
    → is_folder (name_at (if fits then t else s).names q) ≡ false
no_folder_if true q s t is made = made
no_folder_if false q s t is made = is

no_folder_acted : (action : Action) (s : State) (q : List ℕ) → is_folder (name_at s.names q) ≡ false
    → is_folder (name_at (after_action action s).names q) ≡ false
no_folder_acted (Appends path piece) s q is =
    no_folder_changed (appended piece) q s (name_at s.names path) is
no_folder_acted (Puts path bytes) s q is =
    no_folder_if (can_make s.names path) q s (with_made path bytes s) is
    (no_folder_made path q (length s.files) s.names is)
no_folder_acted (Renames from to) s q is =
    no_folder_if (can_take s.names to) q s (moved (name_at s.names from) from to s) is
    (no_folder_moved from to q s (name_at s.names from) is)
no_folder_acted (Removes path) s q is =
    no_folder_if (is_file (name_at s.names path)) q s (with_names (without path s.names) s) is
    (still_no_folder path q s.names is)
no_folder_acted (Writes path bytes) s q is =
    no_folder_changed (replaced bytes) q s (name_at s.names path) is

node_folder : (files : List File) (q : List ℕ) (at : Option (Option ℕ))
    → is_folder_node (node_by files q at) ≡ is_folder at
node_folder files q None = refl
node_folder files q (Some None) = refl
node_folder files q (Some (Some number)) = refl

tree_folder : (s : State) (q : List ℕ) → is_folder_at (tree_of s) q ≡ is_folder (name_at s.names q)
tree_folder s q =
    ap is_folder_node (node_at-tree_of s q) ∙ node_folder s.files q (name_at s.names q)

-- a folder that stands behind actions of others stood before
pub folder_before : (actions : List Action) (s : State) (q : List ℕ)
    → is_folder_at (tree_of (run_entries (map Others actions) s)) q ≡ true
    → is_folder_at (tree_of s) q ≡ true
folder_before [] s q is = is
folder_before (action ∷ actions) s q is =
    by (is_folder (name_at s.names q)) refl
    (folder_before actions (after_entry s (Others action)) q is)
  where
    by : (b : Bool) → is_folder (name_at s.names q) ≡ b
        → is_folder_at (tree_of (after_entry s (Others action))) q ≡ true
        → is_folder_at (tree_of s) q ≡ true
    by true was is = tree_folder s q ∙ was
    by false was is = absurd (true_false (sym is
        ∙ tree_folder (after_entry s (Others action)) q ∙ no_folder_acted action s q was))

-- What a look meets.

-- others act, and then comes a call of ours
pub first_last : (actions : List Action) (call : Call) (answer : Answer) (s : State)
    (es : List Entry) → first_look s (map Others actions ++ Own call answer ∷ es)
    ≡ Some (record { tree = tree_of (run_entries (map Others actions) s); answer = answer })
first_last [] call answer s es = refl
first_last (action ∷ actions) call answer s es =
    first_last actions call answer (after_entry s (Others action)) es

-- the first look stays the first
pub look_more : (Tells : List TreeNode → Type 0) (s : State) (xs ys : List Entry)
    → LookedAt Tells (first_look s xs) → LookedAt Tells (first_look s (xs ++ ys))
look_more Tells s [] ys looked = absurd looked
look_more Tells s (Own call answer ∷ xs) ys looked = looked
look_more Tells s (Others action ∷ xs) ys looked =
    look_more Tells (after_entry s (Others action)) xs ys looked

-- the names of a directory were met
pub names_met : (path : List ℕ) (names : List (List ℕ)) {a b : Option Past}
    → Called (Ok names) (ListDir path) (λ tree. list_of tree path) a b → MetNames path names a b
names_met path names {a} {b} took = record {
  grown = grown_map a b _ _
      (judged_grown names (ListDir path) (λ tree. list_of tree path) a b took.goes)
      (λ s es is.
      subst (λ (l : List Entry). LookedAt (AreNames path names) (first_look s l)) (sym is.1)
      (subst (LookedAt (AreNames path names))
      (sym (first_last is.0 (ListDir path) Done s []))
      (inl (list_tells (tree_of (run_entries (map Others is.0) s)) path names is.2))));
}

-- A directory that is made.

pub below_told : (node at : Option TreeNode)
    → ◌≡◌ {A = Result (Unit {0}) DiskError} (Ok tt)
    (answer_by (first_refusal (below_refusal node) (free_refusal at)) tt)
    → is_folder_node node ≡ true
below_told None at e = absurd (cc)
below_told (Some node) at e = by (is_none node.bytes) e
  where
    by : (b : Bool) → ◌≡◌ {A = Result (Unit {0}) DiskError} (Ok tt)
        (answer_by (first_refusal (if b then None else Some disk.Missing) (free_refusal at)) tt)
        → b ≡ true
    by true e = refl
    by false e = absurd (cc)

-- it stands in a folder that stood before
pub around_found : (path : List ℕ) {a b : Option Past}
    → Called (Ok tt) (MakeDir path) (done_by (MakeDir path)) a b → FoundAround path a b
around_found path {a} {b} took = record {
  grown = grown_map a b _ _ (judged_grown tt (MakeDir path) (done_by (MakeDir path)) a b took.goes)
      (λ s es is. folder_before is.0 s (folder_of path)
      (below_told _ (node_at (tree_of (run_entries (map Others is.0) s)) path) is.2));
}

-- a look met nothing
abbrev IsMissing : List ℕ → State → List Entry → Type 0
IsMissing path s es = (actions : List Action)
    × (es ≡ map Others actions ++ Own (ListDir path) (Refused disk.Missing 0) ∷ [])
    × (node_at (tree_of (run_entries (map Others actions) s)) path ≡ None)

missing_grown : (path : List ℕ) (a b : Option Past)
    → Called {A = List (List ℕ)} (Err disk.Missing) (ListDir path) (λ tree. list_of tree path) a b
    → Grown a b (IsMissing path)
missing_grown path None b took = took.goes
missing_grown path (Some past) None took = absurd took.goes
missing_grown path (Some past) (Some new) took = let step = took.goes in record {
  same_first = step.same_first;
  more = map Others step.actions ++ Own (ListDir path) step.answer ∷ [];
  journal = step.journal;
  along = (
    step.actions,
    ap (λ (answer : Answer). map Others step.actions ++ Own (ListDir path) answer ∷ [])
        step.answered,
    list_missing (tree_of (run_entries (map Others step.actions) (state_after past))) path
        (step.judged ∙ ap (λ (s : State). list_of (tree_of s) path)
        (run_entries-append past.journal (map Others step.actions) (state_of past.first))),
  );
}

-- nothing stood at the path, in a folder, and it was made
made_then : (path : List ℕ) (s : State) (xs ys : List Entry) → IsMissing path s xs
    → is_folder_at (tree_of (run_entries xs s)) (folder_of path) ≡ true
    → LookedAt (AreNames path []) (first_look s (xs ++ ys))
made_then path s xs ys is around =
    look_more (AreNames path []) s xs ys
    (subst (λ (l : List Entry). LookedAt (AreNames path []) (first_look s l)) (sym is.1)
    (subst (LookedAt (AreNames path []))
    (sym (first_last is.0 (ListDir path) (Refused disk.Missing 0) s []))
    (inr (
      is.2,
      ap (λ (t : State). is_folder_at (tree_of t) (folder_of path))
          (sym (ap (λ (l : List Entry). run_entries l s) is.1
          ∙ run_last is.0 (Own (ListDir path) (Refused disk.Missing 0)) s)) ∙ around,
      refl,
    ))))

pub none_met : {E : Type 0} (result : Result (Held (Held ℕ)) E) (path : List ℕ) (why : DiskError)
    (a b c : Option Past) → why ≡ disk.Missing
    → Called {A = List (List ℕ)} (Err why) (ListDir path) (λ tree. list_of tree path) a b
    → IfOk result (λ names. names.items ≡ []) → IfOk result (λ names. FoundAround path b c)
    → IfOk result (λ names. MetNames path (plain_names names) a c)
none_met (Err e) path why a b c is took none around = tt
none_met (Ok names) path why a b c is took none around =
    subst (λ (l : List (Held ℕ)). MetNames path (map (λ name. name.items) l) a c) (sym none)
    (record {
      grown = grown_then a b c _ _ _
          (missing_grown path a b (subst (λ (w : DiskError). Called {A = List (List ℕ)} (Err w)
          (ListDir path) (λ tree. list_of tree path) a b) is took))
          around.grown (λ s xs ys one two. made_then path s xs ys one two);
    })

-- What it tells.

and_true : (a b : Bool) → a ≡ true → (a && b) ≡ b
and_true true b is = refl
and_true false b is = absurd (cc)

-- a folder may be made where these are the names
pub fits : (is_begun : List (List ℕ) → Bool) (path : List ℕ) (names : List (List ℕ))
    (tree : List TreeNode) → is_begun [] ≡ true → AreNames path names tree
    → may_be_made is_begun path tree ≡ is_begun names
fits is_begun path names tree start (inl is) = by (node_at tree path) is.0
  where
    by : (node : Option TreeNode) → is_folder_node node ≡ true
        → fits_at is_begun path tree node ≡ is_begun names
    by None folder = absurd (cc)
    by (Some node) folder =
        and_true (is_none node.bytes) (is_begun (names_in tree path)) folder
        ∙ ap is_begun (sym is.1)
fits is_begun path names tree start (inr is) =
    ap (fits_at is_begun path tree) is.0 ∙ is.1 ∙ sym start ∙ ap is_begun (sym is.2)

pub first_so : (is_so : List TreeNode → Bool) (value : Bool) (Tells : List TreeNode → Type 0)
    (look : Option Look) → ((tree : List TreeNode) → Tells tree → is_so tree ≡ value)
    → LookedAt Tells look → IsSoAt is_so value look
first_so is_so value Tells None turns looked = absurd looked
first_so is_so value Tells (Some look) turns looked = turns look.tree looked

-- whether one may be made there
pub first_fits : (is_begun : List (List ℕ) → Bool) (path : List ℕ) (names : List (List ℕ))
    (value : Bool) {a b : Option Past} → is_begun [] ≡ true → is_begun names ≡ value
    → MetNames path names a b → Grown a b (MetFirst (may_be_made is_begun path) value)
first_fits is_begun path names value {a} {b} start is met =
    grown_map a b _ _ met.grown (λ s es looked.
    first_so (may_be_made is_begun path) value (AreNames path names) (first_look s es)
    (λ tree are. fits is_begun path names tree start are ∙ is) looked)

-- parts follow
pub met_on : (D F : List ℕ → Type 0) (path : List ℕ) (names : List (List ℕ)) {a b c : Option Past}
    → MetNames path names a b → MakesBy D F b c → MetNames path names a c
met_on D F path names {a} {b} {c} met next = record {
  grown = grown_then a b c _ _ _ met.grown next.grown (λ s xs ys one two.
      look_more (AreNames path names) s xs ys one);
}
