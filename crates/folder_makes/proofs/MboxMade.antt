-- A mailbox in one file that is made, where nothing was there to be read.
use Rattle.std.proofs.Common.{◌≡◌, ◌∷◌, ◌++◌, ◌∙◌, [], ℕ, Bool, true, false, List, Option, Some}
use Rattle.std.proofs.Common.{None, Result, Ok, Err, ap, if◌then◌else◌, inl, inr, length}
use Rattle.std.proofs.Common.{map, refl, subst, sym, ◌⊎◌}
use Rattle.std.proofs.lemmas.Slice.Eq.{bytes_eq-Decides}
use Rattle.std.specs.Prelude.{OnOk, option_and_then}
use Rattle.disk_model.specs.Journal.{Action, Create, Done, Entry, Others, Own, Past, ReadAll}
use Rattle.disk_model.specs.Journal.{Refused, has_foreign}
use Rattle.disk_model.specs.Judge.{Called, answer_by, done_by, read_of}
use Rattle.disk_model.specs.Refusals.{free_refusal, refusal}
use Rattle.disk_model.specs.State.{File, State, after_done, durable, name_at, name_in, run_entries}
use Rattle.disk_model.specs.State.{state_after, state_of, tree_of}
use Rattle.disk_model.specs.Tree.{TreeNode, folder_node, folder_of, is_root, node_at, node_in}
use Rattle.disk_model.specs.declared.answers.DiskError.{DiskError}
use Rattle.disk_model.specs.declared.answers.DiskError.TheVariants as disk
use Rattle.disk_model.specs.declared.answers.Stat.{Stat}
use Rattle.disk_model.proofs.Runs.{run_entries-append}
use Rattle.disk_model.proofs.Trees.{node_at-tree_of, node_by}
use Rattle.folder_core.specs.Directory.{file_at, is_folder_at, node_file}
use Rattle.folder_core.specs.FirstLook.{first_look}
use Rattle.folder_core.proofs.LookedLemmas.{read_missing}
use Rattle.folder_changes.specs.declared.sync_error.SyncError.{SyncError}
use Rattle.folder_stops.specs.Along.{Grown}
use Rattle.folder_stops.proofs.Along.{grown_map, grown_then, judged_grown}
use Rattle.folder_stops.proofs.Steps.{file_last}
use Rattle.folder_drivers.specs.Making.{MetFirst}
use Rattle.folder_drivers.specs.MboxMade.{MadeMailboxAlone, fits_mailbox}
use Rattle.folder_drivers.specs.MboxMade.{may_be_mailbox, read_before}
use Rattle.folder_makes.specs.Parts.{FoundAround, LeavesEmpty, LookedAt, MakesBy, Nowhere}
use Rattle.folder_makes.proofs.Leaving.{foreign_before, foreign_behind, run_last}
use Rattle.folder_makes.proofs.Looking.{below_told, first_last, first_so, folder_before, look_more}
use Rattle.folder_makes.proofs.MhMade.{free_told, kept_tree}
use Rattle.folder_makes.proofs.MboxRead.{empty_begins, empty_messages, mailbox_made}

true_false : ◌≡◌ {A = Bool} true false → ⊥
true_false e = cc

-- A file that is made.

no_root : (path : List ℕ) (tree : List TreeNode) → node_at tree path ≡ None → is_root path ≡ false
no_root path tree is = by (is_root path) is
  where
    by : (root : Bool)
        → (if root then Some (folder_node path) else node_in tree path) ≡ None → root ≡ false
    by true is = absurd (cc)
    by false is = refl

free_none : (node : Option TreeNode) → free_refusal node ≡ None → node ≡ None
free_none None is = refl
free_none (Some node) is = absurd (cc)

-- nothing stood where it was made
pub free_there : (path : List ℕ) (tree : List TreeNode) → refusal (Create path) tree ≡ None
    → node_at tree path ≡ None
free_there path tree is =
    free_none (node_at tree path)
    (free_told (node_at tree (folder_of path)) (node_at tree path) is)

pub no_root_there : (path : List ℕ) (tree : List TreeNode) → refusal (Create path) tree ≡ None
    → is_root path ≡ false
no_root_there path tree is = no_root path tree (free_there path tree is)

pub not_refused : (why : Option DiskError)
    → ◌≡◌ {A = Result (Unit {0}) DiskError} (Ok tt) (answer_by why tt) → why ≡ None
not_refused None is = refl
not_refused (Some why) is = absurd (cc)

new_file : (path : List ℕ) (s : State) → is_root path ≡ false
    → file_at (tree_of (after_done (Create path) s)) path ≡ Some []
new_file path s not_root =
    ap (option_and_then node_file) (node_at-tree_of t path ∙ ap (node_by t.files path) at)
    ∙ ap (λ (f : File). Some f.bytes) (file_last s.files (durable [] s.clock))
  where
    t : State
    t = after_done (Create path) s

    at : name_at t.names path ≡ Some (Some (length s.files))
    at = ap (λ (r : Bool). if r then Some None
        else name_in (record { path = path; file = Some (length s.files) } ∷ s.names) path) not_root
        ∙ ap (λ (b : Bool). if b then Some (Some (length s.files)) else name_in s.names path)
        ((bytes_eq-Decides path path).1 refl)

module _ (path : List ℕ) {a b : Option Past}
    (took : Called (Ok tt) (Create path) (done_by (Create path)) a b) where
  -- an empty file stands
  pub created_empty : LeavesEmpty path a b
  created_empty = record {
    grown = grown_map a b _ _
        (judged_grown tt (Create path) (done_by (Create path)) a b took.goes)
        (λ s es is none.
        ap (λ (l : List Entry). file_at (tree_of (run_entries l s)) path) is.1
        ∙ ap (λ (t : State). file_at (tree_of t) path)
        (run_last is.0 (Own (Create path) Done) s)
        ∙ new_file path (run_entries (map Others is.0) s)
        (no_root_there path _ (not_refused _ is.2)));
  }

  -- in a folder that stood before
  pub created_around : FoundAround path a b
  created_around = record {
    grown = grown_map a b _ _
        (judged_grown tt (Create path) (done_by (Create path)) a b took.goes)
        (λ s es is. folder_before is.0 s (folder_of path)
        (below_told _ (node_at (tree_of (run_entries (map Others is.0) s)) path) is.2));
  }

-- where the past is told, it is no root
pub rooted : (path : List ℕ) (a b : Option Past)
    → Called (Ok tt) (Create path) (done_by (Create path)) a b → (a ≡ None) ⊎ (is_root path ≡ false)
rooted path None b took = inl refl
rooted path (Some past) None took = absurd took.goes
rooted path (Some past) (Some new) took = let step = took.goes in
    inr (no_root_there path _ (not_refused _ step.judged))

-- names are put on the disk behind it
pub empty_if : (path : List ℕ) (result : Result (Unit {0}) SyncError) (a b c : Option Past)
    → LeavesEmpty path a b → MakesBy Nowhere Nowhere b c → OnOk result (LeavesEmpty path a c)
empty_if path (Err why) a b c first next = tt
empty_if path (Ok done) a b c first next = record {
  grown = grown_then a b c _ _ _ first.grown next.grown (λ s xs ys one two none.
      ap (λ (t : State). file_at (tree_of t) path) (run_entries-append xs ys s)
      ∙ ap (λ (tree : List TreeNode). file_at tree path)
      (kept_tree ys (run_entries xs s) two (foreign_behind xs ys none))
      ∙ one (foreign_before xs ys none));
}

pub around_if : (path : List ℕ) (result : Result (Unit {0}) SyncError) (a b c : Option Past)
    → FoundAround path a b → MakesBy Nowhere Nowhere b c → OnOk result (FoundAround path a c)
around_if path (Err why) a b c first next = tt
around_if path (Ok done) a b c first next = record {
  grown = grown_then a b c _ _ _ first.grown next.grown (λ s xs ys one two. one);
}

-- Nothing was there to be read.

abbrev IsMissing : List ℕ → ℕ → State → List Entry → Type 0
IsMissing path limit s es = (actions : List Action)
    × (es ≡ map Others actions ++ Own (ReadAll path limit) (Refused disk.Missing 0) ∷ [])
    × (node_at (tree_of (run_entries (map Others actions) s)) path ≡ None)

missing_grown : (path : List ℕ) (limit : ℕ) (a b : Option Past)
    → Called {A = Stat × List ℕ} (Err disk.Missing) (ReadAll path limit)
    (λ tree. read_of tree path limit) a b → Grown a b (IsMissing path limit)
missing_grown path limit None b took = took.goes
missing_grown path limit (Some past) None took = absurd took.goes
missing_grown path limit (Some past) (Some new) took = let step = took.goes in record {
  same_first = step.same_first;
  more = map Others step.actions ++ Own (ReadAll path limit) step.answer ∷ [];
  journal = step.journal;
  along = (
    step.actions,
    ap (λ answer. map Others step.actions ++ Own (ReadAll path limit) answer ∷ [])
        step.answered,
    read_missing (tree_of (run_entries (map Others step.actions) (state_after past))) path limit
        (step.judged ∙ ap (λ (s : State). read_of (tree_of s) path limit)
        (run_entries-append past.journal (map Others step.actions) (state_of past.first))),
  );
}

module _ (path : List ℕ) (limit : ℕ) (why : DiskError) (a b : Option Past)
    (is_missing : why ≡ disk.Missing)
    (took : Called {A = Stat × List ℕ} (Err why) (ReadAll path limit)
    (λ tree. read_of tree path limit) a b) where
  missed : Grown a b (IsMissing path limit)
  missed = missing_grown path limit a b (subst (λ (w : DiskError). Called {A = Stat × List ℕ}
      (Err w) (ReadAll path limit) (λ tree. read_of tree path limit) a b) is_missing took)

  -- the first look met a folder around the path
  pub looked_if : (result : Result (Unit {0}) SyncError) (c : Option Past)
      → OnOk result (FoundAround path b c)
      → OnOk result (Grown a c (MetFirst (may_be_mailbox path) true))
  looked_if (Err e) c around = tt
  looked_if (Ok done) c around = grown_then a b c _ _ _ missed around.grown (λ s xs ys one two.
      let tree = tree_of (run_entries (map Others one.0) s) in
      first_so (may_be_mailbox path) true (λ t. may_be_mailbox path t ≡ true)
      (first_look s (xs ++ ys)) (λ t is. is)
      (look_more (λ t. may_be_mailbox path t ≡ true) s xs ys
      (subst (λ (l : List Entry). LookedAt (λ t. may_be_mailbox path t ≡ true) (first_look s l))
      (sym one.1)
      (subst (LookedAt (λ t. may_be_mailbox path t ≡ true))
      (sym (first_last one.0 (ReadAll path limit) (Refused disk.Missing 0) s []))
      (ap (fits_mailbox path tree) one.2
      ∙ ap (λ (t : State). is_folder_at (tree_of t) (folder_of path))
      (sym (ap (λ (l : List Entry). run_entries l s) one.1
      ∙ run_last one.0 (Own (ReadAll path limit) (Refused disk.Missing 0)) s)) ∙ two)))))

  -- and the file stands that was made then
  pub made_if : (result : Result (Unit {0}) SyncError) (c : Option Past)
      → OnOk result (LeavesEmpty path b c) → OnOk result (Grown a c (MadeMailboxAlone path))
  made_if (Err e) c there = tt
  made_if (Ok done) c there = grown_then a b c _ _ _ missed there.grown (λ s xs ys one two none.
      mailbox_made path [] (tree_of s) (tree_of (run_entries (xs ++ ys) s))
      (ap (λ (t : State). file_at (tree_of t) path) (run_entries-append xs ys s)
      ∙ two (foreign_behind xs ys none)) empty_begins
      (ap read_before (by s xs one.0 one.1 one.2 (foreign_before xs ys none))
      ∙ sym empty_messages))
    where
      by : (s : State) (xs : List Entry) (actions : List Action)
          → xs ≡ map Others actions ++ Own (ReadAll path limit) (Refused disk.Missing 0) ∷ []
          → node_at (tree_of (run_entries (map Others actions) s)) path ≡ None
          → has_foreign xs ≡ false → node_at (tree_of s) path ≡ None
      by s xs [] e is none = is
      by s xs (action ∷ actions) e is none = absurd (true_false (sym (ap has_foreign e) ∙ none))
