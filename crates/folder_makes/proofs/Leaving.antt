-- Folders that stand in the end.
use Rattle.std.proofs.Common.{◌≡◌, ◌∷◌, ◌++◌, ◌&&◌, ◌∙◌, [], ℕ, true, false, List, Option, Some}
use Rattle.std.proofs.Common.{None, Result, Ok, Err, ap, is_none, map, refl}
use Rattle.std.proofs.Common.{if◌then◌else◌}
use Rattle.disk_model.specs.Journal.{Action, Done, Entry, Others, Own, Past}
use Rattle.disk_model.specs.Journal.{SyncDir, has_foreign}
use Rattle.disk_model.specs.Judge.{Called, answer_by, done_by}
use Rattle.disk_model.specs.Refusals.{folder_refusal}
use Rattle.disk_model.specs.State.{State, after_entry, run_entries, tree_of}
use Rattle.disk_model.specs.Tree.{TreeNode, is_folder_node, node_at}
use Rattle.disk_model.specs.declared.answers.DiskError.{DiskError}
use Rattle.disk_model.specs.declared.answers.DiskError.TheVariants.{WrongNode}
use Rattle.disk_model.proofs.Runs.{run_entries-append}
use Rattle.folder_core.specs.Directory.{file_at, is_folder_at, node_file}
use Rattle.folder_core.specs.Maildir.{directory, is_maildir}
use Rattle.folder_changes.specs.declared.sync_error.SyncError.{SyncError}
use Rattle.folder_stops.specs.Does.{AllOwn}
use Rattle.std.proofs.lemmas.Bool.{and_from}
use Rattle.std.specs.Prelude.{OnOk, is_some, option_and_then}
use Rattle.folder_stops.specs.Along.{Grown}
use Rattle.folder_stops.proofs.Along.{done_grown, grown_both, grown_map, grown_then, judged_grown}
use Rattle.folder_makes.specs.Parts.{IsMaking, Leaves, LeavesMaildir, MakesBy, NamesKept, Nowhere}
use Rattle.folder_makes.proofs.Calling.{by_then, unmade}

none_by : (bytes : Option (List ℕ))
    → ◌≡◌ {A = Result (Unit {0}) DiskError} (Ok tt)
    (answer_by (if is_none bytes then None else Some WrongNode) tt)
    → is_none bytes ≡ true
none_by None e = refl
none_by (Some bytes) e = absurd (cc)

by_node : (node : Option TreeNode)
    → ◌≡◌ {A = Result (Unit {0}) DiskError} (Ok tt) (answer_by (folder_refusal node) tt)
    → is_folder_node node ≡ true
by_node None e = absurd (cc)
by_node (Some node) e = none_by node.bytes e

-- others act, and then comes a call of ours
pub run_last : (actions : List Action) (entry : Entry) (s : State)
    → run_entries (map Others actions ++ entry ∷ []) s
    ≡ after_entry (run_entries (map Others actions) s) entry
run_last actions entry s = run_entries-append (map Others actions) (entry ∷ []) s

-- names in a directory are put on the disk where it is one
pub kept_leaves : (dir : List ℕ) {a b : Option Past}
    → Called (Ok tt) (SyncDir dir) (done_by (SyncDir dir)) a b → Leaves dir a b
kept_leaves dir {a} {b} took = record {
  grown = grown_map a b _ _ (judged_grown tt (SyncDir dir) (done_by (SyncDir dir)) a b took.goes)
      (λ s es is.
      ap (λ (l : List Entry). is_folder_at (tree_of (run_entries l s)) dir) is.1
      ∙ ap (λ (t : State). is_folder_at (tree_of t) dir) (run_last is.0 (Own (SyncDir dir) Done) s)
      ∙ by_node (node_at (tree_of (run_entries (map Others is.0) s)) dir) is.2);
}

-- and all names are on the disk then
pub names_kept : (dir : List ℕ) {a b : Option Past}
    → Called (Ok tt) (SyncDir dir) (done_by (SyncDir dir)) a b → NamesKept a b
names_kept dir {a} {b} took = record {
  grown = grown_map a b _ _ (done_grown tt (SyncDir dir) (done_by (SyncDir dir)) a b took.goes)
      (λ s es is. ap (λ (l : List Entry). (run_entries l s).earlier) is.1
      ∙ ap (λ (t : State). t.earlier) (run_last is.0 (Own (SyncDir dir) Done) s));
}

-- Where nobody else acts.

-- A folder stands at the path in the end, where nobody else acted.
pub record LeavesAlone (path : List ℕ) (old new : Option Past) : Type 0 where
  pub grown : Grown old new (λ state entries. has_foreign entries ≡ false
      → is_folder_at (tree_of (run_entries entries state)) path ≡ true)

pub foreign_behind : (xs ys : List Entry) → has_foreign (xs ++ ys) ≡ false → has_foreign ys ≡ false
foreign_behind [] ys none = none
foreign_behind (Own call answer ∷ xs) ys none = foreign_behind xs ys none
foreign_behind (Others action ∷ xs) ys none = absurd (cc)

pub foreign_before : (xs ys : List Entry) → has_foreign (xs ++ ys) ≡ false → has_foreign xs ≡ false
foreign_before [] ys none = refl
foreign_before (Own call answer ∷ xs) ys none = foreign_before xs ys none
foreign_before (Others action ∷ xs) ys none = absurd (cc)

not_refused : (node : Option TreeNode) → is_folder_node node ≡ true
    → is_some (folder_refusal node) ≡ false
not_refused None is = absurd (cc)
not_refused (Some node) is = by node.bytes is
  where
    by : (bytes : Option (List ℕ)) → is_none bytes ≡ true
        → is_some (if is_none bytes then None else Some WrongNode) ≡ false
    by None is = refl
    by (Some bytes) is = absurd (cc)

a_folder : (node : Option TreeNode) → is_some (folder_refusal node) ≡ false
    → is_folder_node node ≡ true
a_folder None is = absurd (cc)
a_folder (Some node) is = by node.bytes is
  where
    by : (bytes : Option (List ℕ))
        → is_some (if is_none bytes then None else Some WrongNode) ≡ false → is_none bytes ≡ true
    by None is = refl
    by (Some bytes) is = absurd (cc)

module _ (D F : List ℕ → Type 0) (q : List ℕ) (apart : (f : List ℕ) → F f → f ≡ q → ⊥) where
  -- folders stay while we make others
  pub folder_on : (es : List Entry) (s : State)
      → AllOwn (λ call answer. IsMaking D F call) es → has_foreign es ≡ false
      → is_folder_at (tree_of s) q ≡ true
      → is_folder_at (tree_of (run_entries es s)) q ≡ true
  folder_on [] s all none is = is
  folder_on (Own call answer ∷ es) s all none is =
      folder_on es (after_entry s (Own call answer)) all.1 none
      (a_folder (node_at (tree_of (after_entry s (Own call answer))) q)
      (unmade D F (SyncDir q) apart call answer s all.0 (not_refused (node_at (tree_of s) q) is)))
  folder_on (Others action ∷ es) s all none is = absurd (cc)

  pub alone_on : {a b c : Option Past} → LeavesAlone q a b → MakesBy D F b c → LeavesAlone q a c
  alone_on {a} {b} {c} first next = record {
    grown = grown_then a b c _ _ _ first.grown next.grown (λ s xs ys one two none.
        ap (λ (t : State). is_folder_at (tree_of t) q) (run_entries-append xs ys s)
        ∙ folder_on ys (run_entries xs s) two (foreign_behind xs ys none)
        (one (foreign_before xs ys none)));
  }

pub alone_of : (q : List ℕ) {a b : Option Past} → Leaves q a b → LeavesAlone q a b
alone_of q {a} {b} leaves = record { grown = grown_map a b _ _ leaves.grown (λ s es is none. is) }

pub alone_behind : (D F : List ℕ → Type 0) (q : List ℕ) {a b c : Option Past} → MakesBy D F a b
    → LeavesAlone q b c → LeavesAlone q a c
alone_behind D F q {a} {b} {c} first next = record {
  grown = grown_then a b c _ _ _ first.grown next.grown (λ s xs ys one two none.
      ap (λ (t : State). is_folder_at (tree_of t) q) (run_entries-append xs ys s)
      ∙ two (foreign_behind xs ys none));
}

-- Maildirs.

no_file : (node : Option TreeNode) → is_folder_node node ≡ true
    → is_none (option_and_then node_file node) ≡ true
no_file None is = absurd (cc)
no_file (Some node) is = is

-- the folder and its two directories are there
pub a_maildir_there : (path : List ℕ) {a b : Option Past} → LeavesAlone path a b
    → LeavesAlone (directory true path) a b → LeavesAlone (directory false path) a b
    → LeavesMaildir path a b
a_maildir_there path {a} {b} folder cur new = record {
  grown = grown_map a b _ _
      (grown_both a b _ _ folder.grown (grown_both a b _ _ cur.grown new.grown))
      (λ s es is none.
      let tree = tree_of (run_entries es s) in
      and_from (is_folder_at tree path && is_folder_at tree (directory true path))
      (is_none (file_at tree (directory false path)))
      (and_from (is_folder_at tree path) (is_folder_at tree (directory true path)) (is.0 none)
      (is.1.0 none))
      (no_file (node_at tree (directory false path)) (is.1.1 none)));
}

-- a Maildir is there behind other parts
pub maildir_behind : (D F : List ℕ → Type 0) (path : List ℕ) {a b c : Option Past}
    → MakesBy D F a b → LeavesMaildir path b c → LeavesMaildir path a c
maildir_behind D F path {a} {b} {c} first next = record {
  grown = grown_then a b c _ _ _ first.grown next.grown (λ s xs ys one two none.
      ap (λ (t : State). is_maildir (tree_of t) path) (run_entries-append xs ys s)
      ∙ two (foreign_behind xs ys none));
}

-- the same of what a part answers
pub maildir_if : (D F : List ℕ → Type 0) (path : List ℕ) (result : Result (Unit {0}) SyncError)
    (a b c : Option Past) → MakesBy D F a b → OnOk result (LeavesMaildir path b c)
    → OnOk result (LeavesMaildir path a c)
maildir_if D F path (Ok done) a b c first next = maildir_behind D F path first next
maildir_if D F path (Err why) a b c first next = tt

-- all directories are kept, one behind the other
pub kept_all : (path : List ℕ) (result : Result (Unit {0}) SyncError)
    (a b c d e : Option Past) → MakesBy Nowhere Nowhere a b
    → MakesBy Nowhere Nowhere b c → Leaves (directory false path) b c
    → MakesBy Nowhere Nowhere c d → Leaves (directory true path) c d
    → MakesBy Nowhere Nowhere d e → OnOk result (Leaves path d e)
    → OnOk result (LeavesMaildir path a e)
kept_all path (Err why) a b c d e one two new three cur four folder = tt
kept_all path (Ok done) a b c d e one two new three cur four folder =
    a_maildir_there path
    (alone_behind Nowhere Nowhere path
    (by_then Nowhere Nowhere (by_then Nowhere Nowhere one two) three)
    (alone_of path folder))
    (alone_behind Nowhere Nowhere (directory true path) (by_then Nowhere Nowhere one two)
    (alone_on Nowhere Nowhere (directory true path) (λ f is. absurd is)
    (alone_of (directory true path) cur) four))
    (alone_behind Nowhere Nowhere (directory false path) one
    (alone_on Nowhere Nowhere (directory false path) (λ f is. absurd is)
    (alone_on Nowhere Nowhere (directory false path) (λ f is. absurd is)
    (alone_of (directory false path) new) three) four))
