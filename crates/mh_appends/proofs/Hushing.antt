-- What our own calls do not bring about, by what stands at a path.
use Rattle.std.proofs.Common.{◌≡◌, ◌≢◌, ◌==◌, ◌∷◌, ◌∙◌, ℕ, Bool, true, false, not, List, []}
use Rattle.std.proofs.Common.{Option, Some, None, Result, ap, if◌then◌else◌, is_none, is_some, map}
use Rattle.std.proofs.Common.{option_and_then, refl, sym, take, Ok}
use Rattle.disk_model.specs.Journal.{Answer, Call, Create, Cut, Done, Entry, ListDir, MakeDir}
use Rattle.disk_model.specs.Journal.{Others, Own, Past}
use Rattle.disk_model.specs.Journal.{ReadAll, ReadFront, Refused, Remove, Rename, StatPath}
use Rattle.disk_model.specs.Journal.{Sync, SyncDir, WriteAt}
use Rattle.disk_model.specs.Judge.{Called, Grows}
use Rattle.disk_model.specs.Refusals.{file_refusal, free_refusal, target_refusal}
use Rattle.disk_model.specs.State.{File, State, after_entry, changed, is_file, name_at}
use Rattle.disk_model.specs.State.{run_entries, settled, tree_of, written}
use Rattle.disk_model.specs.Tree.{TreeNode, is_root, node_at}
use Rattle.disk_model.specs.declared.answers.DiskError.{DiskError}
use Rattle.disk_model.specs.declared.answers.DiskError.TheVariants as disk
use Rattle.disk_model.proofs.Runs.{run_entries-append}
use Rattle.disk_model.proofs.Trees.{node_at-tree_of, node_by}
use Rattle.folder_core.specs.Directory.{node_file}
use Rattle.folder_drivers.specs.MhNames.{IsSidePath}
use Rattle.folder_drivers.proofs.Touching.{Misses, own_same, removed_node, same_node}
use Rattle.folder_stops.specs.Along.{Grown}
use Rattle.folder_stops.specs.Does.{AllOwn}
use Rattle.folder_stops.proofs.Along.{done_grown, grown_map}
use Rattle.mh_appends.specs.Leftovers.{IsPreparing, MakesReady}
use Rattle.mh_appends.specs.Replacing.{WasDone, WroteFile}
use Rattle.mh_appends.proofs.Holding.{created}
use Rattle.mh_appends.proofs.Tracing.{Hushes, Traces, traces_call, traces_made}
use Rattle.mh_appends.proofs.Tracing.{traces_then}
use Rattle.mh_appends.proofs.Working.{own_as}

true_false : ◌≡◌ {A = Bool} true false → ⊥
true_false e = cc

-- At other paths.

-- what is said of what stands at a path
abbrev pub At : (Option TreeNode → Bool) → List ℕ → List TreeNode → Bool
At f q tree = f (node_at tree q)

module _ (f : Option TreeNode → Bool) (q : List ℕ) where
  pub misses_hushes : (call : Call) → Misses q call → (answer : Answer)
      → Hushes (At f q) call answer
  misses_hushes call misses answer s sturdy not =
      ap f (same_node q s (after_entry s (Own call answer))
      (own_same q call answer s sturdy misses))
      ∙ not

  -- a call at another path
  pub missed : {T : Type 0} (result : Result T DiskError) {call : Call}
      {wanted : List TreeNode → Result T DiskError} (a b : Option Past) → Misses q call
      → Called result call wanted a b → Traces false (At f q) a b
  missed result a b misses took =
      traces_call (At f q) result a b (misses_hushes _ misses) took

  -- a file that is written at another path
  pub missed_file : (at bytes : List ℕ) (a b : Option Past) → at ≢ q → WroteFile at bytes a b
      → Traces false (At f q) a b
  missed_file at bytes a b other wrote =
      traces_then (At f q) false a wrote.made b (missed (Ok tt) a wrote.made other wrote.creates)
      (traces_then (At f q) false wrote.made wrote.wrote b
      (missed (Ok tt) wrote.made wrote.wrote other wrote.writes)
      (missed (Ok tt) wrote.wrote b other wrote.syncs))

  -- what was left over is taken away
  module _ (path : List ℕ)
      (removes : (at : List ℕ) → IsSidePath path at → (answer : Answer)
      → Hushes (At f q) (Remove at) answer) where
    preparing : (call : Call) (answer : Answer) → IsPreparing path call answer
        → Hushes (At f q) call answer
    preparing (ListDir at) answer is = misses_hushes (ListDir at) tt answer
    preparing (StatPath at) answer is = misses_hushes (StatPath at) tt answer
    preparing (Remove at) answer is = removes at is answer
    preparing (ReadFront at size) answer is = absurd is
    preparing (ReadAll at limit) answer is = absurd is
    preparing (Create at) answer is = absurd is
    preparing (WriteAt at from piece) answer is = absurd is
    preparing (Cut at size) answer is = absurd is
    preparing (Sync at) answer is = absurd is
    preparing (Rename from to) answer is = absurd is
    preparing (SyncDir at) answer is = absurd is
    preparing (MakeDir at) answer is = absurd is

    pub ready_hushed : (a b : Option Past) → MakesReady path a b
        → Grown a b (λ s es. AllOwn (Hushes (At f q)) es)
    ready_hushed a b ready = grown_map a b _ _ ready.only
        (λ s es all. own_as (IsPreparing path) (Hushes (At f q)) preparing es all)

-- At the path itself.

abbrev pub no_file : Option TreeNode → Bool
no_file node = is_some (file_refusal node)

abbrev pub no_target : Option TreeNode → Bool
no_target node = is_some (target_refusal node)

abbrev pub no_room : Option TreeNode → Bool
no_room node = is_some (free_refusal node)

module _ (p : List ℕ) where
  -- whether a file stands there tell the names alone
  named_file : (s : State) → At no_file p (tree_of s) ≡ not (is_file (name_at s.names p))
  named_file s = ap no_file (node_at-tree_of s p) ∙ by (name_at s.names p)
    where
      by : (at : Option (Option ℕ)) → no_file (node_by s.files p at) ≡ not (is_file at)
      by None = refl
      by (Some None) = refl
      by (Some (Some n)) = refl

  same_names : (call : Call) (answer : Answer)
      → ((s : State) → (after_entry s (Own call answer)).names ≡ s.names)
      → Hushes (At no_file p) call answer
  same_names call answer same s sturdy none =
      named_file (after_entry s (Own call answer))
      ∙ (λ i. not (is_file (name_at (same s i) p)))
      ∙ sym (named_file s) ∙ none

  changed_names : (change : ℕ → File → File) (s : State) (at : Option (Option ℕ))
      → (changed at change s).names ≡ s.names
  changed_names change s None = refl
  changed_names change s (Some None) = refl
  changed_names change s (Some (Some n)) = refl

  settled_names : (s : State) (at : Option (Option ℕ)) → (settled at s).names ≡ s.names
  settled_names s None = refl
  settled_names s (Some None) = refl
  settled_names s (Some (Some n)) = refl

  pub write_hushes : (from : ℕ) (piece : List ℕ) (answer : Answer)
      → Hushes (At no_file p) (WriteAt p from piece) answer
  write_hushes from piece Done = same_names (WriteAt p from piece) Done
      (λ s. changed_names (written from piece) s (name_at s.names p))
  write_hushes from piece (Refused why wrote) =
      same_names (WriteAt p from piece) (Refused why wrote) (λ s. by (wrote == 0) s)
    where
      by : (t : Bool) (s : State) → (if t then s
          else changed (name_at s.names p) (written from (take wrote piece)) s).names ≡ s.names
      by true s = refl
      by false s = changed_names (written from (take wrote piece)) s (name_at s.names p)

  pub sync_hushes : (answer : Answer) → Hushes (At no_file p) (Sync p) answer
  sync_hushes Done = same_names (Sync p) Done (λ s. settled_names s (name_at s.names p))
  sync_hushes (Refused why wrote) = same_names (Sync p) (Refused why wrote) (λ s. refl)

  module _ (no_root : is_root p ≡ false) where
    pub remove_hushes : (answer : Answer) → Hushes (At no_room p) (Remove p) answer
    remove_hushes Done s sturdy none = ap no_room (removed_node p s no_root)
    remove_hushes (Refused why wrote) s sturdy none = none

    file_stands : (node : Option TreeNode) (bytes : List ℕ)
        → option_and_then node_file node ≡ Some bytes
        → (no_file node ≡ false) × (no_target node ≡ false)
    file_stands None bytes is = absurd (cc)
    file_stands (Some node) bytes is = by node.bytes is
      where
        by : (held : Option (List ℕ)) → held ≡ Some bytes
            → (is_some (if is_none held then Some disk.WrongNode else None) ≡ false)
            × (is_some (if is_none held then Some disk.WrongNode else None) ≡ false)
        by None e = absurd (cc)
        by (Some given) e = (refl, refl)

    made_end : (f : Option TreeNode → Bool) → ((s : State)
        → At f p (tree_of (after_entry s (Own (Create p) Done))) ≡ false) → (a b : Option Past)
        → WasDone (Create p) a b
        → Grown a b (λ s es. At f p (tree_of (run_entries es s)) ≡ false)
    made_end f ends a b took = grown_map a b _ _ (done_grown tt (Create p) _ a b took.goes)
        (λ s es is. ap (λ (t : State). At f p (tree_of t))
        (ap (λ (l : List Entry). run_entries l s) is.1
        ∙ run_entries-append (map Others is.0) (Own (Create p) Done ∷ []) s)
        ∙ ends (run_entries (map Others is.0) s))

    -- no folder stands where we made a file, until others make one
    pub no_folder_made : (a b c : Option Past) → Grows a b → WasDone (Create p) b c
        → Traces true (At no_target p) a c
    no_folder_made a b c on took = traces_made (At no_target p) a b c on
        (made_end no_target (λ s. (file_stands _ [] (created p s no_root)).1) b c took)

    -- a file that we made stands there, until others take it away
    pub stands_made : (a b c : Option Past) → Grows a b → WasDone (Create p) b c
        → Traces true (At no_file p) a c
    stands_made a b c on took = traces_made (At no_file p) a b c on
        (made_end no_file (λ s. (file_stands _ [] (created p s no_root)).0) b c took)

    pub stands_written : (bytes : List ℕ) (a b c d : Option Past) → Grows a b
        → WasDone (Create p) b c → WasDone (WriteAt p 0 bytes) c d → Traces true (At no_file p) a d
    stands_written bytes a b c d on makes writes =
        traces_then (At no_file p) true a c d (stands_made a b c on makes)
        (traces_call (At no_file p) (Ok tt) c d (write_hushes 0 bytes) writes)

    pub stands_whole : (bytes : List ℕ) (a b c : Option Past) → Grows a b
        → WroteFile p bytes b c → Traces true (At no_file p) a c
    stands_whole bytes a b c on wrote =
        traces_then (At no_file p) true a wrote.wrote c
        (stands_written bytes a b wrote.made wrote.wrote on wrote.creates wrote.writes)
        (traces_call (At no_file p) (Ok tt) wrote.wrote c sync_hushes wrote.syncs)
