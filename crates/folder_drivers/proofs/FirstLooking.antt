-- What the first look of an append has found, while others follow.
use Rattle.std.proofs.Common.{◌≡◌, ◌&&◌, ℕ, Bool, true, false, not, List, [], ◌∷◌, ◌++◌, Option}
use Rattle.std.proofs.Common.{Some, None, Result, Ok, Err, map, refl, sym, ◌∙◌, ap, subst, is_none}
use Rattle.std.proofs.Common.{if◌then◌else◌}
use Rattle.std.specs.Result.{IsErr, IsErrAnd}
use Rattle.std.proofs.lemmas.List.{append-nil}
use Rattle.disk_model.specs.Journal.{Action, Answer, Call, Entry, ListDir, Others, Own, Past}
use Rattle.disk_model.specs.Judge.{Called, GoesOn, OneStep, answer_by, list_of}
use Rattle.disk_model.specs.Names.{names_in}
use Rattle.disk_model.specs.Refusals.{folder_refusal}
use Rattle.disk_model.specs.State.{State, after_entry, run_entries, tree_of}
use Rattle.disk_model.specs.Tree.{TreeNode, is_folder_node, node_at}
use Rattle.disk_model.specs.declared.answers.DiskError.{DiskError}
use Rattle.disk_model.specs.declared.answers.DiskError.TheVariants as disk
use Rattle.folder_core.specs.Directory.{is_folder_at}
use Rattle.folder_core.specs.FirstLook.{has_failed}
use Rattle.folder_stops.specs.Along.{Grown, Onward}
use Rattle.folder_stops.specs.Appends.{AddsSome}
use Rattle.folder_stops.specs.Folder.{FileFolder}
use Rattle.folder_stops.proofs.Along.{grown_map, grown_none, grown_then, judged_grown}
use Rattle.folder_stops.proofs.Along.{refused_grown}
use Rattle.folder_drivers.specs.FirstLooking.{LooksFirst, MeetsFolder, TellsNoFolder, has_own}
use Rattle.folder_drivers.specs.FirstLooking.{met_no_folder}
use Rattle.folder_drivers.specs.Preparing.{Prepares}
use Rattle.folder_changes.specs.Refused.{refused_by}
use Rattle.folder_changes.specs.declared.sync_error.SyncError.{SyncError}
use Rattle.folder_changes.specs.declared.sync_error.SyncError.TheVariants.{NotFolder}

by_bytes : (bytes : Option (List ℕ)) (names named : List (List ℕ))
    → Ok names ≡ answer_by (if is_none bytes then None else Some disk.WrongNode) named
    → is_none bytes ≡ true
by_bytes None names named e = refl
by_bytes (Some bytes) names named e = absurd (cc)

module _ (dir : List ℕ) where
  met_last : (actions : List Action) (s : State) (call : Call) (answer : Answer)
      → met_no_folder dir s (map Others actions ++ Own call answer ∷ [])
      ≡ (not (has_failed answer)
      && not (is_folder_at (tree_of (run_entries (map Others actions) s)) dir))
  met_last [] s call answer = refl
  met_last (action ∷ actions) s call answer =
      met_last actions (after_entry s (Others action)) call answer

  own_last : (actions : List Action) (call : Call) (answer : Answer)
      → has_own (map Others actions ++ Own call answer ∷ []) ≡ true
  own_last [] call answer = refl
  own_last (action ∷ actions) call answer = own_last actions call answer

  by_node : (node : Option TreeNode) (names named : List (List ℕ))
      → Ok names ≡ answer_by (folder_refusal node) named → is_folder_node node ≡ true
  by_node None names named e = absurd (cc)
  by_node (Some node) names named e = by_bytes node.bytes names named e

  listed_folder : (tree : List TreeNode) (names : List (List ℕ)) → Ok names ≡ list_of tree dir
      → is_folder_at tree dir ≡ true
  listed_folder tree names e = by_node (node_at tree dir) names (names_in tree dir) e

  -- the first look was done
  pub found_at : {names : List (List ℕ)} {a b : Option Past} {path : List ℕ} → path ≡ dir
      → Called (Ok names) (ListDir path) (λ tree. list_of tree path) a b → MeetsFolder dir a b
  found_at {names} {a} {b} is took =
      let call = subst
      (λ (p : List ℕ). Called (Ok names) (ListDir p) (λ tree. list_of tree p) a b) is took in
      record {
        grown = grown_map a b _ _
            (judged_grown names (ListDir dir) (λ tree. list_of tree dir) a b call.goes)
            (λ s es is. (
              ap has_own is.1 ∙ own_last is.0 _ _,
              ap (met_no_folder dir s) is.1 ∙ met_last is.0 s _ _
                  ∙ ap not (listed_folder _ names is.2),
            ));
      }

  -- the first look failed
  met_none : (actions : List Action) (s : State) (call : Call) (answer : Answer)
      → has_failed answer ≡ true
      → met_no_folder dir s (map Others actions ++ Own call answer ∷ []) ≡ false
  met_none actions s call answer failed = met_last actions s call answer
      ∙ ap (λ (b : Bool). not b
      && not (is_folder_at (tree_of (run_entries (map Others actions) s)) dir)) failed

  no_more : (b : Bool) → b ≡ false → b ≡ true → ⊥
  no_more b none some = cc

  abbrev MetNone : State → List Entry → Type 0
  MetNone s es = met_no_folder dir s es ≡ true → ⊥

  failed : (past new : Past) (T : Type 0) (call : Call)
      (wanted : List TreeNode → Result T DiskError)
      → OneStep (Err disk.Fault) call wanted past new → Onward MetNone past new
  failed past new T call wanted step = record {
    same_first = step.same_first;
    more = map Others step.actions ++ Own call step.answer ∷ [];
    journal = step.journal;
    along = no_more _
        (met_none step.actions _ call step.answer (ap has_failed step.answered.1));
  }

  nothing_done : (a b : Option Past) → GoesOn (λ past next. next ≡ past) a b → Grown a b MetNone
  nothing_done None b step = step
  nothing_done (Some past) None step = absurd step
  nothing_done (Some past) (Some new) step = record {
    same_first = ap (λ (p : Past). p.first) step;
    more = [];
    journal = ap (λ (p : Past). p.journal) step ∙ sym (append-nil past.journal);
    along = λ met. absurd (cc);
  }

  one_failed : (a b : Option Past) (T : Type 0) (call : Call)
      (wanted : List TreeNode → Result T DiskError)
      → GoesOn (OneStep (Err disk.Fault) call wanted) a b → Grown a b MetNone
  one_failed None b T call wanted step = step
  one_failed (Some past) None T call wanted step = absurd step
  one_failed (Some past) (Some new) T call wanted step = failed past new T call wanted step

  -- it was refused: where it met no folder the append is refused for that
  refused_first : (T : Type 0) (why : DiskError) (call : Call)
      (wanted : List TreeNode → Result T DiskError) (a b : Option Past)
      → Called (Err why) call wanted a b
      → Grown a b (λ s es. met_no_folder dir s es ≡ true → refused_by why ≡ NotFolder)
  refused_first T disk.Missing call wanted a b took =
      grown_map a b _ _ (refused_grown disk.Missing call wanted a b took.goes) (λ s es is met. refl)
  refused_first T disk.WrongNode call wanted a b took =
      grown_map a b _ _ (refused_grown disk.WrongNode call wanted a b took.goes)
      (λ s es is met. refl)
  refused_first T disk.Exists call wanted a b took =
      grown_map a b _ _ (refused_grown disk.Exists call wanted a b took.goes) (λ s es is met. refl)
  refused_first T (disk.Long size) call wanted a b took =
      grown_map a b _ _ (refused_grown (disk.Long size) call wanted a b took.goes)
      (λ s es is met. refl)
  refused_first T disk.Fault call wanted a b took =
      grown_map a b MetNone _ (one_failed a b T call wanted took.goes)
      (λ s es no met. absurd (no met))
  refused_first T disk.NoMemory call wanted a b took =
      grown_map a b MetNone _ (nothing_done a b took.goes) (λ s es no met. absurd (no met))

  refused_as : {T : Type 0} {why : DiskError} {e : SyncError} {call : Call}
      {wanted : List TreeNode → Result T DiskError} {a b : Option Past} → e ≡ refused_by why
      → Called (Err why) call wanted a b → TellsNoFolder dir e a b
  refused_as {T} {why} {e} {call} {wanted} {a} {b} is took = record {
    grown = grown_map a b _ _ (refused_first T why call wanted a b took)
        (λ s es told met. is ∙ told met);
  }

  pub refused_if : {A T : Type 0} (result : Result A SyncError) {why : DiskError} {call : Call}
      {wanted : List TreeNode → Result T DiskError} {a b : Option Past}
      → IsErrAnd result (λ e. e ≡ refused_by why) → Called (Err why) call wanted a b
      → LooksFirst dir result a b
  refused_if (Ok given) is took = absurd is
  refused_if (Err e) is took = refused_as is took

  -- nothing was looked at
  pub not_looked : {A : Type 0} (result : Result A SyncError) (a : Option Past) → IsErr result
      → LooksFirst dir result a a
  not_looked (Ok given) a is = absurd (cc)
  not_looked (Err e) a is = record { grown = grown_none a _ (λ s met. absurd (cc)) }

  own_more : (xs ys : List Entry) → has_own xs ≡ true → has_own (xs ++ ys) ≡ true
  own_more [] ys own = absurd (cc)
  own_more (Own call answer ∷ xs) ys own = refl
  own_more (Others action ∷ xs) ys own = own_more xs ys own

  met_more : (s : State) (xs ys : List Entry) → has_own xs ≡ true
      → met_no_folder dir s (xs ++ ys) ≡ met_no_folder dir s xs
  met_more s [] ys own = absurd (cc)
  met_more s (Own call answer ∷ xs) ys own = refl
  met_more s (Others action ∷ xs) ys own = met_more (after_entry s (Others action)) xs ys own

  -- others follow
  found_longer : (a b c : Option Past) (Q : State → List Entry → Type 0) → MeetsFolder dir a b
      → Grown b c Q → MeetsFolder dir a c
  found_longer a b c Q first rest = record {
    grown = grown_then a b c _ Q _ first.grown rest (λ s xs ys met q.
        (own_more xs ys met.0, met_more s xs ys met.0 ∙ met.1));
  }

  pub found_prepared : {folder : FileFolder} {a b c : Option Past} → MeetsFolder dir a b
      → Prepares folder b c → MeetsFolder dir a c
  found_prepared {a = a} {b = b} {c = c} first rest =
      found_longer a b c _ first (rest.does None).grown

  pub found_added : {folder : FileFolder} {core : List ℕ} {a b c : Option Past}
      → MeetsFolder dir a b → AddsSome folder core b c → MeetsFolder dir a c
  found_added {a = a} {b = b} {c = c} first rest = found_longer a b c _ first rest.grown

  -- a refusal behind it
  pub found_then_refused : {why : SyncError} {a b : Option Past} → MeetsFolder dir a b
      → TellsNoFolder dir why a b
  found_then_refused {a = a} {b = b} first = record {
    grown = grown_map a b _ _ first.grown (λ s es met no. absurd (no_more _ met.1 no));
  }

  -- whatever is answered behind it
  pub found_first : {A : Type 0} (result : Result A SyncError) {a b : Option Past}
      → MeetsFolder dir a b → LooksFirst dir result a b
  found_first (Ok given) first = first
  found_first (Err why) first = found_then_refused first
