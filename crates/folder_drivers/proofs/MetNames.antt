-- The names that the looks of an append have met, while others follow.
use Rattle.std.proofs.Common.{◌≡◌, ℕ, List, [], ◌∷◌, ◌++◌, Option, Some, None, Result, Ok, Err, map}
use Rattle.std.proofs.Common.{inl, inr, refl, sym, ◌∙◌, ap, subst, append_assoc, is_none}
use Rattle.std.proofs.Common.{IfOk, if◌then◌else◌}
use Rattle.mail_base.specs.Series.{Held}
use Rattle.disk_model.specs.Journal.{Entry, ListDir, Others, Own, Past}
use Rattle.disk_model.specs.Judge.{Called, GoesOn, OneStep, answer_by, list_of}
use Rattle.disk_model.specs.Names.{names_in}
use Rattle.disk_model.specs.Refusals.{folder_refusal}
use Rattle.disk_model.specs.State.{State, run_entries, state_after, state_of, tree_of}
use Rattle.disk_model.specs.Tree.{TreeNode, node_at}
use Rattle.disk_model.specs.declared.answers.DiskError.{DiskError}
use Rattle.disk_model.specs.declared.answers.DiskError.TheVariants as disk
use Rattle.disk_model.proofs.Runs.{run_entries-append}
use Rattle.folder_stops.specs.Along.{Grown, Onward}
use Rattle.folder_stops.specs.Folder.{FileFolder}
use Rattle.folder_stops.proofs.Along.{grown_map, grown_then, judged_grown}
use Rattle.folder_drivers.specs.MetNames.{IsListing, MetNames, SawNames}
use Rattle.folder_drivers.specs.Preparing.{Prepares}
use Rattle.folder_drivers.specs.MetNames.{plain_names}

pub saw_listed : {dir path : List ℕ} {names : List (List ℕ)} {a b : Option Past} → path ≡ dir
    → Called (Ok names) (ListDir path) (λ tree. list_of tree path) a b → SawNames dir names a b
saw_listed {dir} {path} {names} {a} {b} is took =
    let call = subst
    (λ (p : List ℕ). Called (Ok names) (ListDir p) (λ tree. list_of tree p) a b) is took in
    record {
      grown = grown_map a b _ _
          (judged_grown names (ListDir dir) (λ tree. list_of tree dir) a b call.goes)
          (λ s es is. record {
            before = map Others is.0;
            answer = _;
            after = [];
            is = is.1;
            told = inl is.2;
          });
    }

by_bytes : (bytes : Option (List ℕ)) (named : List (List ℕ))
    → Err disk.Missing ≡ answer_by (if is_none bytes then None else Some disk.WrongNode) named → ⊥
by_bytes None named e = cc
by_bytes (Some bytes) named e = cc

by_node : (node : Option TreeNode) (named : List (List ℕ))
    → Err disk.Missing ≡ answer_by (folder_refusal node) named → node ≡ None
by_node None named e = refl
by_node (Some node) named e = absurd (by_bytes node.bytes named e)

missing_step : (dir : List ℕ) (past new : Past)
    → OneStep (Err disk.Missing) (ListDir dir) (λ tree. list_of tree dir) past new
    → Onward (MetNames dir []) past new
missing_step dir past new s = record {
  same_first = s.same_first;
  more = map Others s.actions ++ Own (ListDir dir) s.answer ∷ [];
  journal = s.journal;
  along = record {
    before = map Others s.actions;
    answer = s.answer;
    after = [];
    is = refl;
    told = inr (
      refl,
      by_node (node_at (tree_of (run_entries (map Others s.actions) (state_after past))) dir)
          (names_in (tree_of (run_entries (map Others s.actions) (state_after past))) dir)
          (s.judged ∙ ap (λ (state : State). list_of (tree_of state) dir)
          (run_entries-append past.journal (map Others s.actions) (state_of past.first))),
    );
  };
}

missing_grown : (dir : List ℕ) (a b : Option Past)
    → GoesOn (OneStep (Err disk.Missing) (ListDir dir) (λ tree. list_of tree dir)) a b
    → Grown a b (MetNames dir [])
missing_grown dir None b step = step
missing_grown dir (Some past) None step = absurd step
missing_grown dir (Some past) (Some new) step = missing_step dir past new step

pub saw_missing : {dir path : List ℕ} {names : List (List ℕ)} {a b : Option Past} → path ≡ dir
    → names ≡ [] → Called (Err disk.Missing) (ListDir path) (λ tree. list_of tree path) a b
    → SawNames dir names a b
saw_missing {dir} {path} {names} {a} {b} is none took =
    let call = subst (λ (p : List ℕ).
    Called (Err disk.Missing) (ListDir p) (λ tree. list_of tree p) a b) is took in
    subst (λ (l : List (List ℕ)). SawNames dir l a b) (sym none)
    (record { grown = missing_grown dir a b call.goes })

pub prepared_saw : {folder : FileFolder} {dir : List ℕ} {names : List (List ℕ)}
    {a b c : Option Past} → Prepares folder a b → SawNames dir names b c → SawNames dir names a c
prepared_saw {dir = dir} {names = names} {a = a} {b = b} {c = c} first rest = record {
  grown = grown_then a b c _ _ _ (first.does None).grown rest.grown (λ s xs ys done met. record {
    before = xs ++ met.before;
    answer = met.answer;
    after = met.after;
    is = ap (λ (l : List Entry). xs ++ l) met.is
        ∙ sym (append_assoc xs met.before (Own (ListDir dir) met.answer ∷ met.after));
    told = subst (λ (state : State). IsListing dir names (tree_of state))
        (sym (run_entries-append xs met.before s)) met.told;
  });
}

-- whatever comes behind
pub saw_longer : {dir : List ℕ} {names : List (List ℕ)} {a b c : Option Past}
    (Q : State → List Entry → Type 0) → SawNames dir names a b → Grown b c Q
    → SawNames dir names a c
saw_longer {dir = dir} {names = names} {a = a} {b = b} {c = c} Q first rest = record {
  grown = grown_then a b c _ Q _ first.grown rest (λ s xs ys met done. record {
    before = met.before;
    answer = met.answer;
    after = met.after ++ ys;
    is = ap (λ (l : List Entry). l ++ ys) met.is
        ∙ append_assoc met.before (Own (ListDir dir) met.answer ∷ met.after) ys;
    told = met.told;
  });
}

pub saw_prepared : {folder : FileFolder} {dir : List ℕ} {names : List (List ℕ)}
    {a b c : Option Past} → SawNames dir names a b → Prepares folder b c → SawNames dir names a c
saw_prepared first rest = saw_longer _ first (rest.does None).grown

-- the names of a directory that was missing and is made
pub saw_made : {E : Type 0} (result : Result (Held (Held ℕ)) E) {folder : FileFolder}
    {dir path : List ℕ} {why : DiskError} {a b c : Option Past} → path ≡ dir
    → IfOk result (λ names. names.items ≡ []) → why ≡ disk.Missing
    → Called (Err why) (ListDir path) (λ tree. list_of tree path) a b
    → Prepares folder b c → IfOk result (λ names. SawNames dir (plain_names names) a c)
saw_made (Ok names) {path = path} {a = a} {b = b} is none missing took made =
    saw_prepared (saw_missing is (ap (map (λ name. name.items)) none)
    (subst (λ (e : DiskError). Called (Err e) (ListDir path) (λ tree. list_of tree path) a b)
    missing took)) made
saw_made (Err e) is none missing took made = tt
