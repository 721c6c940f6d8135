-- What the first look at a mailbox found.
use Rattle.std.proofs.Common.{Bool, Err, List, None, Ok, Option, Result, Some, [], ap, append_assoc}
use Rattle.std.proofs.Common.{false, is_some, map, refl, subst, sym, true, ℕ, ◌++◌, ◌∙◌}
use Rattle.std.proofs.Common.{◌∷◌, ◌≡◌}
use Rattle.std.proofs.lemmas.List.{append-nil}
use Rattle.disk_model.specs.Tree.{TreeNode, node_at}
use Rattle.disk_model.specs.Journal.{Action, Answer, Call, Done, Entry, Others, Own, Past, Refused}
use Rattle.disk_model.specs.Journal.{StatPath}
use Rattle.disk_model.specs.State.{State, after_entry, run_entries, tree_of}
use Rattle.disk_model.specs.Judge.{Called, GoesOn, Grows, OneStep, stat_at, stat_of}
use Rattle.disk_model.specs.declared.answers.DiskError.{DiskError}
use Rattle.disk_model.specs.declared.answers.DiskError.TheVariants.{Exists, Fault as DiskFault}
use Rattle.disk_model.specs.declared.answers.DiskError.TheVariants.{Long, Missing as NotThere}
use Rattle.disk_model.specs.declared.answers.DiskError.TheVariants.{NoMemory as NoRoom, WrongNode}
use Rattle.disk_model.specs.declared.answers.Stat.{Stat}
use Rattle.folder_core.specs.FirstLook.{first_look, found_by}
use Rattle.folder_core.specs.declared.error.ScanError.{ScanError}
use Rattle.folder_core.specs.declared.error.ScanError.TheVariants.{Missing}
use Rattle.folder_stops.proofs.Along.{grown_map, grown_none, grown_then, judged_grown}
use Rattle.folder_tails.specs.Calls.{TellsFirst}
use Rattle.folder_tails.specs.Serving.{scan_error}
use Rattle.folder_tails.proofs.Traces.{grows_grown}

first_of : (actions : List Action) (call : Call) (answer : Answer) (rest : List Entry) (s : State)
    → first_look s (map Others actions ++ Own call answer ∷ rest)
    ≡ Some (record { tree = tree_of (run_entries (map Others actions) s); answer = answer })
first_of [] call answer rest s = refl
first_of (action ∷ actions) call answer rest s =
    first_of actions call answer rest (after_entry s (Others action))

stat_some : (found : Option TreeNode) (stat : Stat) → Ok stat ≡ stat_at found → is_some found ≡ true
stat_some None stat is = absurd (cc)
stat_some (Some node) stat is = refl

some_true : (b : Bool) → b ≡ true → ◌≡◌ {A = Option Bool} (Some b) (Some false) → ⊥
some_true b is e = let f : b ≡ false = cc in absurd (cc (is, f))

-- something was found there
pub found_there : (path : List ℕ) (result : Result (Unit {0}) ScanError) (stat : Stat)
    (a b c : Option Past) → Called (Ok stat) (StatPath path) (λ tree. stat_of tree path) a b
    → Grows b c → TellsFirst path result a c
found_there path result stat a b c took grows =
    grown_then a b c _ _ _
    (judged_grown stat (StatPath path) (λ tree. stat_of tree path) a b took.goes)
    (grows_grown b c grows)
    (λ s xs ys is more none. absurd (
    let tree = tree_of (run_entries (map Others is.0) s) in
    let entries : xs ++ ys ≡ map Others is.0 ++ Own (StatPath path) Done ∷ ys =
    ap (λ (l : List Entry). l ++ ys) is.1
    ∙ append_assoc (map Others is.0) (Own (StatPath path) Done ∷ []) ys in
    let first = ap (first_look s) entries ∙ first_of is.0 (StatPath path) Done ys s in
    let found : Some (is_some (node_at tree path)) ≡ Some false =
    sym (ap (found_by path) first) ∙ none in
    some_true (is_some (node_at tree path)) (stat_some (node_at tree path) stat is.2) found))

-- nothing was called
pub found_none : (path : List ℕ) (result : Result (Unit {0}) ScanError) (a : Option Past)
    → TellsFirst path result a a
found_none path result a = grown_none a _ (λ s none. absurd (cc))

no_step : (path : List ℕ) (result : Result (Unit {0}) ScanError) (a b : Option Past)
    → GoesOn (λ past next. next ≡ past) a b → TellsFirst path result a b
no_step path result None b step = step
no_step path result (Some past) None step = absurd step
no_step path result (Some past) (Some new) step = record {
  same_first = ap (λ (p : Past). p.first) step;
  more = [];
  journal = ap (λ (p : Past). p.journal) step ∙ sym (append-nil past.journal);
  along = λ none. absurd (cc);
}

failed_look : (path : List ℕ) (tree : List TreeNode) (answer : Answer) (wrote : ℕ)
    → answer ≡ Refused DiskFault wrote
    → found_by path (Some (record { tree = tree; answer = answer })) ≡ Some false → ⊥
failed_look path tree answer wrote is none =
    let found : None ≡ Some false =
    sym (ap (λ (w : Answer). found_by path (Some (record { tree = tree; answer = w }))) is) ∙ none
    in
    cc

failed_step : {T : Type 0} (path : List ℕ) (result : Result (Unit {0}) ScanError) (call : Call)
    (wanted : List TreeNode → Result T DiskError) (a b : Option Past)
    → GoesOn (OneStep (Err DiskFault) call wanted) a b → TellsFirst path result a b
failed_step path result call wanted None b step = step
failed_step path result call wanted (Some past) None step = absurd step
failed_step path result call wanted (Some past) (Some new) step = record {
  same_first = step.same_first;
  more = map Others step.actions ++ Own call step.answer ∷ [];
  journal = step.journal;
  along = λ none. absurd (failed_look path _ step.answer step.answered.0 step.answered.1
      (sym (ap (found_by path) (first_of step.actions call step.answer [] _)) ∙ none));
}

told : (path : List ℕ) (a b : Option Past) → Grows a b → TellsFirst path (Err Missing) a b
told path a b grows = grown_map a b _ _ (grows_grown a b grows) (λ s es is none. refl)

-- the look was refused
pub found_refused : (path : List ℕ) (why : DiskError) (answer : ScanError) (a b : Option Past)
    → answer ≡ scan_error why
    → Called {A = Stat} (Err why) (StatPath path) (λ tree. stat_of tree path) a b → Grows a b
    → TellsFirst path (Err answer) a b
found_refused path why answer a b e took grows =
    subst (λ (t : ScanError). TellsFirst path (Err t) a b) (sym e) (by_why why took)
  where
    by_why : (why : DiskError)
        → Called {A = Stat} (Err why) (StatPath path) (λ tree. stat_of tree path) a b
        → TellsFirst path (Err (scan_error why)) a b
    by_why NotThere took = told path a b grows
    by_why WrongNode took = told path a b grows
    by_why Exists took = told path a b grows
    by_why (Long size) took = told path a b grows
    by_why DiskFault took = failed_step {T = Stat} path _ (StatPath path)
        (λ tree. stat_of tree path) a b
        took.goes
    by_why NoRoom took = no_step path _ a b took.goes
