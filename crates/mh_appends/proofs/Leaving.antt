-- Files that were left over go away, and the messages stay.
use Rattle.std.proofs.Common.{arith, ◌≡◌, ◌≢◌, ◌++◌, ◌∷◌, ◌∙◌, [], List, None, Option, Some}
use Rattle.std.proofs.Common.{Result, Ok}
use Rattle.std.proofs.Common.{Err, ap, inl, inr}
use Rattle.std.proofs.Common.{map, refl, subst, sym, false, ℕ}
use Rattle.std.specs.Prelude.{◌≤◌, IfErr, OnOk, codes}
use Rattle.disk_model.specs.Judge.{Counted, done_by}
use Rattle.disk_model.specs.Refusals.{file_refusal}
use Rattle.disk_model.specs.State.{tree_at}
use Rattle.disk_model.specs.Tree.{is_root}
use Rattle.disk_model.proofs.Runs.{run_entries-append}
use Rattle.folder_changes.proofs.TraceLemmas.{met_refusal}
use Rattle.folder_core.proofs.NamesIn.{path_is_in}
use Rattle.folder_drivers.specs.MaildirAppend.{is_there}
use Rattle.folder_drivers.specs.MhNames.{append_path, new_sequences_path}
use Rattle.folder_drivers.proofs.Touching.{removed_node}
use Rattle.mh_appends.specs.Leftovers.{MetNone}
use Rattle.disk_model.specs.Journal.{StatPath}
use Rattle.disk_model.specs.Seen.{Seen}
use Rattle.disk_model.specs.Judge.{Grows}
use Rattle.folder_core.proofs.SeenLemmas.{goes_as, rose_later}
use Rattle.folder_core.specs.declared.error.ScanError.{ScanError}
use Rattle.folder_core.specs.FirstLook.{Look, first_look, found_by, has_failed}
use Rattle.folder_core.specs.declared.error.ScanError.TheVariants.{Fault, Missing}
use Rattle.disk_model.specs.Judge.{stat_at, stat_of}
use Rattle.disk_model.specs.State.{after_entry, run_entries, state_after, tree_of}
use Rattle.disk_model.specs.Tree.{node_at}
use Rattle.disk_model.specs.declared.answers.Stat.{Stat}
use Rattle.std.proofs.lemmas.List.{append-nil}
use Rattle.folder_stops.proofs.Along.{judged_grown}
use Rattle.std.proofs.Common.{Bool, if◌then◌else◌, is_none, is_some, true}
use Rattle.folder_changes.specs.Refused.{IsBetween}
use Rattle.folder_drivers.specs.Recovered.{IsLeftError, MissesLeft, TakesLeft}
use Rattle.folder_stops.specs.Syncs.{KeepsHolds}
use Rattle.mh_appends.specs.Leftovers.{left_error}
use Rattle.disk_model.specs.Tree.{TreeNode}
use Rattle.disk_model.specs.Journal.{Action, Answer, Call, Done, Entry, Others, Own, Past}
use Rattle.disk_model.specs.Journal.{Refused, Remove}
use Rattle.disk_model.specs.Judge.{Called, GoesOn, OneStep}
use Rattle.disk_model.specs.State.{State}
use Rattle.disk_model.specs.declared.answers.DiskError.{DiskError}
use Rattle.disk_model.specs.declared.answers.DiskError.TheVariants as disk
use Rattle.folder_core.specs.Directory.{path_in}
use Rattle.folder_core.specs.Mh.{is_number}
use Rattle.folder_drivers.specs.Recovered.{IsTaken, TakesSide}
use Rattle.folder_drivers.proofs.Preparing as P
use Rattle.folder_shapes.specs.Mh.{mh_files, mh_shape}
use Rattle.folder_shapes.proofs.MhLemmas.{an_mh_folder, mh_formed}
use Rattle.folder_stops.specs.Along.{Grown, Onward}
use Rattle.folder_stops.proofs.Along.{done_grown, grown_map, grown_none, grown_then}
use Rattle.folder_stops.proofs.Along.{refused_grown}
use Rattle.folder_stops.proofs.Among.{among_left, among_right, done_among}
use Rattle.folder_stops.proofs.Does.{own_append}
use Rattle.folder_stops.proofs.Syncs as S
use Rattle.mh_appends.specs.Leftovers.{FailsTaking, IsLeftName, NotTaken, TakesBoth, TakesOne}
use Rattle.mh_appends.specs.Leftovers.{TakesOver, unless_missing}
use Rattle.mh_appends.specs.Replacing.{WasNotDone}
use Rattle.mh_appends.proofs.Calls.{only_call}
use Rattle.mh_appends.proofs.Paths.{is_home, no_slot}
use Rattle.mh_appends.proofs.Tracing.{met_before, met_behind, met_end}

module _ (path : List ℕ) where
  -- nothing was done
  pub takes_none : (a : Option Past) → TakesOver path a a
  takes_none a = record {
    prepares = P.started (mh_files path) (an_mh_folder path) a;
    syncs = S.begun (mh_shape path) (mh_files path).sides [] (mh_formed path) a;
    only = grown_none a _ (λ s. tt);
  }

  pub takes_then : {a b c : Option Past} → TakesOver path a b → TakesOver path b c
      → TakesOver path a c
  takes_then {a} {b} {c} first rest = record {
    prepares = P.then (mh_files path) (an_mh_folder path) first.prepares rest.prepares;
    syncs = S.joined (mh_shape path) (mh_files path).sides [] first.syncs rest.syncs;
    only = grown_then a b c _ _ _ first.only rest.only
        (λ s xs ys one two. own_append (TakesSide path) xs ys one two);
  }

  no_number : (name : List ℕ) → IsLeftName name → is_number name ≡ false
  no_number name (inl is) = ap is_number is
  no_number name (inr is) = ap is_number is

  takes_side : (name : List ℕ) → IsLeftName name → (answer : Answer)
      → TakesSide path (Remove (path_in path name)) answer
  takes_side name (inl is) answer = inl (ap (path_in path) is)
  takes_side name (inr is) answer = inr (ap (path_in path) is)

  -- such a file was removed, or not
  pub takes_removed : (name : List ℕ) {at : List ℕ} {result : Result (Unit {0}) DiskError}
      {wanted : List TreeNode → Result (Unit {0}) DiskError} {a b : Option Past} → IsLeftName name
      → at ≡ path_in path name → Called result (Remove at) wanted a b → TakesOver path a b
  takes_removed name {at} {result} {wanted} {a} {b} left is took =
      let call = subst (λ (p : List ℕ). Called result (Remove p) wanted a b) is took in
      let none = no_slot path name (no_number name left) in record {
        prepares = P.cleared (mh_files path) (an_mh_folder path) none (is_home path name) call;
        syncs = S.cleared (mh_shape path) (mh_files path).sides [] (mh_formed path) none call;
        only = only_call (TakesSide path) result (takes_side name left) call;
      }

  -- nothing stands there then
  removed_end : (at : List ℕ) → is_root at ≡ false → {v : Unit {0}}
      {wanted : List TreeNode → Result (Unit {0}) DiskError} (a b : Option Past)
      → Called (Ok v) (Remove at) wanted a b → MetNone at a b
  removed_end at no_root {v} {wanted} a b took = met_end (is_there at) a b
      (grown_map a b _ _ (done_grown v (Remove at) wanted a b took.goes)
      (λ s es is. ap (λ (t : State). is_there at (tree_of t))
      (ap (λ (l : List Entry). run_entries l s) is.1
      ∙ run_entries-append (map Others is.0) (Own (Remove at) Done ∷ []) s)
      ∙ ap is_some (removed_node at (run_entries (map Others is.0) s) no_root)))

  no_node : (node : Option TreeNode) → file_refusal node ≡ Some disk.Missing
      → is_some node ≡ false
  no_node None is = refl
  no_node (Some node) is = by (is_none node.bytes) is
    where
      by : (folder : Bool) → (if folder then Some disk.WrongNode else None) ≡ Some disk.Missing
          → true ≡ false
      by true e = absurd (cc)
      by false e = absurd (cc)

  missing_end : (at : List ℕ) (a b : Option Past) → WasNotDone disk.Missing (Remove at) a b
      → MetNone at a b
  missing_end at a b took = goes_as a b (λ p q step.
      let met = met_refusal disk.Missing (Remove at) p q tt step in record {
        mark = met.mark;
        from = met.from;
        to = met.to;
        is = no_node (node_at (tree_at q met.mark) at) met.met;
      }) took.goes

  left_root : (name : List ℕ) → IsLeftName name → is_root (path_in path name) ≡ false
  left_root name (inl is) = ap (λ (n : List ℕ). is_root (path_in path n)) is
      ∙ (path_is_in path (codes ".mh_sequences.new") refl).no_root
  left_root name (inr is) = ap (λ (n : List ℕ). is_root (path_in path n)) is
      ∙ (path_is_in path (codes ".mutt_append") refl).no_root

  -- it was removed
  pub taken : (name : List ℕ) {at : List ℕ}
      {wanted : List TreeNode → Result (Unit {0}) DiskError} {v : Unit {0}} {a b : Option Past}
      → IsLeftName name → at ≡ path_in path name → Called (Ok v) (Remove at) wanted a b
      → TakesOne path name a b
  taken name {at} {wanted} {v} {a} {b} left is took = record {
    grown = grown_map a b _ _
        (done_among (subst (λ (p : List ℕ). Called (Ok v) (Remove p) wanted a b) is took))
        (λ s es among. inl among);
    only = only_call (λ call answer. call ≡ Remove (path_in path name)) (Ok v)
        (λ answer. ap Remove is) took;
    gone = removed_end (path_in path name) (left_root name left) a b
        (subst (λ (p : List ℕ). Called (Ok v) (Remove p) wanted a b) is took);
  }

  missing_step : (at : List ℕ) (wanted : List TreeNode → Result (Unit {0}) DiskError)
      (past new : Past) → OneStep (Err disk.Missing) (Remove at) wanted past new
      → Onward (λ s es. IsTaken at es) past new
  missing_step at wanted past new step = record {
    same_first = step.same_first;
    more = map Others step.actions ++ Own (Remove at) step.answer ∷ [];
    journal = step.journal;
    along = inr (among_right (Own (Remove at) (Refused disk.Missing 0)) (map Others step.actions)
        (Own (Remove at) step.answer ∷ [])
        (inl (ap (Own (Remove at)) (sym step.answered))));
  }

  missing_grown : (at : List ℕ) (wanted : List TreeNode → Result (Unit {0}) DiskError)
      (a b : Option Past) → GoesOn (OneStep (Err disk.Missing) (Remove at) wanted) a b
      → Grown a b (λ s es. IsTaken at es)
  missing_grown at wanted None b step = step
  missing_grown at wanted (Some past) None step = absurd step
  missing_grown at wanted (Some past) (Some new) step = missing_step at wanted past new step

  -- it did not stand there
  not_there : (name : List ℕ) {at : List ℕ} {why : DiskError} {a b : Option Past}
      → at ≡ path_in path name → why ≡ disk.Missing → WasNotDone why (Remove at) a b
      → TakesOne path name a b
  not_there name {at} {why} {a} {b} is missing took =
      let call = subst (λ (e : DiskError). WasNotDone e (Remove at) a b) missing took in
      record {
        grown = subst (λ (p : List ℕ). Grown a b (λ s es. IsTaken p es)) is
            (missing_grown at (done_by (Remove at)) a b call.goes);
        only = only_call (λ other answer. other ≡ Remove (path_in path name)) (Err disk.Missing)
            (λ answer. ap Remove is) call;
        gone = subst (λ (p : List ℕ). MetNone p a b) is (missing_end at a b call);
      }

  -- a refusal, unless it is that
  module _ (name : List ℕ) {at : List ℕ} (why : DiskError) (result : Result (Unit {0}) DiskError)
      (is : result ≡ unless_missing why) (here : at ≡ path_in path name) {a b : Option Past}
      (took : WasNotDone why (Remove at) a b) where
    by_answer : (P : Result (Unit {0}) DiskError → Type 0) → (why ≡ disk.Missing → P (Ok tt))
        → (why ≢ disk.Missing → P (Err why)) → P result
    by_answer P missing other = subst P (sym is) (by why refl)
      where
        by : (e : DiskError) → why ≡ e → P (unless_missing e)
        by disk.Missing same = missing same
        by disk.WrongNode same = subst (λ (e : DiskError). P (Err e)) same
            (other (λ none. cc))
        by disk.Exists same = subst (λ (e : DiskError). P (Err e)) same
            (other (λ none. cc))
        by (disk.Long size) same = subst (λ (e : DiskError). P (Err e)) same
            (other (λ none. cc))
        by disk.Fault same = subst (λ (e : DiskError). P (Err e)) same
            (other (λ none. cc))
        by disk.NoMemory same = subst (λ (e : DiskError). P (Err e)) same
            (other (λ none. cc))

    pub gone_anyway : OnOk result (TakesOne path name a b)
    gone_anyway = by_answer (λ r. OnOk r (TakesOne path name a b))
        (λ missing. not_there name here missing took) (λ other. tt)

    pub not_gone : IfErr result (λ e. NotTaken path name e a b)
    not_gone = by_answer (λ r. IfErr r (λ e. NotTaken path name e a b)) (λ missing. tt)
        (λ other. record {
          other = other;
          fails = subst (λ (p : List ℕ). WasNotDone why (Remove p) a b) here took;
        })

  pub counts_gone : (why : DiskError) (result : Result (Unit {0}) DiskError)
      → result ≡ unless_missing why → {a b : Seen} → Counted {A = Unit {0}} (Err why) a b
      → Counted result a b
  counts_gone why result is {a} {b} counted =
      subst (λ (r : Result (Unit {0}) DiskError). Counted r a b) (sym is) (by why counted)
    where
      by : (e : DiskError) → Counted {A = Unit {0}} (Err e) a b → Counted (unless_missing e) a b
      by disk.Missing was = record {
        marks = was.marks;
        faults = was.faults;
        cause = λ e. absurd (cc);
      }
      by disk.WrongNode was = was
      by disk.Exists was = was
      by (disk.Long size) was = was
      by disk.Fault was = was
      by disk.NoMemory was = was

  taken_left : (at : List ℕ) (xs ys : List Entry) → IsTaken at xs → IsTaken at (xs ++ ys)
  taken_left at xs ys (inl is) = inl (among_left _ xs ys is)
  taken_left at xs ys (inr is) = inr (among_left _ xs ys is)

  taken_right : (at : List ℕ) (xs ys : List Entry) → IsTaken at ys → IsTaken at (xs ++ ys)
  taken_right at xs ys (inl is) = inl (among_right _ xs ys is)
  taken_right at xs ys (inr is) = inr (among_right _ xs ys is)

  pub grown_grows : (a b : Option Past) (Q : State → List Entry → Type 0) → Grown a b Q → Grows a b
  grown_grows a b Q grown = goes_as a b (λ p q more. record {
    same_first = more.same_first;
    more = more.more;
    journal = more.journal;
  }) grown

  -- both are gone
  pub both_taken : {a b c : Option Past} → TakesOne path (codes ".mh_sequences.new") a b
      → TakesOne path (codes ".mutt_append") b c → TakesBoth path a c
  both_taken {a} {b} {c} first rest = record {
    grown = grown_then a b c _ _ _ first.grown rest.grown
        (λ s xs ys one two. (taken_left _ xs ys one, taken_right _ xs ys two));
    empties = record {
      side = met_before (is_there (new_sequences_path path)) a b c first.gone
          (grown_grows b c _ rest.grown);
      append = met_behind (is_there (append_path path)) a b c (grown_grows a b _ first.grown)
          rest.gone;
    };
  }

  -- or not
  pub one_stays : (result : Result (Unit {0}) DiskError) {a b : Option Past} (c : Option Past)
      → TakesOne path (codes ".mh_sequences.new") a b
      → IfErr result (λ e. NotTaken path (codes ".mutt_append") e b c)
      → IfErr result (λ e. FailsTaking path e a c)
  one_stays (Ok v) c first rest = tt
  one_stays (Err e) {b = b} c first rest = inr (record { mid = b; first = first; fails = rest })

  pub on_both : {E : Type 0} (result : Result (Unit {0}) E) {a b : Option Past} (c : Option Past)
      → TakesOne path (codes ".mh_sequences.new") a b
      → OnOk result (TakesOne path (codes ".mutt_append") b c) → OnOk result (TakesBoth path a c)
  on_both (Ok v) c first rest = both_taken first rest
  on_both (Err e) c first rest = tt

  -- the folder was looked at
  pub takes_looked : {T : Type 0} {result : Result T DiskError}
      {wanted : List TreeNode → Result T DiskError} {a b : Option Past}
      → Called result (StatPath path) wanted a b → TakesOver path a b
  takes_looked {result = result} took = record {
    prepares = P.stated (mh_files path) (an_mh_folder path) took;
    syncs = S.looked (mh_shape path) (mh_files path).sides [] (mh_formed path) refl took;
    only = only_call (TakesSide path) result (λ answer. refl) took;
  }

  keeps_over : {a b : Option Past} → TakesOver path a b → KeepsHolds (mh_files path) [] a b
  keeps_over over = S.kept_holds (mh_files path) [] (an_mh_folder path) over.syncs

  left_so : (why : DiskError) → IsLeftError (left_error why)
  left_so disk.Missing = tt
  left_so disk.WrongNode = tt
  left_so disk.Exists = tt
  left_so (disk.Long size) = tt
  left_so disk.Fault = tt
  left_so disk.NoMemory = tt

  fault_of : (why : DiskError) → left_error why ≡ Fault → why ≡ disk.Fault
  fault_of disk.Missing e = absurd (cc)
  fault_of disk.WrongNode e = absurd (cc)
  fault_of disk.Exists e = absurd (cc)
  fault_of (disk.Long size) e = absurd (cc)
  fault_of disk.Fault e = refl
  fault_of disk.NoMemory e = absurd (cc)

  same_error : (a b : ScanError) → ◌≡◌ {A = Result (Unit {0}) ScanError} (Err a) (Err b) → a ≡ b
  same_error a b e = cc

  -- What the first look has found.

  not_both : (found : Option Bool) → found ≡ Some true → found ≡ Some false → ⊥
  not_both found is none = cc

  first_step : (actions : List Action) (s : State) (call : Call) (answer : Answer)
      → first_look s (map Others actions ++ Own call answer ∷ [])
      ≡ Some (record { tree = tree_of (run_entries (map Others actions) s); answer = answer })
  first_step [] s call answer = refl
  first_step (action ∷ actions) s call answer =
      first_step actions (after_entry s (Others action)) call answer

  first_more : (s : State) (xs ys : List Entry) (look : Look) → first_look s xs ≡ Some look
      → first_look s (xs ++ ys) ≡ Some look
  first_more s [] ys look is = absurd (cc)
  first_more s (Own call answer ∷ xs) ys look is = is
  first_more s (Others action ∷ xs) ys look is =
      first_more (after_entry s (Others action)) xs ys look is

  found_more : (s : State) (xs ys : List Entry) → found_by path (first_look s xs) ≡ Some true
      → found_by path (first_look s (xs ++ ys)) ≡ Some true
  found_more s xs ys is = by (first_look s xs) refl is
    where
      by : (look : Option Look) → first_look s xs ≡ look → found_by path look ≡ Some true
          → found_by path (first_look s (xs ++ ys)) ≡ Some true
      by None e is = absurd (cc)
      by (Some look) e is = ap (found_by path) (first_more s xs ys look e) ∙ is

  pub still_found : (a b c : Option Past) (Q : State → List Entry → Type 0)
      → Grown a b (λ s es. found_by path (first_look s es) ≡ Some true) → Grown b c Q
      → Grown a c (λ s es. found_by path (first_look s es) ≡ Some true)
  still_found a b c Q first rest = grown_then a b c _ Q _ first rest
      (λ s xs ys is more. found_more s xs ys is)

  node_stands : (node : Option TreeNode) (stat : Stat) → Ok stat ≡ stat_at node
      → is_some node ≡ true
  node_stands None stat e = absurd (cc)
  node_stands (Some node) stat e = refl

  pub stat_found : {stat : Stat} {a b : Option Past}
      → Called (Ok stat) (StatPath path) (λ tree. stat_of tree path) a b
      → Grown a b (λ s es. found_by path (first_look s es) ≡ Some true)
  stat_found {stat} {a} {b} took =
      grown_map a b _ _
      (judged_grown stat (StatPath path) (λ tree. stat_of tree path) a b took.goes)
      (λ s es is. ap (λ (l : List Entry). found_by path (first_look s l)) is.1
      ∙ ap (found_by path) (first_step is.0 s (StatPath path) Done)
      ∙ ap Some (node_stands (node_at (tree_of (run_entries (map Others is.0) s)) path) stat is.2))

  no_false : (found : Option Bool) → found ≡ None → found ≡ Some false → ⊥
  no_false found none some = cc

  abbrev NoneFound : State → List Entry → Type 0
  NoneFound s es = found_by path (first_look s es) ≡ Some false → ⊥

  failed_look : (past new : Past) (wanted : List TreeNode → Result Stat DiskError)
      → OneStep (Err disk.Fault) (StatPath path) wanted past new → Onward NoneFound past new
  failed_look past new wanted step = record {
    same_first = step.same_first;
    more = map Others step.actions ++ Own (StatPath path) step.answer ∷ [];
    journal = step.journal;
    along = no_false _ (ap (found_by path)
        (first_step step.actions (state_after past) (StatPath path) step.answer)
        ∙ ap (λ (failed : Bool). if failed then None else Some (is_some (node_at
        (tree_of (run_entries (map Others step.actions) (state_after past))) path)))
        (ap has_failed step.answered.1));
  }

  look_failed : (wanted : List TreeNode → Result Stat DiskError) (a b : Option Past)
      → GoesOn (OneStep (Err disk.Fault) (StatPath path) wanted) a b → Grown a b NoneFound
  look_failed wanted None b step = step
  look_failed wanted (Some past) None step = absurd step
  look_failed wanted (Some past) (Some new) step = failed_look past new wanted step

  nothing_looked : (a b : Option Past) → GoesOn (λ past next. next ≡ past) a b
      → Grown a b NoneFound
  nothing_looked None b step = step
  nothing_looked (Some past) None step = absurd step
  nothing_looked (Some past) (Some new) step = record {
    same_first = ap (λ (p : Past). p.first) step;
    more = [];
    journal = ap (λ (p : Past). p.journal) step ∙ sym (append-nil past.journal);
    along = λ found. absurd (cc);
  }

  -- it was refused: for a fault, for want of memory, or since nothing stands there
  pub look_refused : (why : DiskError) (told : ScanError)
      (wanted : List TreeNode → Result Stat DiskError) (a b : Option Past)
      → told ≡ left_error why → Called (Err why) (StatPath path) wanted a b
      → Grown a b (λ s es. found_by path (first_look s es) ≡ Some false → told ≡ Missing)
  look_refused disk.Missing told wanted a b is took =
      grown_map a b _ _ (refused_grown disk.Missing (StatPath path) wanted a b took.goes)
      (λ s es refused none. is)
  look_refused disk.WrongNode told wanted a b is took =
      grown_map a b _ _ (refused_grown disk.WrongNode (StatPath path) wanted a b took.goes)
      (λ s es refused none. is)
  look_refused disk.Exists told wanted a b is took =
      grown_map a b _ _ (refused_grown disk.Exists (StatPath path) wanted a b took.goes)
      (λ s es refused none. is)
  look_refused (disk.Long size) told wanted a b is took =
      grown_map a b _ _ (refused_grown (disk.Long size) (StatPath path) wanted a b took.goes)
      (λ s es refused none. is)
  look_refused disk.Fault told wanted a b is took =
      grown_map a b NoneFound _ (look_failed wanted a b took.goes)
      (λ s es not none. absurd (not none))
  look_refused disk.NoMemory told wanted a b is took =
      grown_map a b NoneFound _ (nothing_looked a b took.goes)
      (λ s es not none. absurd (not none))

  -- a refusal behind a look that found something
  pub found_refused : (told : ScanError) (a b c : Option Past)
      (Q : State → List Entry → Type 0)
      → Grown a b (λ s es. found_by path (first_look s es) ≡ Some true) → Grown b c Q
      → Grown a c (λ s es. found_by path (first_look s es) ≡ Some false → told ≡ Missing)
  found_refused told a b c Q first rest = grown_map a c _ _ (still_found a b c Q first rest)
      (λ s es is none. absurd (not_both _ is none))

  -- a call was refused
  pub left_refused : {T : Type 0} (why : DiskError) (told : ScanError) {a b c : Seen}
      → told ≡ left_error why → TakesOver path a.told c.told → a.marks ≤ b.marks
      → a.faults ≤ b.faults → Counted {A = T} (Err why) b c
      → Grown a.told c.told (λ s es. found_by path (first_look s es) ≡ Some false
      → told ≡ Missing)
      → (told ≡ Missing → IsBetween (MissesLeft path) a.told c.told)
      → TakesLeft path (Err told) a c
  left_refused why told {a} {b} {c} is over marks faults counted missing refused = record {
    keeps = keeps_over over;
    here = over.only;
    taken = tt;
    missing = grown_map a.told c.told _ _ missing (λ s es told none. ap Err (told none));
    refused = λ e. refused (same_error told Missing e);
    may_be = subst IsLeftError (sym is) (left_so why);
    grows = grown_grows a.told c.told _ over.only;
    marks = let after = counted.marks in omega (arith, marks, after);
    faults = let after = counted.faults in omega (arith, faults, after);
    cause = λ e. rose_later a.faults b.faults c.faults faults
        (counted.cause (ap Err (fault_of why (sym is ∙ same_error told Fault e))));
  }

  -- none was
  pub left_taken : {T : Type 0} {v : T} {w : Unit {0}} {a b c : Seen} → TakesOver path a.told b.told
      → TakesOver path b.told c.told → TakesBoth path b.told c.told → Counted (Ok v) a b
      → Counted (Ok w) b c
      → Grown a.told b.told (λ s es. found_by path (first_look s es) ≡ Some true)
      → TakesLeft path (Ok tt) a c
  left_taken {a = a} {b = b} {c = c} looked over both first counted found = record {
    keeps = keeps_over (takes_then looked over);
    here = (takes_then looked over).only;
    taken = grown_then a.told b.told c.told _ _ _ looked.only both.grown
        (λ s xs ys one two. (taken_right _ xs ys two.0, taken_right _ xs ys two.1));
    missing = grown_map a.told c.told _ _ (still_found a.told b.told c.told _ found over.only)
        (λ s es is none. absurd (not_both _ is none));
    refused = λ e. absurd (no_error Missing e);
    may_be = tt;
    grows = grown_grows a.told c.told _ (takes_then looked over).only;
    marks = let after = counted.marks in let before = first.marks in omega (arith, before, after);
    faults = let after = counted.faults in let before = first.faults in
        omega (arith, before, after);
    cause = λ e. absurd (no_error Fault e);
  }
    where
      no_error : (error : ScanError) → ◌≡◌ {A = Result (Unit {0}) ScanError} (Ok tt) (Err error)
          → ⊥
      no_error error e = cc
