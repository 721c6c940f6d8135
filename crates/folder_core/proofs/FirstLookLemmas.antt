-- What the first look of a call has found.
use Rattle.std.proofs.Common.{◌≡◌, ℕ, Bool, true, false, List, [], ◌∷◌, ◌++◌, Option, Some}
use Rattle.std.proofs.Common.{None, Result, Ok, Err, map, length, drop, is_some}
use Rattle.std.proofs.Common.{if◌then◌else◌, refl, sym, ◌∙◌, ◌⊎◌, inl, inr, ap, subst}
use Rattle.std.proofs.Common.{append_assoc}
use Rattle.std.specs.Prelude.{option_and_then}
use Rattle.std.proofs.Math.Seq.{drop-append_seam, drop-length}
use Rattle.disk_model.specs.Journal.{Action, Answer, Call, Entry, Others, Own, Past}
use Rattle.disk_model.specs.Judge.{GoesOn, IsJudged, MakesStep, OneStep, StepBy}
use Rattle.disk_model.specs.Looking.{HasLooked, LooksOnly}
use Rattle.disk_model.specs.Seen.{Seen}
use Rattle.disk_model.specs.State.{State, after_entry, run_entries, state_after, state_of, tree_of}
use Rattle.disk_model.specs.Tree.{TreeNode, is_folder_node, node_at}
use Rattle.disk_model.specs.declared.answers.DiskError.{DiskError}
use Rattle.disk_model.specs.declared.answers.DiskError.TheVariants.{Missing as NoNode, WrongNode}
use Rattle.disk_model.specs.declared.answers.DiskError.TheVariants.{Exists, Long}
use Rattle.disk_model.specs.declared.answers.DiskError.TheVariants.{Fault as DiskFault}
use Rattle.disk_model.specs.declared.answers.DiskError.TheVariants.{NoMemory as NoRoom}
use Rattle.disk_model.specs.declared.answers.Stat.{Stat}
use Rattle.disk_model.proofs.Runs.{run_entries-append}
use Rattle.folder_core.specs.Directory.{node_file}
use Rattle.folder_core.specs.FirstLook.{Look, TellsMissing, first_look, found_by}
use Rattle.folder_core.specs.FirstLook.{found_first, has_failed, tells_of_path}
use Rattle.folder_core.specs.Looked.{stat_there}
use Rattle.folder_core.specs.declared.error.ScanError.{ScanError}
use Rattle.folder_core.specs.declared.error.ScanError.TheVariants.{Missing, NotMailbox, TooMany}
use Rattle.folder_core.specs.declared.error.ScanError.TheVariants.{TooLarge, Unfinished}
use Rattle.folder_core.specs.declared.error.ScanError.TheVariants.{ArchiveFull, Fault, NoMemory}
use Rattle.folder_core.proofs.SeenLemmas.{goes_as, goes_then}

-- The first own entry.

first_of_more : (state : State) (entries more : List Entry) (look : Look)
    → first_look state entries ≡ Some look → first_look state (entries ++ more) ≡ Some look
first_of_more state [] more look is = absurd (cc)
first_of_more state (Own call answer ∷ entries) more look is = is
first_of_more state (Others action ∷ entries) more look is =
    first_of_more (after_entry state (Others action)) entries more look is

first_behind : (state : State) (actions : List Action) (call : Call) (answer : Answer)
    → first_look state (map Others actions ++ Own call answer ∷ [])
    ≡ Some (record { tree = tree_of (run_entries (map Others actions) state); answer = answer })
first_behind state [] call answer = refl
first_behind state (action ∷ actions) call answer =
    first_behind (after_entry state (Others action)) actions call answer

-- One step.

-- a call met this tree, at the path of which something stands or nothing does
found_at : {R : Type 0} (outcome : Result R DiskError) (call : Call)
    (wanted : List TreeNode → Result R DiskError) (path : List ℕ) (old new : Past)
    → (s : OneStep outcome call wanted old new)
    → found_first path old new
    ≡ (if has_failed s.answer then None
    else Some (is_some (node_at (tree_of
    (run_entries (old.journal ++ map Others s.actions) (state_of old.first))) path)))
found_at outcome call wanted path old new s =
    let before : List Entry = map Others s.actions in
    let entries : List Entry = before ++ Own call s.answer ∷ [] in
    ap (λ (l : List Entry). found_by path (first_look (state_after old) l))
    (ap (drop (length old.journal)) s.journal ∙ drop-append_seam old.journal entries)
    ∙ ap (found_by path) (first_behind (state_after old) s.actions call s.answer)
    ∙ ap (λ (state : State). if has_failed s.answer then None
    else Some (is_some (node_at (tree_of state) path)))
    (sym (run_entries-append old.journal before (state_of old.first)))

found_step : {R : Type 0} (outcome : Result R DiskError) (call : Call)
    (wanted : List TreeNode → Result R DiskError) (path : List ℕ) (stands : Bool) (old new : Past)
    → (s : OneStep outcome call wanted old new) → has_failed s.answer ≡ false
    → ((tree : List TreeNode) → IsJudged outcome (wanted tree)
    → is_some (node_at tree path) ≡ stands)
    → found_first path old new ≡ Some stands
found_step outcome call wanted path stands old new s answered tells =
    let tree : List TreeNode =
    tree_of (run_entries (old.journal ++ map Others s.actions) (state_of old.first)) in
    found_at outcome call wanted path old new s
    ∙ ap (λ (t : Bool). if t then None else Some (is_some (node_at tree path))) answered
    ∙ ap Some (tells tree s.judged)

failed_step : {R : Type 0} (outcome : Result R DiskError) (call : Call)
    (wanted : List TreeNode → Result R DiskError) (path : List ℕ) (old new : Past)
    → (s : OneStep outcome call wanted old new) → has_failed s.answer ≡ true
    → found_first path old new ≡ None
failed_step outcome call wanted path old new s failed =
    found_at outcome call wanted path old new s
    ∙ ap (λ (t : Bool). if t then None else Some (is_some (node_at (tree_of
    (run_entries (old.journal ++ map Others s.actions) (state_of old.first))) path))) failed

not_found : (found : Option Bool) → found ≡ None → found ≡ Some false → ⊥
not_found found none some = cc

-- A call that was answered.

found_told : {R : Type 0} (outcome : Result R DiskError) (call : Call)
    (wanted : List TreeNode → Result R DiskError) (path : List ℕ) (stands : Bool)
    (old new : Option Past)
    → ((p q : Past) → (s : OneStep outcome call wanted p q) → has_failed s.answer ≡ false)
    → GoesOn (OneStep outcome call wanted) old new
    → ((tree : List TreeNode) → IsJudged outcome (wanted tree)
    → is_some (node_at tree path) ≡ stands)
    → GoesOn (λ p q. found_first path p q ≡ Some stands) old new
found_told outcome call wanted path stands old new answered step tells =
    goes_as old new (λ p q s. found_step outcome call wanted path stands p q s (answered p q s)
    tells) step

-- a call that gave a value
pub found_ok : {R : Type 0} {call : Call} {wanted : List TreeNode → Result R DiskError}
    {count : ℕ} {old new : Seen} (path : List ℕ) (stands : Bool) (value : R)
    → MakesStep (Ok value) call wanted count old new
    → ((tree : List TreeNode) → Ok value ≡ wanted tree → is_some (node_at tree path) ≡ stands)
    → GoesOn (λ p q. found_first path p q ≡ Some stands) old.told new.told
found_ok {R} {call} {wanted} {count} {old} {new} path stands value step tells =
    found_told (Ok value) call wanted path stands old.told new.told
    (λ p q s. ap has_failed s.answered) step.called.goes tells

-- a call that was refused, but not for a fault
found_why : {R : Type 0} (why : DiskError) (call : Call)
    (wanted : List TreeNode → Result R DiskError) (path : List ℕ) (stands : Bool)
    (old new : Option Past) → (why ≡ DiskFault → ⊥) → (why ≡ NoRoom → ⊥)
    → GoesOn (StepBy (Err why) call wanted) old new
    → ((tree : List TreeNode) → Err why ≡ wanted tree → is_some (node_at tree path) ≡ stands)
    → GoesOn (λ p q. found_first path p q ≡ Some stands) old new
found_why NoNode call wanted path stands old new fault room step tells =
    found_told (Err NoNode) call wanted path stands old new (λ p q s. ap has_failed s.answered) step
    tells
found_why WrongNode call wanted path stands old new fault room step tells =
    found_told (Err WrongNode) call wanted path stands old new (λ p q s. ap has_failed s.answered)
    step tells
found_why Exists call wanted path stands old new fault room step tells =
    found_told (Err Exists) call wanted path stands old new (λ p q s. ap has_failed s.answered) step
    tells
found_why (Long size) call wanted path stands old new fault room step tells =
    found_told (Err (Long size)) call wanted path stands old new
    (λ p q s. ap has_failed s.answered) step tells
found_why DiskFault call wanted path stands old new fault room step tells = absurd (fault refl)
found_why NoRoom call wanted path stands old new fault room step tells = absurd (room refl)

pub found_err : {R : Type 0} {call : Call} {wanted : List TreeNode → Result R DiskError}
    {count : ℕ} {old new : Seen} (path : List ℕ) (stands : Bool) (error why : DiskError)
    → error ≡ why → (why ≡ DiskFault → ⊥) → (why ≡ NoRoom → ⊥)
    → MakesStep (Err error) call wanted count old new
    → ((tree : List TreeNode) → Err why ≡ wanted tree → is_some (node_at tree path) ≡ stands)
    → GoesOn (λ p q. found_first path p q ≡ Some stands) old.told new.told
found_err {R} {call} {wanted} {count} {old} {new} path stands error why is fault room step tells =
    let made : MakesStep {A = R} (Err why) call wanted count old new =
    subst (λ (e : DiskError). MakesStep {A = R} (Err e) call wanted count old new) is step in
    found_why {R = R} why call wanted path stands old.told new.told fault room made.called.goes
    tells

-- A call that failed, or for which there was no memory, did not find that nothing stands there.

fault_step : {R : Type 0} (call : Call) (wanted : List TreeNode → Result R DiskError)
    (path : List ℕ) (old new : Past) → OneStep (Err DiskFault) call wanted old new
    → found_first path old new ≡ Some false → ⊥
fault_step call wanted path old new s some =
    not_found (found_first path old new)
    (failed_step (Err DiskFault) call wanted path old new s (ap has_failed s.answered.1)) some

pub found_fault : {R : Type 0} {call : Call} {wanted : List TreeNode → Result R DiskError}
    {count : ℕ} {old new : Seen} (path : List ℕ) (error : DiskError) → error ≡ DiskFault
    → MakesStep (Err error) call wanted count old new
    → GoesOn (λ p q. found_first path p q ≡ Some false → ⊥) old.told new.told
found_fault {R} {call} {wanted} {count} {old} {new} path error is step =
    let made : MakesStep {A = R} (Err DiskFault) call wanted count old new =
    subst (λ (e : DiskError). MakesStep {A = R} (Err e) call wanted count old new) is step in
    goes_as old.told new.told (λ p q s. fault_step call wanted path p q s) made.called.goes

no_step : (path : List ℕ) (old new : Past) → new ≡ old → found_first path old new ≡ Some false → ⊥
no_step path old new same some =
    not_found (found_first path old new)
    (ap (found_first path old) same
    ∙ ap (λ (l : List Entry). found_by path (first_look (state_after old) l))
    (drop-length old.journal)) some

pub found_no_room : {R : Type 0} {call : Call} {wanted : List TreeNode → Result R DiskError}
    {count : ℕ} {old new : Seen} (path : List ℕ) (error : DiskError) → error ≡ NoRoom
    → MakesStep (Err error) call wanted count old new
    → GoesOn (λ p q. found_first path p q ≡ Some false → ⊥) old.told new.told
found_no_room {R} {call} {wanted} {count} {old} {new} path error is step =
    let made : MakesStep {A = R} (Err NoRoom) call wanted count old new =
    subst (λ (e : DiskError). MakesStep {A = R} (Err e) call wanted count old new) is step in
    goes_as old.told new.told (λ p q s. no_step path p q s) made.called.goes

-- where something was found, it was not found that nothing stands there
pub found_there : (path : List ℕ) (old new : Option Past)
    → GoesOn (λ p q. found_first path p q ≡ Some true) old new
    → GoesOn (λ p q. found_first path p q ≡ Some false → ⊥) old new
found_there path old new there =
    goes_as old new (λ p q is. not_both (found_first path p q) is) there
  where
    not_both : (found : Option Bool) → found ≡ Some true → found ≡ Some false → ⊥
    not_both found there none = cc

-- What stands there.

pub stat_stands : (node : Option TreeNode) (stat : Stat) → Some stat ≡ stat_there node
    → is_some node ≡ true
stat_stands None stat is = absurd (cc)
stat_stands (Some node) stat is = refl

pub no_stat_stands : (node : Option TreeNode) → None ≡ stat_there node → is_some node ≡ false
no_stat_stands None is = refl
no_stat_stands (Some node) is = absurd (cc)

pub folder_stands : (node : Option TreeNode) → is_folder_node node ≡ true → is_some node ≡ true
folder_stands None is = is
folder_stands (Some node) is = refl

pub file_stands : (node : Option TreeNode) → is_some (option_and_then node_file node) ≡ true
    → is_some node ≡ true
file_stands None is = is
file_stands (Some node) is = refl

pub bytes_stand : (node : Option TreeNode) (bytes : List ℕ)
    → option_and_then node_file node ≡ Some bytes
    → is_some node ≡ true
bytes_stand node bytes is = file_stands node (ap is_some is)

-- What a call answers by what it found first.

pub told_there : {A : Type 0} (result : Result A ScanError) (path : List ℕ) (old new : Past)
    → (result ≡ Err Missing → ⊥) → found_first path old new ≡ Some true
    → TellsMissing result path old new
told_there result path old new other is = record {
  missing = (λ missing. absurd (other missing), λ none. absurd (cc));
  there = λ tells. is;
}

pub told_missing : {A : Type 0} (path : List ℕ) (old new : Past)
    → found_first path old new ≡ Some false → TellsMissing {A = A} (Err Missing) path old new
told_missing path old new is = record {
  missing = (λ missing. is, λ none. refl);
  there = λ tells. absurd (cc);
}

pub told_nothing : {A : Type 0} (result : Result A ScanError) (path : List ℕ) (old new : Past)
    → (result ≡ Err Missing → ⊥) → tells_of_path result ≡ false
    → (found_first path old new ≡ Some false → ⊥) → TellsMissing result path old new
told_nothing result path old new other none not = record {
  missing = (λ missing. absurd (other missing), λ found. absurd (not found));
  there = λ tells. absurd (cc);
}

-- The first look stays so while others follow.

found_longer : (path : List ℕ) (stands : Bool) (p q r : Past) → HasLooked p q → HasLooked q r
    → found_first path p q ≡ Some stands → found_first path p r ≡ Some stands
found_longer path stands p q r first next is =
    by_look (first_look (state_after p) (drop (length p.journal) q.journal)) refl is
  where
    behind : drop (length p.journal) r.journal ≡ first.more ++ next.more
    behind = ap (drop (length p.journal)) (next.journal
        ∙ ap (λ (l : List Entry). l ++ next.more) first.journal
        ∙ append_assoc p.journal first.more next.more)
        ∙ drop-append_seam p.journal (first.more ++ next.more)

    here : drop (length p.journal) q.journal ≡ first.more
    here = ap (drop (length p.journal)) first.journal ∙ drop-append_seam p.journal first.more

    by_look : (look : Option Look)
        → first_look (state_after p) (drop (length p.journal) q.journal) ≡ look
        → found_by path look ≡ Some stands → found_first path p r ≡ Some stands
    by_look None e is = absurd (cc)
    by_look (Some look) e is =
        ap (λ (l : List Entry). found_by path (first_look (state_after p) l)) behind
        ∙ ap (found_by path) (first_of_more (state_after p) first.more next.more look
        (ap (first_look (state_after p)) (sym here) ∙ e)) ∙ is

pub stood_later : (path : List ℕ) (a b c : Option Past) → LooksOnly a b → LooksOnly b c
    → GoesOn (λ p q. found_first path p q ≡ Some true) a b
    → GoesOn (λ p q. found_first path p q ≡ Some true) a c
stood_later path a b c first next there =
    goes_then {Q = HasLooked} a b c (λ p q r x y is looked. found_longer path true p q r x y is)
    first next there next

-- a call that answers Ok found that something stands there
pub stood_first : {A : Type 0} (given : A) (path : List ℕ) (a b : Option Past)
    → GoesOn (TellsMissing (Ok given) path) a b
    → GoesOn (λ p q. found_first path p q ≡ Some true) a b
stood_first given path a b tells = goes_as a b (λ p q t. t.there refl) tells

pub tells_there : {A : Type 0} (result : Result A ScanError) (path : List ℕ) (a b : Option Past)
    → (result ≡ Err Missing → ⊥) → GoesOn (λ p q. found_first path p q ≡ Some true) a b
    → GoesOn (TellsMissing result path) a b
tells_there result path a b other there =
    goes_as a b (λ p q is. told_there result path p q other is) there

pub tells_missing : (A : Type 0) (path : List ℕ) (a b : Option Past)
    → GoesOn (λ p q. found_first path p q ≡ Some false) a b
    → GoesOn (TellsMissing {A = A} (Err Missing) path) a b
tells_missing A path a b none = goes_as a b (λ p q is. told_missing path p q is) none

pub tells_nothing : {A : Type 0} (result : Result A ScanError) (path : List ℕ) (a b : Option Past)
    → (result ≡ Err Missing → ⊥) → tells_of_path result ≡ false
    → GoesOn (λ p q. found_first path p q ≡ Some false → ⊥) a b
    → GoesOn (TellsMissing result path) a b
tells_nothing result path a b other none not =
    goes_as a b (λ p q is. told_nothing result path p q other none is) not

-- a fault or want of memory, before it was found that nothing stands there
pub tells_failed : (A : Type 0) (why : ScanError) (path : List ℕ) (a b : Option Past)
    → (why ≡ Fault) ⊎ (why ≡ NoMemory)
    → GoesOn (λ p q. found_first path p q ≡ Some false → ⊥) a b
    → GoesOn (TellsMissing {A = A} (Err why) path) a b
tells_failed A why path a b (inl is) not =
    tells_nothing {A = A} (Err why) path a b (λ e. (cc)) (ap (λ (e : ScanError).
    tells_of_path {A = A} (Err e)) is) not
tells_failed A why path a b (inr is) not =
    tells_nothing {A = A} (Err why) path a b (λ e. (cc)) (ap (λ (e : ScanError).
    tells_of_path {A = A} (Err e)) is) not

-- one refusal of two calls, of which the one gave what the other has found
pub first_as : (A B : Type 0) (why : ScanError) (path : List ℕ) (a b : Option Past)
    → GoesOn (TellsMissing {A = A} (Err why) path) a b
    → GoesOn (TellsMissing {A = B} (Err why) path) a b
first_as A B why path a b first =
    goes_as a b (λ p q t. record {
      missing = (
        λ e. t.missing.0 (let same : why ≡ Missing = cc in ap Err same),
        λ none. let same : why ≡ Missing = (let e = t.missing.1 none in cc) in ap Err same,
      );
      there = λ tells. t.there (told_by why tells);
    }) first
  where
    told_by : (why : ScanError) → tells_of_path {A = B} (Err why) ≡ true
        → tells_of_path {A = A} (Err why) ≡ true
    told_by Missing is = is
    told_by (NotMailbox place) is = is
    told_by (TooMany count) is = is
    told_by (TooLarge size) is = is
    told_by Unfinished is = is
    told_by ArchiveFull is = is
    told_by Fault is = is
    told_by NoMemory is = is
