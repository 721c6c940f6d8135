-- Whether a file, a folder or nothing stands at a path, which calls leave that touch other paths.
use Rattle.std.proofs.Common.{◌≡◌, ◌||◌, ◌∙◌, ℕ, Bool, true, false, not, List, Option, Some, None}
use Rattle.std.proofs.Common.{ap, if◌then◌else◌, is_none, is_some, length, option_map, refl, sym}
use Rattle.std.proofs.Common.{take, ◌==◌, ◌∷◌}
use Rattle.std.proofs.lemmas.Slice.Eq.{bytes_eq-Decides}
use Rattle.disk_model.specs.Journal.{Answer, Call, Create, Cut, Done, ListDir, MakeDir, Own}
use Rattle.disk_model.specs.Journal.{ReadAll, ReadFront, Refused, Remove, Rename, StatPath, Sync}
use Rattle.disk_model.specs.Journal.{SyncDir, WriteAt}
use Rattle.disk_model.specs.Refusals.{below_refusal, file_refusal, first_refusal, folder_refusal}
use Rattle.disk_model.specs.Refusals.{free_refusal, missing_refusal, target_refusal}
use Rattle.disk_model.specs.State.{File, Name, State, after_entry, changed, cut_to, moved, name_at}
use Rattle.disk_model.specs.State.{name_in, settled, tree_of, without, written}
use Rattle.disk_model.specs.Tree.{TreeNode, folder_of, is_root, node_at}
use Rattle.disk_model.specs.declared.answers.DiskError.TheVariants.{Missing, WrongNode}
use Rattle.disk_model.proofs.Trees.{node_at-tree_of, node_by}
use Rattle.folder_changes.specs.Refused.{refuses}
use Rattle.folder_changes.proofs.StateLemmas.{at_root, differ, still_named}
use Rattle.folder_changes.proofs.TraceLemmas.{IsUnmade}
use Rattle.folder_drivers.proofs.Touching.{Misses}

true_false : ◌≡◌ {A = Bool} true false → ⊥
true_false e = cc

-- nothing, a folder or a file, as what stands at a path
abbrev pub kind_of : Option TreeNode → Option Bool
kind_of node = option_map (λ n. is_none n.bytes) node

abbrev pub kind_at : List TreeNode → List ℕ → Option Bool
kind_at tree q = kind_of (node_at tree q)

-- the same of the names of a state
abbrev name_kind : Option (Option ℕ) → Option Bool
name_kind at = option_map is_none at

kind_is : (state : State) (q : List ℕ)
    → kind_at (tree_of state) q ≡ name_kind (name_at state.names q)
kind_is state q = ap kind_of (node_at-tree_of state q) ∙ by (name_at state.names q)
  where
    by : (at : Option (Option ℕ)) → kind_of (node_by state.files q at) ≡ name_kind at
    by None = refl
    by (Some None) = refl
    by (Some (Some number)) = refl

-- What calls leave.

-- a call leaves what stands at a path
abbrev pub Leaves : List ℕ → Call → Type 0
Leaves q call = (answer : Answer) (state : State)
    → kind_at (tree_of (after_entry state (Own call answer))) q ≡ kind_at (tree_of state) q

left_by : (old new : State) (q : List ℕ)
    → name_kind (name_at new.names q) ≡ name_kind (name_at old.names q)
    → kind_at (tree_of new) q ≡ kind_at (tree_of old) q
left_by old new q same = kind_is new q ∙ same ∙ sym (kind_is old q)

-- another name in front
other_name : (name : Name) (names : List Name) (q : List ℕ) → (name.path ≡ q → ⊥)
    → name_at (name ∷ names) q ≡ name_at names q
other_name name names q other =
    at_root (name ∷ names) names q
    (ap (λ (b : Bool). if b then Some name.file else name_in names q)
    (differ name.path q other))

same_changed : (change : ℕ → File → File) (state : State) (at : Option (Option ℕ)) (q : List ℕ)
    → kind_at (tree_of (changed at change state)) q ≡ kind_at (tree_of state) q
same_changed change state None q = refl
same_changed change state (Some None) q = refl
same_changed change state (Some (Some number)) q =
    left_by state (changed (Some (Some number)) change state) q refl

same_settled : (state : State) (at : Option (Option ℕ)) (q : List ℕ)
    → kind_at (tree_of (settled at state)) q ≡ kind_at (tree_of state) q
same_settled state None q = refl
same_settled state (Some None) q = refl
same_settled state (Some (Some number)) q =
    left_by state (settled (Some (Some number)) state) q refl

-- the bytes of files are none of it
pub written_left : (at : List ℕ) (from : ℕ) (piece q : List ℕ) → Leaves q (WriteAt at from piece)
written_left at from piece q Done state =
    same_changed (written from piece) state (name_at state.names at) q
written_left at from piece q (Refused why wrote) state = by (wrote == 0)
  where
    by : (t : Bool) → kind_at (tree_of (if t then state
        else changed (name_at state.names at) (written from (take wrote piece)) state)) q
        ≡ kind_at (tree_of state) q
    by true = refl
    by false = same_changed (written from (take wrote piece)) state (name_at state.names at) q

pub synced_left : (at q : List ℕ) → Leaves q (Sync at)
synced_left at q Done state = same_settled state (name_at state.names at) q
synced_left at q (Refused why wrote) state = refl

moved_left : (from to q : List ℕ) (state : State) (at : Option (Option ℕ)) → (from ≡ q → ⊥)
    → (to ≡ q → ⊥) → kind_at (tree_of (moved at from to state)) q ≡ kind_at (tree_of state) q
moved_left from to q state None not_from not_to = refl
moved_left from to q state (Some None) not_from not_to = refl
moved_left from to q state (Some (Some n)) not_from not_to =
    left_by state (moved (Some (Some n)) from to state) q (ap name_kind
    (other_name (record { path = to; file = Some n }) (without to (without from state.names)) q
    not_to
    ∙ at_root (without to (without from state.names)) state.names q
    (still_named to q (without from state.names) not_to
    ∙ still_named from q state.names not_from)))

-- so are other paths
pub missed_left : (q : List ℕ) (call : Call) → Misses q call → Leaves q call
missed_left q (ListDir dir) misses Done state = refl
missed_left q (ListDir dir) misses (Refused why wrote) state = refl
missed_left q (StatPath path) misses Done state = refl
missed_left q (StatPath path) misses (Refused why wrote) state = refl
missed_left q (ReadFront path size) misses Done state = refl
missed_left q (ReadFront path size) misses (Refused why wrote) state = refl
missed_left q (ReadAll path limit) misses Done state = refl
missed_left q (ReadAll path limit) misses (Refused why wrote) state = refl
missed_left q (Create path) misses Done state =
    left_by state (after_entry state (Own (Create path) Done)) q (ap name_kind
    (other_name (record { path = path; file = Some (length state.files) }) state.names q misses))
missed_left q (Create path) misses (Refused why wrote) state = refl
missed_left q (WriteAt path at piece) misses answer state =
    written_left path at piece q answer state
missed_left q (Cut path size) misses Done state =
    same_changed (cut_to size) state (name_at state.names path) q
missed_left q (Cut path size) misses (Refused why wrote) state = refl
missed_left q (Sync path) misses answer state = synced_left path q answer state
missed_left q (Rename from to) misses Done state =
    moved_left from to q state (name_at state.names from) misses.0 misses.1
missed_left q (Rename from to) misses (Refused why wrote) state = refl
missed_left q (Remove path) misses Done state =
    left_by state (after_entry state (Own (Remove path) Done)) q (ap name_kind
    (at_root (without path state.names) state.names q
    (still_named path q state.names misses)))
missed_left q (Remove path) misses (Refused why wrote) state = refl
missed_left q (SyncDir dir) misses Done state =
    left_by state (after_entry state (Own (SyncDir dir) Done)) q refl
missed_left q (SyncDir dir) misses (Refused why wrote) state = refl
missed_left q (MakeDir path) misses Done state =
    left_by state (after_entry state (Own (MakeDir path) Done)) q (ap name_kind
    (other_name (record { path = path; file = None }) state.names q misses))
missed_left q (MakeDir path) misses (Refused why wrote) state = refl

-- a file is made where there is no root
pub created_file : (p : List ℕ) (state : State) → is_root p ≡ false
    → kind_at (tree_of (after_entry state (Own (Create p) Done))) p ≡ Some false
created_file p state no_root =
    kind_is (after_entry state (Own (Create p) Done)) p
    ∙ ap name_kind
    (ap (λ (root : Bool). if root then Some None
    else name_in (record { path = p; file = Some (length state.files) } ∷ state.names) p) no_root
    ∙ ap (λ (b : Bool). if b then Some (Some (length state.files)) else name_in state.names p)
    ((bytes_eq-Decides p p).1 refl))

-- Refusals by what stands there.

abbrev pub no_file : Option Bool → Bool
no_file None = true
no_file (Some folder) = folder

abbrev pub no_folder : Option Bool → Bool
no_folder None = true
no_folder (Some folder) = not folder

abbrev pub is_folder : Option Bool → Bool
is_folder None = false
is_folder (Some folder) = folder

pub file_refused : (node : Option TreeNode) → is_some (file_refusal node) ≡ no_file (kind_of node)
file_refused None = refl
file_refused (Some node) = by (is_none node.bytes)
  where
    by : (b : Bool) → is_some (if b then Some WrongNode else None) ≡ b
    by true = refl
    by false = refl

folder_refused : (node : Option TreeNode)
    → is_some (folder_refusal node) ≡ no_folder (kind_of node)
folder_refused None = refl
folder_refused (Some node) = by (is_none node.bytes)
  where
    by : (b : Bool) → is_some (if b then None else Some WrongNode) ≡ not b
    by true = refl
    by false = refl

pub make_refused : (below at : Option TreeNode)
    → is_some (first_refusal (below_refusal below) (free_refusal at))
    ≡ (no_folder (kind_of below) || is_some (kind_of at))
make_refused None at = refl
make_refused (Some node) at = by (is_none node.bytes) at
  where
    by : (b : Bool) (at : Option TreeNode)
        → is_some (first_refusal (if b then None else Some Missing) (free_refusal at))
        ≡ (not b || is_some (kind_of at))
    by true None = refl
    by true (Some n) = refl
    by false at = refl

pub rename_refused : (from below to : Option TreeNode)
    → is_some (first_refusal (missing_refusal from) (first_refusal (below_refusal below)
    (first_refusal (file_refusal from) (target_refusal to))))
    ≡ (no_file (kind_of from) || no_folder (kind_of below) || is_folder (kind_of to))
rename_refused None below to = refl
rename_refused (Some f) None to = by (is_none f.bytes)
  where
    by : (b : Bool) → true ≡ (b || true || is_folder (kind_of to))
    by true = refl
    by false = refl
rename_refused (Some f) (Some g) to = by (is_none f.bytes) (is_none g.bytes) to
  where
    target : (t : Bool) → is_some (if t then Some WrongNode else None) ≡ t
    target true = refl
    target false = refl

    by : (b d : Bool) (to : Option TreeNode)
        → is_some (first_refusal (if d then None else Some Missing)
        (first_refusal (if b then Some WrongNode else None) (target_refusal to)))
        ≡ (b || not d || is_folder (kind_of to))
    by true true to = refl
    by true false to = refl
    by false true None = refl
    by false true (Some n) = target (is_none n.bytes)
    by false false to = refl

-- States that hang on what stands at three paths.

abbrev pub OnKinds : (List TreeNode → Bool) → List ℕ → List ℕ → List ℕ → Type 0
OnKinds is_so a b c = (old new : List TreeNode) → kind_at new a ≡ kind_at old a
    → kind_at new b ≡ kind_at old b → kind_at new c ≡ kind_at old c → is_so new ≡ is_so old

pub on_file : (p : List ℕ) → OnKinds (λ tree. is_some (file_refusal (node_at tree p))) p p p
on_file p old new same second third =
    file_refused (node_at new p) ∙ ap no_file same ∙ sym (file_refused (node_at old p))

pub on_folder : (p : List ℕ) → OnKinds (λ tree. is_some (folder_refusal (node_at tree p))) p p p
on_folder p old new same second third =
    folder_refused (node_at new p) ∙ ap no_folder same ∙ sym (folder_refused (node_at old p))

pub on_make : (p : List ℕ) → OnKinds (refuses (Create p)) (folder_of p) p p
on_make p old new folder at third =
    make_refused (node_at new (folder_of p)) (node_at new p)
    ∙ (λ i. no_folder (folder i) || is_some (at i))
    ∙ sym (make_refused (node_at old (folder_of p)) (node_at old p))

pub on_rename : (from to : List ℕ) → OnKinds (refuses (Rename from to)) from (folder_of to) to
on_rename from to old new at folder place =
    rename_refused (node_at new from) (node_at new (folder_of to)) (node_at new to)
    ∙ (λ i. no_file (at i) || no_folder (folder i) || is_folder (place i))
    ∙ sym (rename_refused (node_at old from) (node_at old (folder_of to)) (node_at old to))

-- The call leaves what stands at three paths.
pub record LeavesThree (a b c : List ℕ) (call : Call) : Type 0 where
  pub first : Leaves a call
  pub second : Leaves b call
  pub third : Leaves c call

-- calls that leave what a state hangs on do not bring it about
pub unmade : (Is : Call → Type 0) (is_so : List TreeNode → Bool) (a b c : List ℕ)
    → OnKinds is_so a b c → ((call : Call) → Is call → LeavesThree a b c call)
    → IsUnmade Is is_so
unmade Is is_so a b c on leaves call answer state is not =
    let three = leaves call is in
    on (tree_of state) (tree_of (after_entry state (Own call answer)))
    (three.first answer state) (three.second answer state) (three.third answer state) ∙ not
