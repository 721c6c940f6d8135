-- What calls do not bring about, by what stands at the paths: a folder, a file or
-- nothing.
use Rattle.std.proofs.Common.{◌≡◌, ◌||◌, ◌∷◌, ◌∙◌, ℕ, Bool, true, false, not, List, Option, Some}
use Rattle.std.proofs.Common.{None, ap, if◌then◌else◌, inl, inr, is_none, is_some}
use Rattle.std.proofs.Common.{length, option_map}
use Rattle.std.proofs.Common.{refl, subst, sym, take, ◌⊎◌, ◌==◌}
use Rattle.std.proofs.lemmas.Slice.Eq.{bytes_eq-Decides}
use Rattle.std.specs.Str.{bytes_eq}
use Rattle.disk_model.specs.Journal.{Answer, Call, Create, Done, MakeDir, Own, Refused}
use Rattle.disk_model.specs.Journal.{Rename, Sync, SyncDir, WriteAt}
use Rattle.disk_model.specs.Refusals.{below_refusal, file_refusal, first_refusal, folder_refusal}
use Rattle.disk_model.specs.Refusals.{free_refusal, missing_refusal, target_refusal}
use Rattle.disk_model.specs.State.{File, Name, State, after_entry, changed, moved, name_at}
use Rattle.disk_model.specs.State.{name_in, settled, tree_of, without, written}
use Rattle.disk_model.specs.Tree.{TreeNode, folder_of, is_root, node_at}
use Rattle.disk_model.specs.declared.answers.DiskError.TheVariants.{Missing, WrongNode}
use Rattle.disk_model.proofs.Trees.{bytes_same, node_at-tree_of, node_by}
use Rattle.folder_changes.specs.Refused.{refuses}
use Rattle.folder_changes.proofs.StateLemmas.{at_root, differ, still_named}
use Rattle.folder_drivers.specs.MaildirAppend.{is_there}

true_false : ◌≡◌ {A = Bool} true false → ⊥
true_false e = cc

-- what stands there: nothing, a folder or a file
abbrev pub node_kind : Option TreeNode → Option Bool
node_kind node = option_map (λ n. is_none n.bytes) node

abbrev pub name_kind : Option (Option ℕ) → Option Bool
name_kind at = option_map is_none at

-- the same of the names of a state
abbrev pub kind_at : State → List ℕ → Option Bool
kind_at state q = name_kind (name_at state.names q)

kind_is : (state : State) (q : List ℕ) → node_kind (node_at (tree_of state) q) ≡ kind_at state q
kind_is state q = ap node_kind (node_at-tree_of state q) ∙ by (name_at state.names q)
  where
    by : (at : Option (Option ℕ)) → node_kind (node_by state.files q at) ≡ name_kind at
    by None = refl
    by (Some None) = refl
    by (Some (Some number)) = refl

-- Refusals by what stands there.

abbrev pub no_file : Option Bool → Bool
no_file None = true
no_file (Some folder) = folder

abbrev pub no_folder : Option Bool → Bool
no_folder None = true
no_folder (Some folder) = not folder

abbrev pub is_folder : Option Bool → Bool
is_folder None = false
is_folder (Some folder) = folder

file_refused : (node : Option TreeNode) → is_some (file_refusal node) ≡ no_file (node_kind node)
file_refused None = refl
file_refused (Some node) = by (is_none node.bytes)
  where
    by : (b : Bool) → is_some (if b then Some WrongNode else None) ≡ b
    by true = refl
    by false = refl

folder_refused : (node : Option TreeNode)
    → is_some (folder_refusal node) ≡ no_folder (node_kind node)
folder_refused None = refl
folder_refused (Some node) = by (is_none node.bytes)
  where
    by : (b : Bool) → is_some (if b then None else Some WrongNode) ≡ not b
    by true = refl
    by false = refl

make_refused : (below at : Option TreeNode)
    → is_some (first_refusal (below_refusal below) (free_refusal at))
    ≡ (no_folder (node_kind below) || is_some (node_kind at))
make_refused None at = refl
make_refused (Some node) at = by (is_none node.bytes) at
  where
    by : (b : Bool) (at : Option TreeNode)
        → is_some (first_refusal (if b then None else Some Missing) (free_refusal at))
        ≡ (not b || is_some (node_kind at))
    by true None = refl
    by true (Some n) = refl
    by false at = refl

rename_refused : (from below to : Option TreeNode)
    → is_some (first_refusal (missing_refusal from) (first_refusal (below_refusal below)
    (first_refusal (file_refusal from) (target_refusal to))))
    ≡ (no_file (node_kind from) || no_folder (node_kind below) || is_folder (node_kind to))
rename_refused None below to = refl
rename_refused (Some f) None to = by (is_none f.bytes)
  where
    by : (b : Bool) → true ≡ (b || true || is_folder (node_kind to))
    by true = refl
    by false = refl
rename_refused (Some f) (Some g) to = by (is_none f.bytes) (is_none g.bytes) to
  where
    target : (t : Bool) → is_some (if t then Some WrongNode else None) ≡ t
    target true = refl
    target false = refl

    by : (b d : Bool) (to : Option TreeNode)
        → is_some (first_refusal (if d then None else Some Missing)
        (first_refusal (if b then Some WrongNode else None) (target_refusal to)))
        ≡ (b || not d || is_folder (node_kind to))
    by true true to = refl
    by true false to = refl
    by false true None = refl
    by false true (Some n) = target (is_none n.bytes)
    by false false to = refl

-- What calls leave.

abbrev after : Call → Answer → State → State
after call answer state = after_entry state (Own call answer)

-- a call leaves what stands at a path
abbrev pub Leaves : Call → List ℕ → Type 0
Leaves call q = (answer : Answer) (state : State)
    → kind_at (after_entry state (Own call answer)) q ≡ kind_at state q

-- it takes no file away there, and no folder
abbrev pub KeepsFile : Call → List ℕ → Type 0
KeepsFile call q = (answer : Answer) (state : State) → no_file (kind_at state q) ≡ false
    → no_file (kind_at (after_entry state (Own call answer)) q) ≡ false

abbrev pub KeepsFolder : Call → List ℕ → Type 0
KeepsFolder call q = (answer : Answer) (state : State) → no_folder (kind_at state q) ≡ false
    → no_folder (kind_at (after_entry state (Own call answer)) q) ≡ false

pub file_left : (call : Call) (q : List ℕ) → Leaves call q → KeepsFile call q
file_left call q leaves answer state is = ap no_file (leaves answer state) ∙ is

pub folder_left : (call : Call) (q : List ℕ) → Leaves call q → KeepsFolder call q
folder_left call q leaves answer state is = ap no_folder (leaves answer state) ∙ is

-- another name in front
other_name : (name : Name) (names : List Name) (q : List ℕ) → (name.path ≡ q → ⊥)
    → name_at (name ∷ names) q ≡ name_at names q
other_name name names q other =
    at_root (name ∷ names) names q
    (ap (λ (b : Bool). if b then Some name.file else name_in names q)
    (differ name.path q other))

-- the name in front, where it is no root
first_name : (name : Name) (names : List Name)
    → (name_at (name ∷ names) name.path ≡ Some name.file)
    ⊎ (name_at (name ∷ names) name.path ≡ Some None)
first_name name names = by (is_root name.path)
    (ap (λ (b : Bool). if b then Some name.file else name_in names name.path)
    ((bytes_eq-Decides name.path name.path).1 refl))
  where
    by : (root : Bool) → name_in (name ∷ names) name.path ≡ Some name.file
        → ((if root then Some None else name_in (name ∷ names) name.path) ≡ Some name.file)
        ⊎ ((if root then Some None else name_in (name ∷ names) name.path) ≡ Some None)
    by true is = inr refl
    by false is = inl is

pub made_leaves : (dir q : List ℕ) → (dir ≡ q → ⊥) → Leaves (MakeDir dir) q
made_leaves dir q other (Refused why wrote) state = refl
made_leaves dir q other Done state =
    ap name_kind (other_name (record { path = dir; file = None }) state.names q other)

pub made_folder : (dir : List ℕ) → KeepsFolder (MakeDir dir) dir
made_folder dir (Refused why wrote) state is = is
made_folder dir Done state is =
    by (first_name (record { path = dir; file = None }) state.names)
  where
    by : (name_at (record { path = dir; file = None } ∷ state.names) dir ≡ Some None)
        ⊎ (name_at (record { path = dir; file = None } ∷ state.names) dir ≡ Some None)
        → no_folder (name_kind (name_at (record { path = dir; file = None } ∷ state.names) dir))
        ≡ false
    by (inl at) = ap (λ (o : Option (Option ℕ)). no_folder (name_kind o)) at
    by (inr at) = ap (λ (o : Option (Option ℕ)). no_folder (name_kind o)) at

-- folders stay where a directory is made
pub made_keeps : (dir q : List ℕ) → KeepsFolder (MakeDir dir) q
made_keeps dir q = by (bytes_eq dir q) refl
  where
    by : (t : Bool) → bytes_eq dir q ≡ t → KeepsFolder (MakeDir dir) q
    by true same = subst (KeepsFolder (MakeDir dir)) (bytes_same dir q same) (made_folder dir)
    by false other = folder_left (MakeDir dir) q (made_leaves dir q
        (λ same. true_false (sym ((bytes_eq-Decides dir q).1 same) ∙ other)))

pub created_leaves : (at q : List ℕ) → (at ≡ q → ⊥) → Leaves (Create at) q
created_leaves at q other (Refused why wrote) state = refl
created_leaves at q other Done state =
    ap name_kind (other_name (record { path = at; file = Some (length state.files) }) state.names q
    other)

-- a file is made where it is no root
pub created_file : (at : List ℕ) → is_root at ≡ false → KeepsFile (Create at) at
created_file at no_root (Refused why wrote) state is = is
created_file at no_root Done state is =
    ap (λ (o : Option (Option ℕ)). no_file (name_kind o))
    (ap (λ (root : Bool). if root then Some None
    else name_in (record { path = at; file = Some (length state.files) } ∷ state.names) at) no_root
    ∙ ap (λ (b : Bool). if b then Some (Some (length state.files)) else name_in state.names at)
    ((bytes_eq-Decides at at).1 refl))

same_changed : (change : ℕ → File → File) (state : State) (at : Option (Option ℕ)) (q : List ℕ)
    → kind_at (changed at change state) q ≡ kind_at state q
same_changed change state None q = refl
same_changed change state (Some None) q = refl
same_changed change state (Some (Some number)) q = refl

same_settled : (state : State) (at : Option (Option ℕ)) (q : List ℕ)
    → kind_at (settled at state) q ≡ kind_at state q
same_settled state None q = refl
same_settled state (Some None) q = refl
same_settled state (Some (Some number)) q = refl

pub synced_leaves : (at q : List ℕ) → Leaves (Sync at) q
synced_leaves at q (Refused why wrote) state = refl
synced_leaves at q Done state = same_settled state (name_at state.names at) q

pub written_leaves : (at : List ℕ) (from : ℕ) (piece q : List ℕ) → Leaves (WriteAt at from piece) q
written_leaves at from piece q Done state =
    same_changed (written from piece) state (name_at state.names at) q
written_leaves at from piece q (Refused why wrote) state = by (wrote == 0)
  where
    by : (t : Bool) → kind_at (if t then state
        else changed (name_at state.names at) (written from (take wrote piece)) state) q
        ≡ kind_at state q
    by true = refl
    by false = same_changed (written from (take wrote piece)) state (name_at state.names at) q

pub kept_leaves : (dir q : List ℕ) → Leaves (SyncDir dir) q
kept_leaves dir q (Refused why wrote) state = refl
kept_leaves dir q Done state = refl

pub moved_leaves : (from to q : List ℕ) → (from ≡ q → ⊥) → (to ≡ q → ⊥) → Leaves (Rename from to) q
moved_leaves from to q not_from not_to (Refused why wrote) state = refl
moved_leaves from to q not_from not_to Done state = by (name_at state.names from)
  where
    by : (at : Option (Option ℕ)) → kind_at (moved at from to state) q ≡ kind_at state q
    by None = refl
    by (Some None) = refl
    by (Some (Some n)) = ap name_kind
        (other_name (record { path = to; file = Some n }) (without to (without from state.names)) q
        not_to
        ∙ at_root (without to (without from state.names)) state.names q
        (still_named to q (without from state.names) not_to
        ∙ still_named from q state.names not_from))

-- What calls do not bring about.

or_false : (a b : Bool) → (a || b) ≡ false → (a ≡ false) × (b ≡ false)
or_false true b is = absurd (true_false is)
or_false false b is = (refl, is)

-- one call does not bring it about
abbrev pub Unmakes : Call → (List TreeNode → Bool) → Type 0
Unmakes call is_so = (answer : Answer) (state : State) → is_so (tree_of state) ≡ false
    → is_so (tree_of (after_entry state (Own call answer))) ≡ false

pub file_unmade : (call : Call) (q : List ℕ) → KeepsFile call q
    → Unmakes call (λ tree. is_some (file_refusal (node_at tree q)))
file_unmade call q keeps answer state is =
    file_refused (node_at (tree_of (after call answer state)) q)
    ∙ ap no_file (kind_is (after call answer state) q)
    ∙ keeps answer state (sym (file_refused (node_at (tree_of state) q)
    ∙ ap no_file (kind_is state q)) ∙ is)

pub folder_unmade : (call : Call) (q : List ℕ) → KeepsFolder call q
    → Unmakes call (λ tree. is_some (folder_refusal (node_at tree q)))
folder_unmade call q keeps answer state is =
    folder_refused (node_at (tree_of (after call answer state)) q)
    ∙ ap no_folder (kind_is (after call answer state) q)
    ∙ keeps answer state (sym (folder_refused (node_at (tree_of state) q)
    ∙ ap no_folder (kind_is state q)) ∙ is)

pub make_unmade : (call : Call) (q : List ℕ) → KeepsFolder call (folder_of q) → Leaves call q
    → Unmakes call (refuses (Create q))
make_unmade call q keeps leaves answer state is =
    let parts = or_false (no_folder (kind_at state (folder_of q))) (is_some (kind_at state q))
    ((λ i. no_folder (sym (kind_is state (folder_of q)) i) || is_some (sym (kind_is state q) i))
    ∙ sym (make_refused (node_at (tree_of state) (folder_of q)) (node_at (tree_of state) q))
    ∙ is) in
    let new = after call answer state in
    make_refused (node_at (tree_of new) (folder_of q)) (node_at (tree_of new) q)
    ∙ (λ i. no_folder (kind_is new (folder_of q) i) || is_some (kind_is new q i))
    ∙ (λ i. keeps answer state parts.0 i || is_some (leaves answer state i))
    ∙ parts.1

pub rename_unmade : (call : Call) (from to : List ℕ) → KeepsFile call from
    → KeepsFolder call (folder_of to) → Leaves call to
    → Unmakes call (refuses (Rename from to))
rename_unmade call from to file folder leaves answer state is =
    let old = or_false (no_file (kind_at state from) || no_folder (kind_at state (folder_of to)))
    (is_folder (kind_at state to))
    ((λ i. no_file (sym (kind_is state from) i) || no_folder (sym (kind_is state (folder_of to)) i)
    || is_folder (sym (kind_is state to) i))
    ∙ sym (rename_refused (node_at (tree_of state) from) (node_at (tree_of state) (folder_of to))
    (node_at (tree_of state) to)) ∙ is) in
    let parts = or_false (no_file (kind_at state from)) (no_folder (kind_at state (folder_of to)))
    old.0 in
    let new = after call answer state in
    rename_refused (node_at (tree_of new) from) (node_at (tree_of new) (folder_of to))
    (node_at (tree_of new) to)
    ∙ (λ i. no_file (kind_is new from i) || no_folder (kind_is new (folder_of to) i)
    || is_folder (kind_is new to i))
    ∙ (λ i. file answer state parts.0 i || folder answer state parts.1 i
    || is_folder (leaves answer state i))
    ∙ old.1

-- nothing comes to stand at a path that a call leaves
there_kind : (node : Option TreeNode) → is_some node ≡ is_some (node_kind node)
there_kind None = refl
there_kind (Some node) = refl

pub there_unmade : (call : Call) (q : List ℕ) → Leaves call q → Unmakes call (is_there q)
there_unmade call q leaves answer state is =
    let new = after call answer state in
    there_kind (node_at (tree_of new) q) ∙ ap is_some (kind_is new q ∙ leaves answer state
    ∙ sym (kind_is state q)) ∙ sym (there_kind (node_at (tree_of state) q)) ∙ is
