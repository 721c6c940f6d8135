-- What stands at a path of a state's tree, by the names.
use Rattle.std.proofs.Common.{◌≡◌, ℕ, Bool, true, false, List, [], ◌∷◌, Option, Some, None, map}
use Rattle.std.proofs.Common.{if◌then◌else◌, refl, sym, ◌∙◌, ap}
use Rattle.std.proofs.lemmas.Slice.Eq.{bytes_eq-Decides}
use Rattle.std.specs.Str.{bytes_eq}
use Rattle.disk_model.specs.Tree.{TreeNode, folder_node, is_root, node_at, node_in}
use Rattle.disk_model.specs.State.{File, Name, State, name_at, name_in, node_of, tree_of}

-- two paths that the test takes for one
pub bytes_same : (path other : List ℕ) → bytes_eq path other ≡ true → path ≡ other
bytes_same path other same = (bytes_eq-Decides path other).0 same

-- a node by what stands there
abbrev pub node_by : List File → List ℕ → Option (Option ℕ) → Option TreeNode
node_by files path None = None
node_by files path (Some file) = Some (node_of files path file)

pub path-node_of : (files : List File) (path : List ℕ) (file : Option ℕ)
    → (node_of files path file).path ≡ path
path-node_of files path None = refl
path-node_of files path (Some number) = refl

-- one name more
name_found : (files : List File) (name : Name) (path : List ℕ) (here : Bool)
    (found : Option TreeNode)
    (rest : Option (Option ℕ)) → bytes_eq name.path path ≡ here → found ≡ node_by files path rest
    → (if here then Some (node_of files name.path name.file) else found)
    ≡ node_by files path (if here then Some name.file else rest)
name_found files name path true found rest is same =
    ap (λ (p : List ℕ). Some (node_of files p name.file)) (bytes_same name.path path is)
name_found files name path false found rest is same = same

pub node_in-names : (files : List File) (names : List Name) (path : List ℕ)
    → node_in (map (λ (name : Name). node_of files name.path name.file) names) path
    ≡ node_by files path (name_in names path)
node_in-names files [] path = refl
node_in-names files (name ∷ names) path =
    ap (λ (p : List ℕ). if bytes_eq p path then Some (node_of files name.path name.file)
    else node_in (map (λ (n : Name). node_of files n.path n.file) names) path)
    (path-node_of files name.path name.file)
    ∙ name_found files name path (bytes_eq name.path path) _ (name_in names path) refl
    (node_in-names files names path)

root_found : (files : List File) (path : List ℕ) (root : Bool) (found : Option TreeNode)
    (rest : Option (Option ℕ))
    → found ≡ node_by files path rest
    → (if root then Some (folder_node path) else found)
    ≡ node_by files path (if root then Some None else rest)
root_found files path true found rest same = refl
root_found files path false found rest same = same

pub node_at-tree_of : (state : State) (path : List ℕ)
    → node_at (tree_of state) path ≡ node_by state.files path (name_at state.names path)
node_at-tree_of state path =
    root_found state.files path (is_root path) (node_in (tree_of state) path)
    (name_in state.names path)
    (node_in-names state.files state.names path)

-- The same by what a look at the names has told.

pub nothing_at : (state : State) (path : List ℕ) (at : Option (Option ℕ))
    → at ≡ name_at state.names path → at ≡ None
    → node_at (tree_of state) path ≡ None
nothing_at state path at told is =
    node_at-tree_of state path ∙ ap (node_by state.files path) (sym told ∙ is)

pub something_at : (state : State) (path : List ℕ) (at : Option (Option ℕ)) (file : Option ℕ)
    → at ≡ name_at state.names path → at ≡ Some file
    → node_at (tree_of state) path ≡ Some (node_of state.files path file)
something_at state path at file told is =
    node_at-tree_of state path ∙ ap (node_by state.files path) (sym told ∙ is)

pub folder_at : (state : State) (path : List ℕ) (at : Option (Option ℕ))
    → at ≡ name_at state.names path
    → at ≡ Some None → node_at (tree_of state) path ≡ Some (folder_node path)
folder_at state path at told is = something_at state path at None told is

pub file_at_path : (state : State) (path : List ℕ) (at : Option (Option ℕ)) (number : ℕ)
    → at ≡ name_at state.names path → at ≡ Some (Some number)
    → node_at (tree_of state) path ≡ Some (node_of state.files path (Some number))
file_at_path state path at number told is = something_at state path at (Some number) told is
