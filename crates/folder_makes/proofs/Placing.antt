-- In a tree nothing stands in a directory that is not there.
use Rattle.std.proofs.Common.{◌≡◌, ◌∷◌, ◌++◌, ◌&&◌, ◌∙◌, [], ℕ, Bool, true, false, not, List}
use Rattle.std.proofs.Common.{Option, Some}
use Rattle.std.proofs.Common.{None, ap, if◌then◌else◌, is_some, length, refl, subst, sym}
use Rattle.std.proofs.lemmas.Bool.{and_parts}
use Rattle.std.specs.Prelude.{IfSome}
use Rattle.std.specs.Str.{bytes_eq, is_utf8}
use Rattle.disk_model.specs.Journal.{Entry, Past}
use Rattle.disk_model.specs.Lawful.{AreLawful, IsLawful}
use Rattle.disk_model.specs.Names.{more_names, name_of, names_in, put_name}
use Rattle.disk_model.specs.State.{State, after_entry, run_entries, state_after, state_of, tree_of}
use Rattle.disk_model.specs.Tree.{TreeNode, are_distinct, are_placed, folder_of, is_first_tree}
use Rattle.disk_model.specs.Tree.{is_folder_node}
use Rattle.disk_model.specs.Tree.{is_placed, folder_node, is_root, is_tree, node_at, node_in}
use Rattle.disk_model.proofs.LawsOfTrees.{each_mark_has_a_tree, first_names_tree}
use Rattle.disk_model.proofs.LawsOfTrees.{is_tree-names, run_tree}
use Rattle.disk_model.proofs.Marks.{state_at-length}
use Rattle.disk_model.proofs.Trees.{bytes_same}
use Rattle.folder_core.specs.Directory.{is_name, path_in}
use Rattle.folder_core.proofs.NamesIn.{IsIn, path_is_in}
use Rattle.folder_drivers.proofs.Sturdy.{Sturdy, sturdy_after}
use Rattle.folder_stops.specs.Along.{Grown}

true_false : ◌≡◌ {A = Bool} true false → ⊥
true_false e = cc

-- the folder of a node that is placed
placed_folder : (tree : List TreeNode) (path : List ℕ) → is_placed tree path ≡ true
    → is_folder_node (node_at tree (folder_of path)) ≡ true
placed_folder tree path placed =
    (and_parts (not (is_root path) && is_utf8 path)
    (is_folder_node (node_at tree (folder_of path))) placed).1

no_names : (tree : List TreeNode) (dir : List ℕ) (nodes : List TreeNode) → node_at tree dir ≡ None
    → are_placed tree nodes ≡ true → more_names [] dir nodes ≡ []
no_names tree dir [] none placed = refl
no_names tree dir (node ∷ nodes) none placed =
    let parts = and_parts (is_placed tree node.path) (are_placed tree nodes) placed in
    by (bytes_eq (folder_of node.path) dir) refl (placed_folder tree node.path parts.0)
    (no_names tree dir nodes none parts.1)
  where
    by : (t : Bool) → bytes_eq (folder_of node.path) dir ≡ t
        → is_folder_node (node_at tree (folder_of node.path)) ≡ true → more_names [] dir nodes ≡ []
        → more_names (if t then put_name (name_of node.path) [] else []) dir nodes ≡ []
    by true same folder rest =
        absurd (true_false (sym folder ∙ ap (λ (d : List ℕ). is_folder_node (node_at tree d))
        (bytes_same (folder_of node.path) dir same) ∙ ap is_folder_node none))
    by false same folder rest = rest

are_all_placed : (tree : List TreeNode) → is_tree tree ≡ true → are_placed tree tree ≡ true
are_all_placed tree is = (and_parts (are_distinct tree) (are_placed tree tree) is).1

pub nothing_in : (tree : List TreeNode) (dir : List ℕ) → is_tree tree ≡ true
    → node_at tree dir ≡ None → names_in tree dir ≡ []
nothing_in tree dir is none = no_names tree dir tree none (are_all_placed tree is)

-- a node of a tree stands in a folder
found_placed : (tree : List TreeNode) (path : List ℕ) (nodes : List TreeNode)
    → are_placed tree nodes ≡ true → is_some (node_in nodes path) ≡ true
    → is_folder_node (node_at tree (folder_of path)) ≡ true
found_placed tree path [] placed some = absurd (true_false (sym some))
found_placed tree path (node ∷ nodes) placed some =
    let parts = and_parts (is_placed tree node.path) (are_placed tree nodes) placed in
    by (bytes_eq node.path path) refl some (placed_folder tree node.path parts.0)
    (λ rest. found_placed tree path nodes parts.1 rest)
  where
    by : (t : Bool) → bytes_eq node.path path ≡ t
        → is_some (if t then Some node else node_in nodes path) ≡ true
        → is_folder_node (node_at tree (folder_of node.path)) ≡ true
        → (is_some (node_in nodes path) ≡ true
        → is_folder_node (node_at tree (folder_of path)) ≡ true)
        → is_folder_node (node_at tree (folder_of path)) ≡ true
    by true same some folder again =
        ap (λ (p : List ℕ). is_folder_node (node_at tree (folder_of p)))
        (sym (bytes_same node.path path same)) ∙ folder
    by false same some folder again = again some

-- nor has it directories
pub nothing_at : (tree : List TreeNode) (dir name : List ℕ) → is_name name ≡ true
    → is_tree tree ≡ true → node_at tree dir ≡ None → node_at tree (path_in dir name) ≡ None
nothing_at tree dir name named is none = by (is_root (path_in dir name)) at.no_root
  where
    at : IsIn dir name (path_in dir name)
    at = path_is_in dir name named

    by_node : (found : Option TreeNode) → node_in tree (path_in dir name) ≡ found → found ≡ None
    by_node None is_found = refl
    by_node (Some node) is_found = absurd (true_false (sym (found_placed tree
        (path_in dir name) tree (are_all_placed tree is) (ap is_some is_found))
        ∙ ap (λ (p : List ℕ). is_folder_node (node_at tree p)) at.folder ∙ ap is_folder_node none))

    by : (root : Bool) → root ≡ false
        → (if root then Some (folder_node (path_in dir name)) else node_in tree (path_in dir name))
        ≡ None
    by true no_root = absurd (true_false no_root)
    by false no_root = by_node (node_in tree (path_in dir name)) refl

-- the tree at the end of a lawful past is one
pub tree_now : (marks : ℕ) (past : Past) → IsLawful marks past
    → is_tree (tree_of (state_after past)) ≡ true
tree_now marks past lawful =
    ap (λ (s : State). is_tree (tree_of s)) (sym (state_at-length past))
    ∙ each_mark_has_a_tree past marks (length past.journal) lawful

-- what is told of a growth from a tree on
pub grown_from : (marks : ℕ) (a b : Option Past) (P Q : State → List Entry → Type 0)
    → IfSome a (IsLawful marks) → Grown a b P
    → ((s : State) (es : List Entry) → is_tree (tree_of s) ≡ true → P s es → Q s es) → Grown a b Q
grown_from marks None b P Q lawful first turns = first
grown_from marks (Some past) None P Q lawful first turns = absurd first
grown_from marks (Some past) (Some new) P Q lawful first turns = record {
  same_first = first.same_first;
  more = first.more;
  journal = first.journal;
  along = turns (state_after past) first.more (tree_now marks past lawful) first.along;
}

-- The same where the end is told to be lawful.

lawful_parts : (xs ys : List Entry) (s : State) → AreLawful (xs ++ ys) s
    → AreLawful xs s × AreLawful ys (run_entries xs s)
lawful_parts [] ys s are = (tt, are)
lawful_parts (entry ∷ xs) ys s are =
    let rest = lawful_parts xs ys (after_entry s entry) are.1 in ((are.0, rest.0), rest.1)

pub grown_lawful : (marks : ℕ) (a b : Option Past) (P Q : State → List Entry → Type 0)
    → IfSome b (IsLawful marks) → Grown a b P
    → ((s : State) (es : List Entry) → is_tree (tree_of s) ≡ true → Sturdy s → AreLawful es s
    → P s es → Q s es) → Grown a b Q
grown_lawful marks None b P Q lawful first turns = first
grown_lawful marks (Some past) None P Q lawful first turns = absurd first
grown_lawful marks (Some past) (Some new) P Q lawful first turns = record {
  same_first = first.same_first;
  more = first.more;
  journal = first.journal;
  along = turns (state_after past) first.more (is_tree-names (state_after past)
      (run_tree past.journal (state_of past.first) parts.0 (first_names_tree past.first
      (ap is_first_tree (sym first.same_first) ∙ lawful.first))))
      (sturdy_after past) parts.1 first.along;
}
  where
    parts : AreLawful past.journal (state_of past.first)
        × AreLawful first.more (state_after past)
    parts = lawful_parts past.journal first.more (state_of past.first)
        (subst (λ (es : List Entry). AreLawful es (state_of past.first)) first.journal
        (subst (λ (tree : List TreeNode). AreLawful new.journal (state_of tree)) first.same_first
        lawful.lawful))
