-- The names in a folder, in the order of their bytes.
use Rattle.std.specs.Prelude.{ℕ, ◌+◌, ◌==◌, Bool, true, false, List, [], ◌∷◌, nat_lt, if◌then◌else◌}
use Rattle.std.specs.List.{insert}
use Rattle.std.specs.Str.{bytes_eq}
use Rattle.disk_model.specs.Tree.{TreeNode, folder_of}

-- what stands behind the last slash of a path, where `found` stands behind the slashes so far
abbrev pub behind_slash : List ℕ → List ℕ → List ℕ
behind_slash found [] = found
behind_slash found (b ∷ path) = if b == 47 then behind_slash path path else behind_slash found path

-- the name of a node in its folder
abbrev pub name_of : List ℕ → List ℕ
name_of path = behind_slash path path

-- one name stands before another: by the first byte in which they differ, and a shorter one first
abbrev pub is_before : List ℕ → List ℕ → Bool
is_before [] [] = false
is_before [] (y ∷ other) = true
is_before (x ∷ name) [] = false
is_before (x ∷ name) (y ∷ other) = if x == y then is_before name other else nat_lt x y

-- how many of the first names stand before a name
abbrev pub place_of : List ℕ → List (List ℕ) → ℕ
place_of name [] = 0
place_of name (other ∷ names) = if is_before other name then place_of name names + 1 else 0

-- a name put into names that are in order
abbrev pub put_name : List ℕ → List (List ℕ) → List (List ℕ)
put_name name names = insert names (place_of name names) name

-- names in order with those of more nodes, whose folder this is
abbrev pub more_names : List (List ℕ) → List ℕ → List TreeNode → List (List ℕ)
more_names names dir [] = names
more_names names dir (node ∷ nodes) =
    more_names
    (if bytes_eq (folder_of node.path) dir then put_name (name_of node.path) names else names)
    dir nodes

-- the names of the nodes whose folder this is, in order
abbrev pub names_in : List TreeNode → List ℕ → List (List ℕ)
names_in nodes dir = more_names [] dir nodes
