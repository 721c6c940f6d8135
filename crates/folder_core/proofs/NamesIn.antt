-- What stands in a directory is among its names.
use Rattle.std.proofs.Common.{◌≡◌, ◌<◌, ◌+◌, ◌==◌, ◌||◌, ℕ, zero, suc, Bool, true, false, not, List}
use Rattle.std.proofs.Common.{[], ◌∷◌, ◌++◌, Option, Some, None, length, nat_lt, if◌then◌else◌}
use Rattle.std.proofs.Common.{refl, sym, ◌∙◌, ap, subst, arith, append_assoc, is_some}
use Rattle.std.proofs.Common.{length-append, ltb-true}
use Rattle.std.specs.List.{insert, list_any}
use Rattle.std.specs.Prelude.{option_and_then}
use Rattle.std.specs.Str.{bytes_eq}
use Rattle.std.proofs.lemmas.Bool.{and_parts}
use Rattle.std.proofs.lemmas.Slice.Eq.{bytes_eq-Decides}
use Rattle.disk_model.specs.Names.{behind_slash, is_before, more_names, name_of, names_in, place_of}
use Rattle.disk_model.specs.Names.{put_name}
use Rattle.disk_model.specs.Tree.{TreeNode, before_slash, folder_before, folder_of, is_root}
use Rattle.disk_model.specs.Tree.{node_at, node_in, with_byte}
use Rattle.disk_model.proofs.Trees.{bytes_same}
use Rattle.folder_core.specs.Directory.{file_at, is_name, node_file, path_in}

true_false : ◌≡◌ {A = Bool} true false → ⊥
true_false e = cc

false_true : ◌≡◌ {A = Bool} false true → ⊥
false_true e = cc

not_true : (b : Bool) → not b ≡ true → b ≡ false
not_true true is = absurd (cc)
not_true false is = refl

-- Slashes.

abbrev has_slash : List ℕ → Bool
has_slash name = list_any (λ b. b == 47) name

no_slash : (name : List ℕ) → has_slash name ≡ false → before_slash name ≡ None
no_slash [] none = refl
no_slash (b ∷ name) none = by_first (b == 47) refl none (λ rest. no_slash name rest)
  where
    by_first : (t : Bool) → (b == 47) ≡ t → (t || has_slash name) ≡ false
        → (has_slash name ≡ false → before_slash name ≡ None)
        → with_byte b (before_slash name) ≡ None
    by_first true is none again = absurd (true_false none)
    by_first false is none again =
        ap (with_byte b) (again none) ∙ ap (λ (t : Bool). if t then Some [] else None) is

slash_after : (dir name : List ℕ) → has_slash name ≡ false
    → before_slash (dir ++ 47 ∷ name) ≡ Some dir
slash_after [] name none = ap (with_byte 47) (no_slash name none)
slash_after (b ∷ dir) name none = ap (with_byte b) (slash_after dir name none)

name_stays : (found name : List ℕ) → has_slash name ≡ false → behind_slash found name ≡ found
name_stays found [] none = refl
name_stays found (b ∷ name) none = by_first (b == 47) none (λ rest. name_stays found name rest)
  where
    by_first : (t : Bool) → (t || has_slash name) ≡ false
        → (has_slash name ≡ false → behind_slash found name ≡ found)
        → (if t then behind_slash name name else behind_slash found name) ≡ found
    by_first true none again = absurd (true_false none)
    by_first false none again = again none

name_after : (found dir name : List ℕ) → has_slash name ≡ false
    → behind_slash found (dir ++ 47 ∷ name) ≡ name
name_after found [] name none = name_stays name name none
name_after found (b ∷ dir) name none =
    if_same (b == 47) (name_after (dir ++ 47 ∷ name) dir name none) (name_after found dir name none)
  where
    if_same : (t : Bool) → behind_slash (dir ++ 47 ∷ name) (dir ++ 47 ∷ name) ≡ name
        → behind_slash found (dir ++ 47 ∷ name) ≡ name
        → (if t then behind_slash (dir ++ 47 ∷ name) (dir ++ 47 ∷ name)
        else behind_slash found (dir ++ 47 ∷ name))
        ≡ name
    if_same true x y = x
    if_same false x y = y

-- The folder and the name of a path in a directory.

pub record IsIn (dir name path : List ℕ) : Type 0 where
  pub folder : folder_of path ≡ dir
  pub name_is : name_of path ≡ name
  pub no_root : is_root path ≡ false

slash_free : (name : List ℕ) → is_name name ≡ true → has_slash name ≡ false
slash_free name named =
    not_true (has_slash name) (and_parts (nat_lt 0 (length name)) (not (has_slash name)) named).1

in_root : (dir name : List ℕ) → is_root dir ≡ true → is_name name ≡ true
    → IsIn dir name (dir ++ name)
in_root [] [] root named = absurd (cc)
in_root [] (b ∷ name) root named =
    let none : has_slash (b ∷ name) ≡ false = slash_free (b ∷ name) named in
    record {
      folder = ap folder_before (no_slash (b ∷ name) none);
      name_is = name_stays (b ∷ name) (b ∷ name) none;
      no_root = no_one b name none;
    }
  where
    no_one : (b : ℕ) (name : List ℕ) → has_slash (b ∷ name) ≡ false → is_root (b ∷ name) ≡ false
    no_one b name none = by_first (b == 47) refl none
      where
        by_first : (t : Bool) → (b == 47) ≡ t → (t || has_slash name) ≡ false
            → is_root (b ∷ name) ≡ false
        by_first true is none = absurd (true_false none)
        by_first false is none = by_root (is_root (b ∷ name)) refl
          where
            by_root : (r : Bool) → is_root (b ∷ name) ≡ r → is_root (b ∷ name) ≡ false
            by_root false e = e
            by_root true e =
                let slash : b ∷ name ≡ 47 ∷ [] = bytes_same (b ∷ name) (47 ∷ []) e in
                let here : b ≡ 47 = cc in
                absurd (true_false (sym (subst (λ (n : ℕ). (n == 47) ≡ true) (sym here) refl) ∙ is))
in_root (c ∷ dir) name root named =
    let slash : c ∷ dir ≡ 47 ∷ [] = bytes_same (c ∷ dir) (47 ∷ []) root in
    subst (λ (d : List ℕ). IsIn d name (d ++ name)) (sym slash) (in_slash name named)
  where
    in_slash : (name : List ℕ) → is_name name ≡ true → IsIn (47 ∷ []) name (47 ∷ name)
    in_slash [] named = absurd (cc)
    in_slash (b ∷ name) named =
        let none : has_slash (b ∷ name) ≡ false = slash_free (b ∷ name) named in
        record {
          folder = ap folder_before (slash_after [] (b ∷ name) none);
          name_is = name_after (47 ∷ b ∷ name) [] (b ∷ name) none;
          no_root = refl;
        }

front_whole : (dir : List ℕ) → is_root dir ≡ false → folder_before (Some dir) ≡ dir
front_whole [] root = absurd (cc)
front_whole (b ∷ dir) root = refl

long_no_root : (path : List ℕ) → 1 < length path → is_root path ≡ false
long_no_root path long = by_root (is_root path) refl
  where
    by_root : (r : Bool) → is_root path ≡ r → is_root path ≡ false
    by_root false e = e
    by_root true e = absurd (by_end (bytes_eq path []) refl e)
      where
        by_end : (t : Bool) → bytes_eq path [] ≡ t → (t || bytes_eq path (47 ∷ [])) ≡ true → ⊥
        by_end true is e = omega (arith, long, ap length (bytes_same path [] is))
        by_end false is e = omega (arith, long, ap length (bytes_same path (47 ∷ []) e))

some_byte : (dir : List ℕ) → is_root dir ≡ false → 0 < length dir
some_byte [] root = absurd (true_false root)
some_byte (b ∷ dir) root = omega arith

in_other : (dir name : List ℕ) → is_root dir ≡ false → is_name name ≡ true
    → IsIn dir name ((dir ++ 47 ∷ []) ++ name)
in_other dir name root named =
    let parts = and_parts (nat_lt 0 (length name)) (not (has_slash name)) named in
    let none : has_slash name ≡ false = not_true (has_slash name) parts.1 in
    let some : 0 < length dir = some_byte dir root in
    subst (λ (p : List ℕ). IsIn dir name p) (sym (append_assoc dir (47 ∷ []) name)) (record {
      folder = ap folder_before (slash_after dir name none) ∙ front_whole dir root;
      name_is = name_after (dir ++ 47 ∷ name) dir name none;
      no_root = long_no_root (dir ++ 47 ∷ name)
          (omega (arith, length-append dir (47 ∷ name), some, ltb-true 0 (length name) parts.0));
    })

pub path_is_in : (dir name : List ℕ) → is_name name ≡ true → IsIn dir name (path_in dir name)
path_is_in dir name named = by_root (is_root dir) refl
  where
    by_root : (r : Bool) → is_root dir ≡ r
        → IsIn dir name ((if r then dir else dir ++ 47 ∷ []) ++ name)
    by_root true is = in_root dir name is named
    by_root false is = in_other dir name is named

-- The names of a directory.

abbrev pub holds_name : List ℕ → List (List ℕ) → Bool
holds_name name names = list_any (λ other. bytes_eq other name) names

inserted_holds : (place : ℕ) (name new : List ℕ) (names : List (List ℕ))
    → holds_name name names ≡ true
    → holds_name name (insert names place new) ≡ true
inserted_holds zero name new names held = by_new (bytes_eq new name)
  where
    by_new : (t : Bool) → (t || holds_name name names) ≡ true
    by_new true = refl
    by_new false = held
inserted_holds (suc place) name new [] held = absurd (false_true held)
inserted_holds (suc place) name new (other ∷ names) held =
    by_other (bytes_eq other name) held (λ rest. inserted_holds place name new names rest)
  where
    by_other : (t : Bool) → (t || holds_name name names) ≡ true
        → (holds_name name names ≡ true → holds_name name (insert names place new) ≡ true)
        → (t || holds_name name (insert names place new)) ≡ true
    by_other true held again = refl
    by_other false held again = again held

new_holds : (place : ℕ) (name : List ℕ) (names : List (List ℕ)) → place < length names + 1
    → holds_name name (insert names place name) ≡ true
new_holds zero name names low =
    ap (λ (t : Bool). t || holds_name name names) ((bytes_eq-Decides name name).1 refl)
new_holds (suc place) name [] low = absurd (omega (arith, low))
new_holds (suc place) name (other ∷ names) low =
    by_other (bytes_eq other name) (new_holds place name names (omega (arith, low)))
  where
    by_other : (t : Bool) → holds_name name (insert names place name) ≡ true
        → (t || holds_name name (insert names place name)) ≡ true
    by_other true held = refl
    by_other false held = held

place_within : (name : List ℕ) (names : List (List ℕ)) → place_of name names < length names + 1
place_within name [] = omega arith
place_within name (other ∷ names) = by_before (is_before other name) (place_within name names)
  where
    by_before : (t : Bool) → place_of name names < length names + 1
        → (if t then place_of name names + 1 else 0) < length (other ∷ names) + 1
    by_before true within = omega (arith, within)
    by_before false within = omega arith

more_if : (t : Bool) (name new : List ℕ) (names : List (List ℕ)) → holds_name name names ≡ true
    → holds_name name (if t then put_name new names else names) ≡ true
more_if true name new names held = inserted_holds (place_of new names) name new names held
more_if false name new names held = held

more_hold : (name : List ℕ) (names : List (List ℕ)) (dir : List ℕ) (nodes : List TreeNode)
    → holds_name name names ≡ true → holds_name name (more_names names dir nodes) ≡ true
more_hold name names dir [] held = held
more_hold name names dir (node ∷ nodes) held =
    more_hold name
    (if bytes_eq (folder_of node.path) dir then put_name (name_of node.path) names else names)
    dir nodes
    (more_if (bytes_eq (folder_of node.path) dir) name (name_of node.path) names held)

node_held : (name dir path : List ℕ) (names : List (List ℕ)) (nodes : List TreeNode)
    → IsIn dir name path
    → is_some (node_in nodes path) ≡ true → holds_name name (more_names names dir nodes) ≡ true
node_held name dir path names [] at found = absurd (false_true found)
node_held name dir path names (node ∷ nodes) at found =
    by_path (bytes_eq node.path path) refl found (λ rest. node_held name dir path
    (if bytes_eq (folder_of node.path) dir then put_name (name_of node.path) names else names) nodes
    at rest)
  where
    by_path : (t : Bool) → bytes_eq node.path path ≡ t
        → is_some (if t then Some node else node_in nodes path) ≡ true
        → (is_some (node_in nodes path) ≡ true
        → holds_name name (more_names (if bytes_eq (folder_of node.path) dir
        then put_name (name_of node.path) names else names) dir nodes) ≡ true)
        → holds_name name
        (more_names
        (if bytes_eq (folder_of node.path) dir then put_name (name_of node.path) names
        else names) dir nodes) ≡ true
    by_path true is found again =
        let same : node.path ≡ path = bytes_same node.path path is in
        let folder : bytes_eq (folder_of node.path) dir ≡ true =
        (bytes_eq-Decides (folder_of node.path) dir).1 (ap folder_of same ∙ at.folder) in
        more_hold name
        (if bytes_eq (folder_of node.path) dir then put_name (name_of node.path) names
        else names) dir
        nodes (ap
        (λ (t : Bool). holds_name name
        (if t then put_name (name_of node.path) names else names)) folder
        ∙ ap (λ (n : List ℕ). holds_name name (put_name n names)) (ap name_of same ∙ at.name_is)
        ∙ new_holds (place_of name names) name names (place_within name names))
    by_path false is found again = again found

some_if : (r : Bool) (node : TreeNode) (found : Option TreeNode) → r ≡ false
    → is_some (if r then Some node else found) ≡ true → is_some found ≡ true
some_if true node found root some = absurd (true_false root)
some_if false node found root some = some

-- what stands in a directory is among its names
pub name_held : (tree : List TreeNode) (dir name : List ℕ) → is_name name ≡ true
    → is_some (node_at tree (path_in dir name)) ≡ true → holds_name name (names_in tree dir) ≡ true
name_held tree dir name named there =
    let at = path_is_in dir name named in
    node_held name dir (path_in dir name) [] tree at
    (some_if (is_root (path_in dir name)) _ (node_in tree (path_in dir name)) at.no_root there)

some_node : (node : Option TreeNode) → is_some (option_and_then node_file node) ≡ true
    → is_some node ≡ true
some_node None is = is
some_node (Some node) is = refl

-- the same of a file
pub file_held : (tree : List TreeNode) (dir name : List ℕ) → is_name name ≡ true
    → is_some (file_at tree (path_in dir name)) ≡ true → holds_name name (names_in tree dir) ≡ true
file_held tree dir name named there =
    name_held tree dir name named (some_node (node_at tree (path_in dir name)) there)
