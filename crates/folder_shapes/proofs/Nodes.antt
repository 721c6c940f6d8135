-- Paths behind others, and files as nodes of a tree.
use Rattle.std.proofs.Common.{◌≡◌, ◌⊎◌, inl, inr, ⊎_elim, ℕ, ◌==◌, true, false, List, [], ◌∷◌}
use Rattle.std.proofs.Common.{◌++◌, Option, Some, None, refl, sym, ◌∙◌, ap, subst}
use Rattle.std.specs.Prelude.{option_and_then}
use Rattle.std.specs.Str.{bytes_eq}
use Rattle.std.proofs.lemmas.Bool.{cases_Bool, cond-true, cond-false, eqb-true, eq-eqb}
use Rattle.disk_model.specs.Tree.{TreeNode, is_root, folder_node, node_at, node_in}
use Rattle.folder_core.specs.Directory.{file_at, node_file}
use Rattle.folder_stops.specs.Words.{Among}
use Rattle.folder_stops.specs.Reads.{IsAlone}
use Rattle.folder_stops.proofs.Words.{equal, same}
use Rattle.folder_shapes.specs.Reading.{behind}

pub behind_is : (front path rest : List ℕ) → behind front path ≡ Some rest → path ≡ front ++ rest
behind_is [] path rest e = cc
behind_is (b ∷ front) [] rest e = absurd (cc)
behind_is (b ∷ front) (c ∷ path) rest e = ⊎_elim {C = (c ∷ path) ≡ (b ∷ front ++ rest)}
    (λ (t : (b == c) ≡ true).
    let rest_is = behind_is front path rest (sym (cond-true (b == c) _ _ t) ∙ e) in
    let byte : b ≡ c = eqb-true b c t in λ i. sym byte i ∷ rest_is i)
    (λ (f : (b == c) ≡ false).
    let n : None ≡ Some rest = sym (cond-false (b == c) (behind front path) None f) ∙ e in
    absurd (cc))
    (cases_Bool (b == c))

pub behind_there : (front rest : List ℕ) → behind front (front ++ rest) ≡ Some rest
behind_there [] rest = refl
behind_there (b ∷ front) rest = cond-true (b == b) _ _ (eq-eqb b b refl) ∙ behind_there front rest

in_node : (tree : List TreeNode) (p : List ℕ) (node : TreeNode) → node_in tree p ≡ Some node
    → Among node tree × (node.path ≡ p)
in_node [] p node e = absurd (cc)
in_node (x ∷ tree) p node e = ⊎_elim {C = Among node (x ∷ tree) × (node.path ≡ p)}
    (λ (t : bytes_eq x.path p ≡ true).
    let f : Some x ≡ Some node = sym (cond-true (bytes_eq x.path p) (Some x) (node_in tree p) t)
    ∙ e in let is : x ≡ node = cc in
    (inl (sym is), ap (λ (y : TreeNode). y.path) (sym is) ∙ equal x.path p t))
    (λ (t : bytes_eq x.path p ≡ false).
    let rest = in_node tree p node (sym (cond-false (bytes_eq x.path p) (Some x) (node_in tree p) t)
    ∙ e) in (inr rest.0, rest.1))
    (cases_Bool (bytes_eq x.path p))

node_found : (tree : List TreeNode) (p : List ℕ) (node : TreeNode) → Among node tree → node.path ≡ p
    → (other : TreeNode) × (node_in tree p ≡ Some other)
node_found [] p node in_it e = absurd in_it
node_found (x ∷ tree) p node in_it e =
    ⊎_elim {C = (other : TreeNode) × (node_in (x ∷ tree) p ≡ Some other)}
    (λ (t : bytes_eq x.path p ≡ true).
    (x, cond-true (bytes_eq x.path p) (Some x) (node_in tree p) t))
    (λ (t : bytes_eq x.path p ≡ false).
    ⊎_elim {C = (other : TreeNode) × (node_in (x ∷ tree) p ≡ Some other)}
    (λ (is : node ≡ x). let yes : bytes_eq x.path p ≡ true = subst
    (λ (q : List ℕ). bytes_eq q p ≡ true) (sym e ∙ ap (λ (y : TreeNode). y.path) is) (same p) in
    absurd (cc))
    (λ (later : Among node tree). let rest = node_found tree p node later e in
    (rest.0, cond-false (bytes_eq x.path p) (Some x) (node_in tree p) t ∙ rest.1))
    in_it)
    (cases_Bool (bytes_eq x.path p))

has_file : (found : Option TreeNode) (bytes : List ℕ) → option_and_then node_file found ≡ Some bytes
    → (node : TreeNode) × (found ≡ Some node) × (node.bytes ≡ Some bytes)
has_file None bytes e = absurd (cc)
has_file (Some node) bytes e = (node, refl, e)

pub file_node : (tree : List TreeNode) (p bytes : List ℕ) → is_root p ≡ false → file_at tree p
    ≡ Some bytes → (node : TreeNode) × Among node tree × (node.path ≡ p) × (node.bytes ≡ Some bytes)
file_node tree p bytes no_root e =
    let at = has_file (node_at tree p) bytes e in
    let found = in_node tree p at.0
    (sym (cond-false (is_root p) (Some (folder_node p)) (node_in tree p) no_root) ∙ at.1) in
    (at.0, found.0, found.1, at.2)

pub node_has : (tree : List TreeNode) (p bytes : List ℕ) (node : TreeNode) → is_root p ≡ false
    → Among node tree → node.path ≡ p → node.bytes ≡ Some bytes → IsAlone tree node → file_at tree p
    ≡ Some bytes
node_has tree p bytes node no_root in_it e is alone =
    let other = node_found tree p node in_it e in
    let there = in_node tree p other.0 other.1 in
    ap (option_and_then node_file)
    (cond-false (is_root p) (Some (folder_node p)) (node_in tree p) no_root ∙ other.1)
    ∙ alone other.0 there.0 (there.1 ∙ sym e) ∙ is
