-- What stands at a name behind a change, and in an image.
use Rattle.std.proofs.Common.{List, None, Option, Some, [], ap, arith, codes, false, length}
use Rattle.std.proofs.Common.{length-append, if◌then◌else◌, lit<, refl, subst, sym, true, ℕ, ⊎_elim}
use Rattle.std.proofs.Common.{Bool, ◌<◌, ◌++◌, ◌∙◌, ◌∷◌, ◌≡◌, ◌≢◌, ◌||◌}
use Rattle.std.proofs.lemmas.Bool.{cases_Bool, cond-false, cond-true}
use Rattle.std.proofs.lemmas.Bool.Decides.{not_from_Decides}
use Rattle.std.proofs.lemmas.Slice.Eq.{bytes_eq-Decides}
use Rattle.std.specs.Str.{bytes_eq}
use Rattle.disk_model.specs.Tree.{TreeNode, folder_node, is_root, node_at, node_in}
use Rattle.disk_model.specs.State.{File, Name, file_at, is_file, name_at, name_in, without}
use Rattle.disk_model.specs.Images.{IsLeft, IsLeftAt, IsTreeOf}
use Rattle.folder_stops.proofs.Words.{apart, same}
use Rattle.folder_tails.specs.Sides.{lock_of, tail_of, tmp_of}
use Rattle.folder_tails.specs.Settled.{held_by}

longer : (path rest : List ℕ) → 0 < length rest → path ++ rest ≢ path
longer path rest lt e = absurd (omega (arith, lt, length-append path rest, ap length e))

cancel : (path a b : List ℕ) → path ++ a ≡ path ++ b → a ≡ b
cancel [] a b e = e
cancel (x ∷ path) a b e = cancel path a b (let f : path ++ a ≡ path ++ b = cc in f)

differ : (path a b : List ℕ) → bytes_eq a b ≡ false → path ++ a ≢ path ++ b
differ path a b f e = not_from_Decides (bytes_eq a b) (bytes_eq-Decides a b) f (cancel path a b e)

-- what is longer than one byte is no root
long_no_root : (path : List ℕ) → 1 < length path → is_root path ≡ false
long_no_root [] lt = absurd (omega (arith, lt))
long_no_root (a ∷ []) lt = absurd (omega (arith, lt))
long_no_root (a ∷ b ∷ path) lt =
    let none : bytes_eq (a ∷ b ∷ path) [] ≡ false =
    apart (a ∷ b ∷ path) [] (λ e. let size = ap length e in absurd (omega (arith, size))) in
    let one : bytes_eq (a ∷ b ∷ path) (47 ∷ []) ≡ false =
    apart (a ∷ b ∷ path) (47 ∷ []) (λ e. let size = ap length e in absurd (omega (arith, size))) in
    λ i. none i || one i

-- the mailbox and the names beside it are all different, and none is a root
module _ (path : List ℕ) where
  pub tail-path : tail_of path ≢ path
  tail-path = longer path (codes ".tail") (lit< tt)

  pub tmp-path : tmp_of path ≢ path
  tmp-path = longer path (codes ".tail.tmp") (lit< tt)

  pub lock-path : lock_of path ≢ path
  lock-path = longer path (codes ".lock") (lit< tt)

  pub tail-tmp : tail_of path ≢ tmp_of path
  tail-tmp = differ path (codes ".tail") (codes ".tail.tmp") refl

  pub tail-lock : tail_of path ≢ lock_of path
  tail-lock = differ path (codes ".tail") (codes ".lock") refl

  pub tmp-lock : tmp_of path ≢ lock_of path
  tmp-lock = differ path (codes ".tail.tmp") (codes ".lock") refl

  pub root-tail : is_root (tail_of path) ≡ false
  root-tail = long_no_root (tail_of path) (omega (arith, length-append path (codes ".tail")))

  pub root-tmp : is_root (tmp_of path) ≡ false
  root-tmp = long_no_root (tmp_of path) (omega (arith, length-append path (codes ".tail.tmp")))

  pub root-lock : is_root (lock_of path) ≡ false
  root-lock = long_no_root (lock_of path) (omega (arith, length-append path (codes ".lock")))

-- the first of the names
pub first_name : (path : List ℕ) (file : Option ℕ) (names : List Name) → is_root path ≡ false
    → name_at (record { path = path; file = file } ∷ names) path ≡ Some file
first_name path file names no_root = cond-false (is_root path) _ _ no_root ∙ cond-true
    (bytes_eq path path) _ _ (same path)

without_it : (path : List ℕ) (names : List Name) → name_in (without path names) path ≡ None
without_it path [] = refl
without_it path (x ∷ names) = ⊎_elim
    (λ (e : bytes_eq x.path path ≡ true). ap (λ (l : List Name). name_in l path)
    (cond-true (bytes_eq x.path path) _ _ e) ∙ without_it path names)
    (λ (e : bytes_eq x.path path ≡ false). ap (λ (l : List Name). name_in l path)
    (cond-false (bytes_eq x.path path) _ _ e) ∙ cond-false (bytes_eq x.path path) _ _ e
    ∙ without_it path names)
    (cases_Bool (bytes_eq x.path path))

-- what was taken away is not there
pub removed_name : (path : List ℕ) (names : List Name) → is_root path ≡ false
    → name_at (without path names) path ≡ None
removed_name path names no_root = cond-false (is_root path) _ _ no_root ∙ without_it path names

-- What an image holds at a path, by what the names have there.

abbrev pub Holds : List File → Option (Option ℕ) → Option (List ℕ) → Type 0
Holds files None held = held ≡ None
Holds files (Some file) held = IsLeftAt files file held

step_image : (path : List ℕ) (files : List File) (x : Name) (names : List Name) (node : TreeNode)
    (tree : List TreeNode) → node.path ≡ x.path → IsLeftAt files x.file node.bytes
    → Holds files (name_in names path) (held_by (node_in tree path))
    → Holds files (name_in (x ∷ names) path) (held_by (node_in (node ∷ tree) path))
step_image path files x names node tree e left rest = ⊎_elim here there
    (cases_Bool (bytes_eq x.path path))
  where
    there : bytes_eq x.path path ≡ false
        → Holds files (name_in (x ∷ names) path) (held_by (node_in (node ∷ tree) path))
    there f =
        let f' : bytes_eq node.path path ≡ false = subst (λ (r : List ℕ). bytes_eq r path ≡ false)
        (sym e) f in
        subst (λ (o : Option (Option ℕ)). Holds files o (held_by (node_in (node ∷ tree) path)))
        (sym (cond-false (bytes_eq x.path path) _ _ f))
        (subst (λ (o : Option TreeNode). Holds files (name_in names path) (held_by o))
        (sym (cond-false (bytes_eq node.path path) _ _ f')) rest)

    here : bytes_eq x.path path ≡ true
        → Holds files (name_in (x ∷ names) path) (held_by (node_in (node ∷ tree) path))
    here f =
        let f' : bytes_eq node.path path ≡ true = subst (λ (r : List ℕ). bytes_eq r path ≡ true)
        (sym e) f in
        subst (λ (o : Option (Option ℕ)). Holds files o (held_by (node_in (node ∷ tree) path)))
        (sym (cond-true (bytes_eq x.path path) _ _ f))
        (subst (λ (o : Option TreeNode). Holds files (Some x.file) (held_by o))
        (sym (cond-true (bytes_eq node.path path) _ _ f')) left)

image_in : (path : List ℕ) (files : List File) (names : List Name) (tree : List TreeNode)
    → IsTreeOf files names tree → Holds files (name_in names path) (held_by (node_in tree path))
image_in path files [] [] is = refl
image_in path files [] (node ∷ tree) is = absurd is
image_in path files (x ∷ names) [] is = absurd is
image_in path files (x ∷ names) (node ∷ tree) is =
    step_image path files x names node tree is.0 is.1 (image_in path files names tree is.2)

by_root : (root : Bool) (path : List ℕ) (files : List File) (at : Option (Option ℕ))
    (found : Option TreeNode) → Holds files at (held_by found)
    → Holds files (if root then Some None else at)
    (held_by (if root then Some (folder_node path) else found))
by_root true path files at found is = refl
by_root false path files at found is = is

pub image_at : (path : List ℕ) (files : List File) (names : List Name) (tree : List TreeNode)
    → IsTreeOf files names tree → Holds files (name_at names path) (held_by (node_at tree path))
image_at path files names tree is =
    by_root (is_root path) path files (name_in names path) (node_in tree path)
    (image_in path files names tree is)

-- a file in an image
pub image_file : (path : List ℕ) (n : ℕ) (files : List File) (names : List Name)
    (tree : List TreeNode) → name_at names path ≡ Some (Some n) → IsTreeOf files names tree
    → (c : List ℕ) × (held_by (node_at tree path) ≡ Some c) × IsLeft (file_at files n) c
image_file path n files names tree is contents =
    subst (λ (o : Option (Option ℕ)). Holds files o (held_by (node_at tree path))) is
    (image_at path files names tree contents)

no_file : (files : List File) (at : Option (Option ℕ)) (held : Option (List ℕ)) → Holds files at
    held
    → is_file at ≡ false → held ≡ None
no_file files None held is none = is
no_file files (Some None) held is none = is
no_file files (Some (Some n)) held is none = absurd (cc)

-- where no file is, an image has none
pub image_none : (path : List ℕ) (files : List File) (names : List Name) (tree : List TreeNode)
    → is_file (name_at names path) ≡ false → IsTreeOf files names tree
    → held_by (node_at tree path) ≡ None
image_none path files names tree is contents =
    no_file files (name_at names path) (held_by (node_at tree path))
    (image_at path files names tree contents) is
