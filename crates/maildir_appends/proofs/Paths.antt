-- Paths in the directories of a Maildir.
use Rattle.std.proofs.Common.{◌≡◌, ◌⊎◌, inl, inr, ⊎_elim, ℕ, ◌==◌, Bool, true, false, List, []}
use Rattle.std.proofs.Common.{◌∷◌, ◌++◌, Option, Some, None, refl, sym, ◌∙◌, ap, subst}
use Rattle.std.proofs.Common.{append_assoc, codes}
use Rattle.std.specs.Prelude.{is_some, ◌&&◌}
use Rattle.std.proofs.lemmas.Bool.{cases_Bool, cond-true, cond-false, eq-eqb}
use Rattle.std.proofs.lemmas.List.{append-nil}
use Rattle.disk_model.specs.Tree.{is_root}
use Rattle.std.specs.String.{string_bytes}
use Rattle.mail_base.specs.declared.flags.Flags.{Flags}
use Rattle.folder_core.specs.Directory.{front_of, path_in}
use Rattle.folder_core.specs.Maildir.{directory, is_shown}
use Rattle.folder_core.specs.MaildirNames.{split_name}
use Rattle.folder_stops.specs.Appends.{IsFit, IsItemOf, NewItem}
use Rattle.folder_stops.specs.Folder.{IsSide}
use Rattle.folder_shapes.specs.Maildir.{maildir_files, maildir_making, maildir_shape, name_in}
use Rattle.folder_shapes.specs.Maildir.{name_key, or_else}
use Rattle.folder_shapes.specs.Reading.{behind}
use Rattle.folder_shapes.proofs.Nodes.{behind_is, behind_there}
use Rattle.folder_drivers.specs.MaildirAppend.{IsBase, name_for}
use Rattle.maildir_appends.specs.Placing.{AreOf, IsPlaced}
use Rattle.folder_drivers.specs.MaildirAppend.{is_in_cur}
use Rattle.maildir_appends.specs.declared.places.Places.{Places}
use Rattle.maildir_appends.proofs.Naming.{base_shown, base_split, name_shown, name_split}

front_cases : (d : List ℕ) → (a : List ℕ) × (front_of d ≡ d ++ a) × ((a ≡ []) ⊎ (a ≡ 47 ∷ []))
front_cases d = ⊎_elim
    {C = (a : List ℕ) × (front_of d ≡ d ++ a) × ((a ≡ []) ⊎ (a ≡ 47 ∷ []))}
    (λ (t : is_root d ≡ true).
    ([], cond-true (is_root d) d (d ++ 47 ∷ []) t ∙ sym (append-nil d), inl refl))
    (λ (t : is_root d ≡ false). (47 ∷ [], cond-false (is_root d) d (d ++ 47 ∷ []) t, inr refl))
    (cases_Bool (is_root d))

behind_split : (front a b : List ℕ) → behind (front ++ a) (front ++ b) ≡ behind a b
behind_split [] a b = refl
behind_split (x ∷ front) a b = cond-true (x == x) _ _ (eq-eqb x x refl) ∙ behind_split front a b

-- what stands in one directory of a folder, seen from another one
behind_word : (dir word path : List ℕ) → (a : List ℕ) × ((a ≡ []) ⊎ (a ≡ 47 ∷ []))
    × (behind (front_of (path_in dir word)) (path_in dir path) ≡ behind (word ++ a) path)
behind_word dir word path = let front = front_cases (path_in dir word) in (
  front.0,
  front.2,
  ap (λ (f : List ℕ). behind f (path_in dir path))
      (front.1 ∙ append_assoc (front_of dir) word front.0)
      ∙ behind_split (front_of dir) (word ++ front.0) path,
)

-- a path in neither directory of messages has no slot
no_slot : (dir path : List ℕ) → ((a : List ℕ) → behind (codes "cur" ++ a) path ≡ None)
    → ((a : List ℕ) → (a ≡ []) ⊎ (a ≡ 47 ∷ []) → name_key (behind (codes "new" ++ a) path) ≡ None)
    → (maildir_shape dir).slot (path_in dir path) ≡ None
no_slot dir path cur new =
    let in_cur = behind_word dir (codes "cur") path in
    let in_new = behind_word dir (codes "new") path in
    (λ i. or_else (name_key ((in_cur.2 ∙ cur in_cur.0) i)) (name_key (in_new.2 i)))
    ∙ new in_new.0 in_new.1

new_here : (a : List ℕ) → (a ≡ []) ⊎ (a ≡ 47 ∷ [])
    → name_key (behind (codes "new" ++ a) (codes "new")) ≡ None
new_here a (inl is) = ap (λ (l : List ℕ). name_key (behind (codes "new" ++ l) (codes "new"))) is
new_here a (inr is) = ap (λ (l : List ℕ). name_key (behind (codes "new" ++ l) (codes "new"))) is

pub new_apart : (dir : List ℕ) → (maildir_shape dir).slot (path_in dir (codes "new")) ≡ None
new_apart dir = no_slot dir (codes "new") (λ a. refl) new_here

in_tmp : (dir rest : List ℕ) → (maildir_shape dir).slot (path_in dir (codes "tmp" ++ rest)) ≡ None
in_tmp dir rest = no_slot dir (codes "tmp" ++ rest) (λ a. refl) (λ a e. refl)

pub tmp_apart : (dir : List ℕ) → (maildir_shape dir).slot (path_in dir (codes "tmp")) ≡ None
tmp_apart dir = in_tmp dir []

pub is_home : (dir word : List ℕ) → (maildir_shape dir).home (path_in dir word) ≡ true
is_home dir word = ap is_some (behind_there (front_of dir) word)

and_false : (b : Bool) → (b && false) ≡ false
and_false true = refl
and_false false = refl

tmp_two : (x : ℕ) (rest : List ℕ) → is_root (x ∷ codes "tmp" ++ rest) ≡ false
tmp_two x rest = and_false (x == 47)

tmp_no_root : (front rest : List ℕ) → is_root (front ++ (codes "tmp" ++ rest)) ≡ false
tmp_no_root [] rest = refl
tmp_no_root (x ∷ []) rest = tmp_two x rest
tmp_no_root (x ∷ y ∷ front) rest = and_false (x == 47)

-- the key of a name
key_there : (found : Option (List ℕ)) (key : List ℕ) → name_key found ≡ Some key
    → (name : List ℕ) × (found ≡ Some name)
key_there None key e = absurd (cc)
key_there (Some name) key e = (name, refl)

-- a path in `tmp`
made_path : (dir path key : List ℕ) → maildir_making dir path ≡ Some key
    → (rest : List ℕ) × (path ≡ path_in dir (codes "tmp" ++ rest))
made_path dir path key e =
    let at = key_there (behind (front_of (path_in dir (codes "tmp"))) path) key e in
    let front = front_cases (path_in dir (codes "tmp")) in (
      front.0 ++ at.0,
      behind_is (front_of (path_in dir (codes "tmp"))) path at.0 at.1
          ∙ ap (λ (f : List ℕ). f ++ at.0)
          (front.1 ∙ append_assoc (front_of dir) (codes "tmp") front.0)
          ∙ append_assoc (front_of dir) (codes "tmp" ++ front.0) at.0,
    )

-- a file with which a message of ours begins stands beside the messages
pub made_side : (dir path key : List ℕ) → maildir_making dir path ≡ Some key
    → IsSide (maildir_shape dir) path
made_side dir path key e = let at = made_path dir path key e in record {
  apart = ap (maildir_shape dir).slot at.1 ∙ in_tmp dir at.0;
  no_root = ap is_root at.1 ∙ tmp_no_root (front_of dir) at.0;
  inside = ap (maildir_shape dir).home at.1 ∙ is_home dir (codes "tmp" ++ at.0);
}

pub item_fits : (dir core : List ℕ) (item : NewItem) → IsItemOf (maildir_files dir) core item
    → IsFit (maildir_shape dir) item
item_fits dir core item is = record {
  side = subst (IsSide (maildir_shape dir)) (sym is.beside_is)
      (made_side dir item.made item.key is.making_is);
  counts = refl;
}

-- The paths of a base of ours are those of one key.

name_there : (name key : List ℕ) → is_shown name ≡ true → (split_name name).0 ≡ key
    → name_key (Some name) ≡ Some key
name_there name key shown split =
    cond-true (is_shown name) (Some (split_name name).0) None shown ∙ ap Some split

placed_in : (dir name key : List ℕ) (in_cur : Bool) → is_shown name ≡ true
    → (split_name name).0 ≡ key
    → (maildir_shape dir).slot (path_in (directory in_cur dir) name) ≡ Some key
placed_in dir name key true shown split =
    ap (λ (o : Option (List ℕ)). or_else o
    (name_key (name_in false dir (path_in (directory true dir) name))))
    (ap name_key (behind_there (front_of (directory true dir)) name)
    ∙ name_there name key shown split)
placed_in dir name key false shown split =
    let front = front_cases (directory false dir) in
    let is : path_in (directory false dir) name
    ≡ path_in dir (codes "new" ++ front.0 ++ name) =
    ap (λ (f : List ℕ). f ++ name)
    (front.1 ∙ append_assoc (front_of dir) (codes "new") front.0)
    ∙ append_assoc (front_of dir) (codes "new" ++ front.0) name in
    let cur = behind_word dir (codes "cur") (codes "new" ++ front.0 ++ name) in
    ap (λ (o : Option (List ℕ)). or_else (name_key o)
    (name_key (name_in false dir (path_in (directory false dir) name))))
    (ap (behind (front_of (directory true dir))) is ∙ cur.2)
    ∙ ap name_key (behind_there (front_of (directory false dir)) name)
    ∙ name_there name key shown split

pub are_placed : (dir base : List ℕ) (flags : Flags) (places : Places) → IsBase base
    → AreOf dir base flags places
    → IsPlaced dir (string_bytes places.beside) (string_bytes places.place)
are_placed dir base flags places is are = record {
  key = base;
  made = ap (maildir_making dir) are.beside
      ∙ ap name_key (behind_there (front_of (path_in dir (codes "tmp"))) base)
      ∙ name_there base base (base_shown base is) (base_split base is);
  placed = ap (maildir_shape dir).slot are.place
      ∙ placed_in dir (name_for base flags) base (is_in_cur flags) (name_shown base flags is)
      (name_split base flags);
}
