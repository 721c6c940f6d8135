-- The paths of an append in an MH folder.
use Rattle.std.proofs.Common.{◌≡◌, ◌≢◌, ◌∙◌, List, None, Some, ap}
use Rattle.std.proofs.Common.{false, is_some, refl, subst, sym, true, ℕ}
use Rattle.std.proofs.lemmas.Bool.{cond-false, cond-true}
use Rattle.std.specs.Prelude.{codes}
use Rattle.std.specs.Str.{bytes_eq}
use Rattle.folder_core.specs.Directory.{front_of, is_name, path_in}
use Rattle.folder_core.specs.Mh.{is_number, sequences_path}
use Rattle.folder_core.proofs.NamesIn.{path_is_in}
use Rattle.folder_drivers.specs.MhNames.{append_path, new_sequences_path}
use Rattle.folder_shapes.specs.Mh.{is_message, mh_files, mh_shape, number_key}
use Rattle.folder_shapes.specs.Reading.{behind}
use Rattle.folder_shapes.proofs.Nodes.{behind_there}
use Rattle.folder_stops.specs.Appends.{IsFit, IsItemOf, NewItem}
use Rattle.folder_stops.specs.Folder.{IsSide}
use Rattle.folder_stops.proofs.Words.{apart}

-- a path in the folder is inside
pub is_home : (dir name : List ℕ) → (mh_shape dir).home (path_in dir name) ≡ true
is_home dir name = ap is_some (behind_there (front_of dir) name)

-- the path of a number is one of a message
pub number_slot : (dir name : List ℕ) → is_number name ≡ true
    → (mh_shape dir).slot (path_in dir name) ≡ Some name
number_slot dir name is = ap number_key (behind_there (front_of dir) name)
    ∙ cond-true (is_number name) (Some name) None is

-- the path of another name is not
pub no_slot : (dir name : List ℕ) → is_number name ≡ false
    → (mh_shape dir).slot (path_in dir name) ≡ None
no_slot dir name is = ap number_key (behind_there (front_of dir) name)
    ∙ cond-false (is_number name) (Some name) None is

-- a file of another name stands beside the messages
pub is_side : (dir name : List ℕ) → is_name name ≡ true → is_number name ≡ false
    → IsSide (mh_shape dir) (path_in dir name)
is_side dir name named none = record {
  apart = no_slot dir name none;
  no_root = (path_is_in dir name named).no_root;
  inside = is_home dir name;
}

pub append_side : (dir : List ℕ) → IsSide (mh_shape dir) (append_path dir)
append_side dir = is_side dir (codes ".mutt_append") refl refl

pub sequences_side : (dir : List ℕ) → IsSide (mh_shape dir) (new_sequences_path dir)
sequences_side dir = is_side dir (codes ".mh_sequences.new") refl refl

pub sequences_apart : (dir : List ℕ) → (mh_shape dir).slot (sequences_path dir) ≡ None
sequences_apart dir = no_slot dir (codes ".mh_sequences") refl

-- two names have two paths
pub name_once : (dir a b : List ℕ) → path_in dir a ≡ path_in dir b → a ≡ b
name_once dir a b e =
    let is : Some a ≡ Some b = sym (behind_there (front_of dir) a)
    ∙ ap (behind (front_of dir)) e ∙ behind_there (front_of dir) b in cc

-- a number and another name have two paths
pub not_number : (dir name other : List ℕ) → is_number name ≡ true → is_number other ≡ false
    → path_in dir other ≢ path_in dir name
not_number dir name other is none e =
    let same : is_number other ≡ is_number name = ap is_number (name_once dir other name e) in cc

pub apart_number : (dir name other : List ℕ) → is_number name ≡ true → is_number other ≡ false
    → bytes_eq (path_in dir other) (path_in dir name) ≡ false
apart_number dir name other is none =
    apart (path_in dir other) (path_in dir name) (not_number dir name other is none)

-- the side names differ
pub sides_differ : (dir : List ℕ) → new_sequences_path dir ≢ append_path dir
sides_differ dir e =
    let same : bytes_eq (codes ".mh_sequences.new") (codes ".mutt_append") ≡ true =
    ap (λ (n : List ℕ). bytes_eq n (codes ".mutt_append"))
    (name_once dir (codes ".mh_sequences.new") (codes ".mutt_append") e) in cc

pub sequences_differ : (dir : List ℕ) → sequences_path dir ≢ append_path dir
sequences_differ dir e =
    let same : bytes_eq (codes ".mh_sequences") (codes ".mutt_append") ≡ true =
    ap (λ (n : List ℕ). bytes_eq n (codes ".mutt_append"))
    (name_once dir (codes ".mh_sequences") (codes ".mutt_append") e) in cc

-- each item of the folder is written beside, and is a message where its bytes are
pub item_fits : (dir core : List ℕ) → is_message core ≡ true → (item : NewItem)
    → IsItemOf (mh_files dir) core item → IsFit (mh_shape dir) item
item_fits dir core counts item is = record {
  side = subst (IsSide (mh_shape dir)) (sym is.beside_is) (append_side dir);
  counts = ap is_message is.core_is ∙ counts;
}
