-- Paths in an MH folder differ.
use Rattle.std.proofs.Common.{◌≡◌, ◌≢◌, ◌++◌, ◌∷◌, ℕ, Bool, true, false, List}
use Rattle.std.proofs.Common.{Some, None, refl, sym, ◌∙◌, ap, arith, if◌then◌else◌, length}
use Rattle.std.proofs.Common.{is_some, length-append, nat_lt, ◌&&◌}
use Rattle.std.proofs.lemmas.List.{append_cancel_left}
use Rattle.std.proofs.lemmas.Slice.Eq.{bytes_eq-Decides}
use Rattle.std.specs.Prelude.{codes}
use Rattle.std.specs.Str.{all_ascii_digits, bytes_eq}
use Rattle.std.specs.Str.Parse.{digits_value}
use Rattle.mail_base.specs.Decimal.{in_range}
use Rattle.folder_core.specs.Directory.{front_of, path_in}
use Rattle.folder_core.specs.Mh.{is_number}
use Rattle.folder_core.proofs.NamesIn.{path_is_in}
use Rattle.folder_drivers.specs.MhNames.{away_path}
use Rattle.folder_shapes.specs.Mh.{mh_shape, number_key}
use Rattle.folder_shapes.proofs.Nodes.{behind_there}
use Rattle.folder_stops.specs.Folder.{IsSide}
use Rattle.mh_syncs.specs.Names.{IsSideName}
use Rattle.folder_drivers.proofs.MhCalls.{front_long}

true_false : ◌≡◌ {A = Bool} true false → ⊥
true_false e = cc

-- names with one path are one
pub same_name : (path a b : List ℕ) → path_in path a ≡ path_in path b → a ≡ b
same_name path a b same = append_cancel_left (front_of path) a b same

pub differ_in : (path a b : List ℕ) → a ≢ b → path_in path a ≢ path_in path b
differ_in path a b other same = other (same_name path a b same)

pub not_number : (name other : List ℕ) → is_number name ≡ false → is_number other ≡ true
    → name ≢ other
not_number name other not number same =
    true_false (sym number ∙ sym (ap is_number same) ∙ not)

pub not_same : (a b : List ℕ) → bytes_eq a b ≡ false → a ≢ b
not_same a b not same = true_false (sym ((bytes_eq-Decides a b).1 same) ∙ not)

sequences_no_number : is_number (codes ".mh_sequences") ≡ false
sequences_no_number = refl

pub number_no_sequences : (name : List ℕ) → is_number name ≡ true
    → name ≢ codes ".mh_sequences"
number_no_sequences name number same =
    true_false (sym number ∙ ap is_number same ∙ sequences_no_number)

-- The side names.

pub new_side : IsSideName (codes ".mh_sequences.new")
new_side = record {
  no_number = refl;
  no_sequences = not_same (codes ".mh_sequences.new") (codes ".mh_sequences") refl;
  named = refl;
}

pub append_side : IsSideName (codes ".mutt_append")
append_side = record {
  no_number = refl;
  no_sequences = not_same (codes ".mutt_append") (codes ".mh_sequences") refl;
  named = refl;
}

-- Slots of the shape.

pub number_slot : (path name : List ℕ) → is_number name ≡ true
    → (mh_shape path).slot (path_in path name) ≡ Some name
number_slot path name is =
    ap number_key (behind_there (front_of path) name)
    ∙ ap (λ (b : Bool). if b then Some name else None) is

pub other_slot : (path name : List ℕ) → is_number name ≡ false
    → (mh_shape path).slot (path_in path name) ≡ None
other_slot path name is =
    ap number_key (behind_there (front_of path) name)
    ∙ ap (λ (b : Bool). if b then Some name else None) is

pub home_in : (path name : List ℕ) → (mh_shape path).home (path_in path name) ≡ true
home_in path name = ap is_some (behind_there (front_of path) name)

pub side_is : (path name : List ℕ) → IsSideName name → IsSide (mh_shape path) (path_in path name)
side_is path name is = record {
  apart = other_slot path name is.no_number;
  no_root = (path_is_in path name is.named).no_root;
  inside = home_in path name;
}

-- The name of a file that is kept but out of the folder.

pub away_no_number : (key : List ℕ) → is_number (codes "," ++ key) ≡ false
away_no_number key = by (nat_lt 0 (length (codes "," ++ key)))
  where
    by : (b : Bool) → is_some (if b && all_ascii_digits (44 ∷ key)
        then in_range 1 4294967295 (digits_value 10 (codes "," ++ key)) else None) ≡ false
    by true = refl
    by false = refl

pub away_no_sequences : (key : List ℕ) → (codes "," ++ key) ≢ codes ".mh_sequences"
away_no_sequences key same = not_same (codes "," ++ key) (codes ".mh_sequences") refl same

pub away_no_folder : (path key : List ℕ) → away_path path key ≢ path
away_no_folder path key same =
    let long = front_long path in
    omega (
      arith,
      long,
      length-append (front_of path) (codes "," ++ key),
      length-append (codes ",") key,
      ap length same,
    )
