-- Names are in the order of their files.
use Rattle.std.proofs.Common.{◌≡◌, ℕ, Bool, true, false, List, [], ◌∷◌, Option}
use Rattle.std.proofs.Common.{None}
use Rattle.std.proofs.Common.{zero, suc, arith, refl, sym, ◌∙◌, ap, subst, cond}
use Rattle.std.specs.Prelude.{unwrap_or}
use Rattle.std.proofs.lemmas.List.Sorted.{All-permutation, IsPermutation-map}
use Rattle.std.specs.Cmp.Lexicographic.{slice_cmp}
use Rattle.std.specs.List.{All, dedup, dedup_from, filter}
use Rattle.std.specs.List.Sorted.{IsPermutation, IsSortedBy}
use Rattle.std.specs.Ordering.{is_lt, nat_cmp, ordering_then}
use Rattle.std.specs.Str.{bytes_eq}
use Rattle.std.specs.declared.cmp.Ordering.{Ordering}
use Rattle.folder_core.specs.Mh.{comes_before, is_number, number_at}
use Rattle.mail_base.specs.Ordered.{in_order_by}
use Rattle.mail_base.proofs.OrderedLemmas.{NeverFalls, in_order_permutation}
use Rattle.mail_base.proofs.OrderedLemmas.{in_order_same, sorted_falls}
use Rattle.folder_shapes.specs.Mh.{Rises}
use Rattle.folder_shapes.proofs.NumberLemmas.{name_order, name_tie, names_rise}
use Rattle.mh_folder.specs.NumberedName.{AreInOrder, IsNumbered, plain_name, plain_names}
use Rattle.mh_folder.specs.declared.numbered_name.NumberedName.{NumberedName}

abbrev pub file_cmp : NumberedName → NumberedName → Ordering
file_cmp a b = ordering_then (nat_cmp a.number b.number)
    (slice_cmp nat_cmp a.name.items b.name.items)

abbrev pub same_name : NumberedName → NumberedName → Bool
same_name a b = bytes_eq a.name.items b.name.items

at_number : (n : NumberedName) → IsNumbered n → n.number ≡ number_at n.name.items
at_number n is = sym (ap (λ (m : Option ℕ). unwrap_or m 0) is.number_is)

files_fall : (files : List NumberedName) → All IsNumbered files
    → NeverFalls (λ a b. is_lt (file_cmp a b)) files → NeverFalls comes_before (plain_names files)
files_fall [] all falls = tt
files_fall (a ∷ []) all falls = tt
files_fall (a ∷ b ∷ files) all falls = (
  sym (λ i. is_lt (ordering_then
      (nat_cmp (at_number b (all 1 a (omega arith)) i) (at_number a (all 0 a (omega arith)) i))
      (slice_cmp nat_cmp b.name.items a.name.items))) ∙ falls.0,
  files_fall (b ∷ files) (λ k d low. all (suc k) d (omega arith)) falls.1,
)

-- each file once has each name once
from_names : (file : NumberedName) (files : List NumberedName)
    → plain_names (dedup_from same_name file files) ≡ dedup_from bytes_eq file.name.items
    (plain_names files)
from_names file [] = refl
from_names file (next ∷ files) =
    by_test (bytes_eq next.name.items file.name.items) (from_names file files)
    (from_names next files)
  where
    by_test : (t : Bool)
        → plain_names (dedup_from same_name file files) ≡ dedup_from bytes_eq file.name.items
        (plain_names files)
        → plain_names (dedup_from same_name next files) ≡ dedup_from bytes_eq next.name.items
        (plain_names files)
        → plain_names (cond t (dedup_from same_name file files)
        (file ∷ dedup_from same_name next files))
        ≡ cond t (dedup_from bytes_eq file.name.items (plain_names files))
        (file.name.items ∷ dedup_from bytes_eq next.name.items (plain_names files))
    by_test true same other = same
    by_test false same other = ap (λ (l : List (List ℕ)). file.name.items ∷ l) other

each_cons : (file : NumberedName) (files : List NumberedName) → IsNumbered file
    → All IsNumbered files
    → All IsNumbered (file ∷ files)
each_cons file files is all zero d low = is
each_cons file files is all (suc k) d low = all k d (omega arith)

from_each : (file : NumberedName) (files : List NumberedName) → IsNumbered file
    → All IsNumbered files
    → All IsNumbered (dedup_from same_name file files)
from_each file [] is all = each_cons file [] is all
from_each file (next ∷ files) is all =
    let first : IsNumbered next = all 0 next (omega arith) in
    let rest : All IsNumbered files = λ k d low. all (suc k) d (omega arith) in
    by_test (same_name next file) (from_each file files is rest) (from_each next files first rest)
  where
    by_test : (t : Bool) → All IsNumbered (dedup_from same_name file files)
        → All IsNumbered (dedup_from same_name next files)
        → All IsNumbered (cond t (dedup_from same_name file files)
        (file ∷ dedup_from same_name next files))
    by_test true same other = same
    by_test false same other = each_cons file (dedup_from same_name next files) is other

once_names : (files : List NumberedName) → plain_names (dedup same_name files) ≡ dedup bytes_eq
    (plain_names files)
once_names [] = refl
once_names (file ∷ files) = from_names file files

once_each : (files : List NumberedName) → All IsNumbered files
    → All IsNumbered (dedup same_name files)
once_each [] all = all
once_each (file ∷ files) all =
    from_each file files (all 0 file (omega arith)) (λ k d low. all (suc k) d (omega arith))

pub sorted_names : (names : List (List ℕ)) (files sorted once : List NumberedName)
    → All IsNumbered files
    → plain_names files ≡ filter is_number names → IsPermutation files sorted
    → IsSortedBy (λ a b. is_lt (file_cmp a b)) sorted → once ≡ dedup same_name sorted
    → AreInOrder names once
sorted_names names files sorted once each is moved order only =
    let all : All IsNumbered sorted = All-permutation IsNumbered files sorted moved each in
    let falls : NeverFalls comes_before (plain_names sorted) =
    files_fall sorted all (sorted_falls _ sorted order) in
    let ordered : plain_names sorted ≡ in_order_by comes_before (filter is_number names) =
    sym (in_order_same comes_before (plain_names sorted) falls)
    ∙ in_order_permutation comes_before name_order name_tie (plain_names files) (plain_names sorted)
    (IsPermutation-map plain_name files sorted moved) ∙ ap (in_order_by comes_before) is in
    subst (AreInOrder names) (sym only) (record {
      each = once_each sorted all;
      rises = subst (Rises None) (sym (once_names sorted)) (names_rise (plain_names sorted) falls);
      sorted = once_names sorted ∙ ap (dedup bytes_eq) ordered;
    })
