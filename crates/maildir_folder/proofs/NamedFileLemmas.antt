-- The first file of a base among files in order, by a search in halves.
use Rattle.std.proofs.Common.{◌≡◌, ◌<◌, ℕ, zero, suc, Bool, true, false, List, [], ◌∷◌, Option}
use Rattle.std.proofs.Common.{Some, None, length, map, refl, sym, ◌∙◌, ap, subst, arith}
use Rattle.std.proofs.Common.{if◌then◌else◌}
use Rattle.std.specs.Prelude.{option_map, slice_get, slice_index_or}
use Rattle.std.specs.Cmp.{IsStrictWeakOrder}
use Rattle.std.specs.Cmp.Lexicographic.{slice_cmp}
use Rattle.std.specs.List.{All}
use Rattle.std.specs.List.Sorted.{IsPartitionedBy, IsPartitionPoint}
use Rattle.std.specs.Ordering.{is_lt, nat_cmp, ordering_then}
use Rattle.std.specs.Str.{bytes_eq}
use Rattle.std.proofs.lemmas.List.Elements.{All-get_or, All-head, All-tail}
use Rattle.std.proofs.lemmas.List.Sorted.{ranks_by}
use Rattle.disk_model.proofs.Trees.{bytes_same}
use Rattle.folder_core.specs.Maildir.{MaildirFile, base_of}
use Rattle.folder_core.specs.MaildirNames.{order_of}
use Rattle.folder_shapes.specs.Maildir.{base_cmp}
use Rattle.folder_shapes.proofs.MaildirLemmas.{base_total}
use Rattle.maildir_folder.specs.Candidates.{IsCandidate, Rises, plain_file}
use Rattle.maildir_folder.specs.NamedFile.{file_if, file_named, is_before}
use Rattle.maildir_folder.specs.declared.candidates.Candidate.{Candidate}
use Rattle.maildir_folder.proofs.Walking.{stands_behind}

true_false : ◌≡◌ {A = Bool} true false → ⊥
true_false e = cc

-- one base stands before another
abbrev before : List ℕ → List ℕ → Bool
before a b = is_lt (base_cmp a b)

base_order : IsStrictWeakOrder before
base_order = ranks_by base_total (λ (b : List ℕ). b)

-- a base before one that stands not before a third stands before that
first_before : (a b c : List ℕ) → before a c ≡ true → before a b ≡ false → before b c ≡ true
first_before a b c less above = by (before b c) refl
  where
    by : (t : Bool) → before b c ≡ t → before b c ≡ true
    by true is = is
    by false is = absurd (true_false (sym less ∙ base_order.chain a b c above is))

-- a base before one that a third does not stand before stands before the third
then_before : (a b c : List ℕ) → before a b ≡ true → before c b ≡ false → before a c ≡ true
then_before a b c less above = by (before a c) refl
  where
    by : (t : Bool) → before a c ≡ t → before a c ≡ true
    by true is = is
    by false is = absurd (true_false (sym less ∙ base_order.chain a c b is above))

-- the base of a file stands before this one
abbrev below : List ℕ → Candidate → Bool
below base file = before (base_of (plain_file file)) base

each_high : (low : List ℕ) (files : List Candidate) → Rises (Some low) (map plain_file files)
    → (j : ℕ) (d : Candidate) → j < length files → below low (slice_index_or files j d) ≡ false
each_high low [] rises j d within = absurd (omega (arith, within))
each_high low (file ∷ files) rises zero d within = rises.0
each_high low (file ∷ files) rises (suc j) d within =
    base_order.chain (base_of (plain_file (slice_index_or files j d))) (base_of (plain_file file))
    low (each_high (base_of (plain_file file)) files rises.1 j d (omega (arith, within))) rises.0

below_parted : (base : List ℕ) (last : Option (List ℕ)) (files : List Candidate)
    → Rises last (map plain_file files) → IsPartitionedBy (below base) files
below_parted base last [] rises i j d less within is = absurd (omega (arith, within))
below_parted base last (file ∷ files) rises zero zero d less within is = is
below_parted base last (file ∷ files) rises (suc i) zero d less within is =
    absurd (omega (arith, less))
below_parted base last (file ∷ files) rises zero (suc j) d less within is =
    first_before (base_of (plain_file (slice_index_or files j d))) (base_of (plain_file file)) base
    is (each_high (base_of (plain_file file)) files rises.1 j d (omega (arith, within)))
below_parted base last (file ∷ files) rises (suc i) (suc j) d less within is =
    below_parted base (Some (base_of (plain_file file))) files rises.1 i j d (omega (arith, less))
    (omega (arith, within)) is

before_is : (base : List ℕ) (order : ℕ) (file : Candidate) → order ≡ order_of base
    → IsCandidate file → is_before file order base ≡ below base file
before_is base order file placed is = λ i. is_lt
    (ordering_then (nat_cmp (is.order i) (placed i)) (slice_cmp nat_cmp (is.base i) base))

-- the files of earlier bases stand in front
pub parted : (base : List ℕ) (order : ℕ) (files : List Candidate) → order ≡ order_of base
    → All IsCandidate files → Rises None (map plain_file files)
    → IsPartitionedBy (λ file. is_before file order base) files
parted base order files placed each rises i j d less within is =
    before_is base order (slice_index_or files i d) placed
    (All-get_or IsCandidate files i d (omega (arith, less, within)) each)
    ∙ below_parted base None files rises i j d less within
    (sym (before_is base order (slice_index_or files j d) placed
    (All-get_or IsCandidate files j d within each)) ∙ is)

-- a base before all has no file
none_named : (low base : List ℕ) (files : List MaildirFile) → Rises (Some low) files
    → before base low ≡ true → file_named files base ≡ None
none_named low base [] rises less = refl
none_named low base (file ∷ files) rises less =
    let first : before base (base_of file) ≡ true =
    then_before base low (base_of file) less rises.0 in
    by (bytes_eq (base_of file) base) refl first
    (none_named (base_of file) base files rises.1 first)
  where
    by : (t : Bool) → bytes_eq (base_of file) base ≡ t → before base (base_of file) ≡ true
        → file_named files base ≡ None
        → (if t then Some file else file_named files base) ≡ None
    by false is first again = again
    by true is first again =
        let less : before base base ≡ true =
        subst (λ (b : List ℕ). before base b ≡ true) (bytes_same (base_of file) base is) first in
        absurd (true_false (sym less ∙ base_order.one_way base base less))

-- the first file of a base is the first that does not stand before it, or there is none
pub searched : (base : List ℕ) (order i : ℕ) (last : Option (List ℕ)) (files : List Candidate)
    → order ≡ order_of base → All IsCandidate files → Rises last (map plain_file files)
    → IsPartitionPoint (λ f. is_before f order base ≡ true) (λ f. is_before f order base ≡ false)
    files i
    → file_named (map plain_file files) base
    ≡ option_map plain_file (file_if base (slice_get files i))
searched base order i last [] placed each rises point = refl
searched base order zero last (file ∷ files) placed each rises point =
    by (bytes_eq (base_of (plain_file file)) base) refl
    ∙ ap (λ (b : List ℕ). option_map plain_file (if bytes_eq b base then Some file else None))
    (sym is.base)
  where
    is : IsCandidate file
    is = All-head IsCandidate file files each

    here : below base file ≡ false
    here = sym (before_is base order file placed is) ∙ point.1 0 file (omega arith) (omega arith)

    by : (t : Bool) → bytes_eq (base_of (plain_file file)) base ≡ t
        → (if t then Some (plain_file file) else file_named (map plain_file files) base)
        ≡ option_map plain_file (if t then Some file else None)
    by true same = refl
    by false other = none_named (base_of (plain_file file)) base (map plain_file files) rises.1
        (stands_behind base (base_of (plain_file file)) here (turned other))
      where
        turned : bytes_eq (base_of (plain_file file)) base ≡ false
            → bytes_eq base (base_of (plain_file file)) ≡ false
        turned other = turn (bytes_eq base (base_of (plain_file file))) refl
          where
            turn : (t : Bool) → bytes_eq base (base_of (plain_file file)) ≡ t
                → bytes_eq base (base_of (plain_file file)) ≡ false
            turn false is = is
            turn true is = absurd (true_false (sym (subst
                (λ (b : List ℕ). bytes_eq b base ≡ true)
                (bytes_same base (base_of (plain_file file)) is)
                (subst (λ (b : List ℕ). bytes_eq base b ≡ true)
                (sym (bytes_same base (base_of (plain_file file)) is)) is)) ∙ other))
searched base order (suc i) last (file ∷ files) placed each rises point =
    by (bytes_eq (base_of (plain_file file)) base) refl
    ∙ searched base order i (Some (base_of (plain_file file))) files placed
    (All-tail IsCandidate file files each) rises.1 (
      (λ j d less high. point.0 (suc j) d (omega (arith, less)) (omega (arith, high))),
      (λ j d less high. point.1 (suc j) d (omega (arith, less)) (omega (arith, high))),
    )
  where
    here : below base file ≡ true
    here = sym (before_is base order file placed (All-head IsCandidate file files each))
        ∙ point.0 0 file (omega arith) (omega arith)

    by : (t : Bool) → bytes_eq (base_of (plain_file file)) base ≡ t
        → (if t then Some (plain_file file) else file_named (map plain_file files) base)
        ≡ file_named (map plain_file files) base
    by false other = refl
    by true same =
        let less : before base base ≡ true =
        subst (λ (b : List ℕ). before b base ≡ true)
        (bytes_same (base_of (plain_file file)) base same) here in
        absurd (true_false (sym less ∙ base_order.one_way base base less))
