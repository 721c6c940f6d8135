-- Candidates are in the order of their files.
use Rattle.std.proofs.Common.{◌≡◌, ℕ, suc, Bool, true, false, not, List, [], ◌∷◌, map, refl, sym}
use Rattle.std.proofs.Common.{◌∙◌}
use Rattle.std.proofs.Common.{ap, subst, arith, Some, None}
use Rattle.std.proofs.lemmas.Cmp.{on_total, then_total, back_total, nat_cmp_total}
use Rattle.std.proofs.lemmas.Cmp.{nat_list_cmp_total}
use Rattle.std.proofs.lemmas.List.Sorted.{IsPermutation-map, All-permutation, ranks_by}
use Rattle.std.specs.Cmp.{IsTotalOrder, IsStrictWeakOrder, bool_cmp_total}
use Rattle.std.specs.Cmp.Lexicographic.{slice_cmp}
use Rattle.std.specs.List.{All}
use Rattle.std.specs.List.Sorted.{IsPermutation, IsSortedBy}
use Rattle.std.specs.Ordering.{bool_cmp, is_lt, nat_cmp, ordering_reverse, ordering_then}
use Rattle.std.specs.declared.cmp.Ordering.{Ordering}
use Rattle.std.specs.declared.cmp.Ordering.TheVariants.{Less, Equal, Greater}
use Rattle.folder_core.specs.Maildir.{MaildirFile, base_of, comes_before, file_cmp}
use Rattle.folder_core.specs.MaildirNames.{order_of}
use Rattle.mail_base.specs.Ordered.{in_order_by}
use Rattle.mail_base.proofs.OrderedLemmas.{NeverFalls, in_order_permutation, in_order_same}
use Rattle.mail_base.proofs.OrderedLemmas.{sorted_falls, text_same}
use Rattle.mail_base.proofs.OrderedLemmas.{then_equal}
use Rattle.maildir_folder.specs.declared.candidates.Candidate.{Candidate}
use Rattle.folder_shapes.specs.Maildir.{base_cmp}
use Rattle.maildir_folder.specs.Candidates.{IsCandidate, Rises, plain_file}

true_false : ◌≡◌ {A = Bool} true false → ⊥
true_false e = cc

-- The order of files.

file_total : IsTotalOrder file_cmp
file_total =
    then_total (on_total (λ (f : MaildirFile). order_of (base_of f)) nat_cmp_total)
    (then_total (on_total base_of nat_list_cmp_total)
    (then_total (back_total (on_total (λ (f : MaildirFile). f.in_cur) bool_cmp_total))
    (on_total (λ (f : MaildirFile). f.name) nat_list_cmp_total)))

bool_same : (a b : Bool) → bool_cmp a b ≡ Equal → a ≡ b
bool_same false false e = refl
bool_same true true e = refl
bool_same false true e = absurd (cc)
bool_same true false e = absurd (cc)

file_same : (a b : MaildirFile) → file_cmp a b ≡ Equal → a ≡ b
file_same a b e =
    let behind_order = (then_equal _ _ e).1 in
    let behind_base = (then_equal _ _ behind_order).1 in
    let parts = then_equal _ _ behind_base in
    let cur : b.in_cur ≡ a.in_cur = bool_same b.in_cur a.in_cur parts.0 in
    let name : a.name ≡ b.name = text_same a.name b.name parts.1 in
    λ i. record { in_cur = sym cur i; name = name i }

file_tie : (a b : MaildirFile) → comes_before a b ≡ false → comes_before b a ≡ false → a ≡ b
file_tie a b first second = by_cmp (file_cmp a b) refl first
  where
    by_cmp : (r : Ordering) → file_cmp a b ≡ r → is_lt r ≡ false → a ≡ b
    by_cmp Less e off = absurd (true_false off)
    by_cmp Equal e off = file_same a b e
    by_cmp Greater e off =
        absurd (true_false
        (sym (ap is_lt (file_total.antisymm b a ∙ ap ordering_reverse e)) ∙ second))

file_order : IsStrictWeakOrder comes_before
file_order = ranks_by file_total (λ (f : MaildirFile). f)

-- Candidates are in the order of their files.

abbrev pub candidate_cmp : Candidate → Candidate → Ordering
candidate_cmp a b =
    ordering_then (nat_cmp a.order b.order)
    (ordering_then (slice_cmp nat_cmp a.base.items b.base.items)
    (ordering_then (bool_cmp a.is_new b.is_new) (slice_cmp nat_cmp a.name.items b.name.items)))

new_last : (a b : Bool) → bool_cmp a b ≡ bool_cmp (not b) (not a)
new_last false false = refl
new_last false true = refl
new_last true false = refl
new_last true true = refl

same_cmp : (a b : Candidate) → IsCandidate a → IsCandidate b
    → candidate_cmp a b ≡ file_cmp (plain_file a) (plain_file b)
same_cmp a b p q = λ i.
    ordering_then (nat_cmp (p.order i) (q.order i))
    (ordering_then (slice_cmp nat_cmp (p.base i) (q.base i))
    (ordering_then (new_last a.is_new b.is_new i) (slice_cmp nat_cmp a.name.items b.name.items)))

files_fall : (files : List Candidate) → All IsCandidate files
    → NeverFalls (λ a b. is_lt (candidate_cmp a b)) files
    → NeverFalls comes_before (map plain_file files)
files_fall [] all falls = tt
files_fall (a ∷ []) all falls = tt
files_fall (a ∷ b ∷ files) all falls = (
  sym (ap is_lt (same_cmp b a (all 1 a (omega arith)) (all 0 a (omega arith)))) ∙ falls.0,
  files_fall (b ∷ files) (λ k d low. all (suc k) d (omega arith)) falls.1,
)

not_lower : (p q r : Ordering) → is_lt (ordering_then p (ordering_then q r)) ≡ false
    → is_lt (ordering_then p q) ≡ false
not_lower Less q r e = e
not_lower Equal Less r e = e
not_lower Equal Equal r e = refl
not_lower Equal Greater r e = refl
not_lower Greater q r e = refl

rises_behind : (last : List ℕ) (files : List MaildirFile) → (file : MaildirFile)
    → base_of file ≡ last
    → NeverFalls comes_before (file ∷ files) → Rises (Some last) files
rises_behind last [] file is falls = tt
rises_behind last (next ∷ files) file is falls = (
  subst (λ (b : List ℕ). is_lt (base_cmp (base_of next) b) ≡ false) is
      (not_lower (nat_cmp (order_of (base_of next)) (order_of (base_of file)))
      (slice_cmp nat_cmp (base_of next) (base_of file))
      (ordering_then (bool_cmp file.in_cur next.in_cur) (slice_cmp nat_cmp next.name file.name))
      falls.0),
  rises_behind (base_of next) files next refl falls.1,
)

pub files_rise : (files : List MaildirFile) → NeverFalls comes_before files → Rises None files
files_rise [] falls = tt
files_rise (file ∷ files) falls = (tt, rises_behind (base_of file) files file refl falls)

pub sorted_files : (files sorted : List Candidate) → All IsCandidate files
    → IsPermutation files sorted
    → IsSortedBy (λ a b. is_lt (candidate_cmp a b)) sorted
    → (All IsCandidate sorted) × Rises None (map plain_file sorted)
    × (map plain_file sorted ≡ in_order_by comes_before (map plain_file files))
sorted_files files sorted each moved order =
    let all : All IsCandidate sorted = All-permutation IsCandidate files sorted moved each in
    let falls : NeverFalls comes_before (map plain_file sorted) =
    files_fall sorted all (sorted_falls _ sorted order) in (
      all,
      files_rise (map plain_file sorted) falls,
      sym (in_order_same comes_before (map plain_file sorted) falls)
          ∙ in_order_permutation comes_before file_order file_tie (map plain_file files)
          (map plain_file sorted)
          (IsPermutation-map plain_file files sorted moved),
    )
