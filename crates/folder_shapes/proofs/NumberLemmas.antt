-- The order of names that are numbers.
use Rattle.std.proofs.Common.{◌≡◌, ◌||◌, inl, inr, ℕ, Bool, true, false, List, [], ◌∷◌, Option}
use Rattle.std.proofs.Common.{Some, None}
use Rattle.std.proofs.Common.{refl, sym, ◌∙◌, ap, subst, cond, if◌then◌else◌}
use Rattle.std.proofs.lemmas.Cmp.{on_total, then_total, nat_cmp_total, nat_list_cmp_total}
use Rattle.std.proofs.lemmas.List.Sorted.{ranks_by}
use Rattle.std.specs.Cmp.{IsTotalOrder, IsStrictWeakOrder}
use Rattle.std.specs.Cmp.Lexicographic.{slice_cmp}
use Rattle.std.specs.List.{dedup, dedup_from, filter}
use Rattle.std.specs.Ordering.{is_lt, nat_cmp, ordering_reverse}
use Rattle.std.specs.Str.{bytes_eq}
use Rattle.std.specs.declared.cmp.Ordering.{Ordering}
use Rattle.std.specs.declared.cmp.Ordering.TheVariants.{Less, Equal, Greater}
use Rattle.std.proofs.lemmas.Slice.Eq.{bytes_eq-Decides}
use Rattle.disk_model.proofs.Trees.{bytes_same}
use Rattle.folder_core.specs.Mh.{comes_before, is_number, name_cmp, number_at, numbers_of}
use Rattle.mail_base.specs.Ordered.{IsIn, in_order_by}
use Rattle.folder_core.proofs.NamesIn.{holds_name}
use Rattle.mail_base.proofs.OrderedLemmas.{NeverFalls, in_order_held}
use Rattle.mail_base.proofs.OrderedLemmas.{text_same, then_equal}
use Rattle.folder_shapes.specs.Mh.{Rises}

true_false : ◌≡◌ {A = Bool} true false → ⊥
true_false e = cc

-- The order.

pub name_total : IsTotalOrder name_cmp
name_total = then_total (on_total number_at nat_cmp_total) nat_list_cmp_total

pub name_order : IsStrictWeakOrder comes_before
name_order = ranks_by name_total (λ (name : List ℕ). name)

pub name_tie : (a b : List ℕ) → comes_before a b ≡ false → comes_before b a ≡ false → a ≡ b
name_tie a b first second = by_cmp (name_cmp a b) refl first
  where
    by_cmp : (r : Ordering) → name_cmp a b ≡ r → is_lt r ≡ false → a ≡ b
    by_cmp Less e off = absurd (true_false off)
    by_cmp Equal e off = text_same a b
        (then_equal (nat_cmp (number_at a) (number_at b)) (slice_cmp nat_cmp a b) e).1
    by_cmp Greater e off =
        absurd (true_false (sym (ap is_lt (name_total.antisymm b a ∙ ap ordering_reverse e))
        ∙ second))

-- a name that is another one and does not stand before it stands behind it
stands_behind : (a b : List ℕ) → comes_before b a ≡ false → bytes_eq b a ≡ false
    → comes_before a b ≡ true
stands_behind a b above other = by_test (comes_before a b) refl
  where
    by_test : (t : Bool) → comes_before a b ≡ t → comes_before a b ≡ true
    by_test true is = is
    by_test false is = absurd
        (true_false (sym ((bytes_eq-Decides b a).1 (name_tie b a above is)) ∙ other))

stands_through : (a b c : List ℕ) → comes_before a b ≡ true → comes_before b c ≡ true
    → comes_before a c ≡ true
stands_through a b c first second = by_test (comes_before a c) refl
  where
    by_test : (t : Bool) → comes_before a c ≡ t → comes_before a c ≡ true
    by_test true is = is
    by_test false is =
        absurd (true_false (sym first ∙ name_order.chain a c b is (name_order.one_way b c second)))

-- Names that rise.

-- the name stands behind this one, where there is one
abbrev pub Stands : Option (List ℕ) → List ℕ → Type 0
Stands None name = Unit {0}
Stands (Some last) name = comes_before last name ≡ true

rises_cons : (last : Option (List ℕ)) (name : List ℕ) (names : List (List ℕ)) → Stands last name
    → Rises (Some name) names → Rises last (name ∷ names)
rises_cons None name names stands rises = rises
rises_cons (Some last) name names stands rises = (stands, rises)

pub rises_first : (last : Option (List ℕ)) (name : List ℕ) (names : List (List ℕ))
    → Rises last (name ∷ names)
    → Stands last name × Rises (Some name) names
rises_first None name names rises = (tt, rises)
rises_first (Some last) name names rises = rises

pub rises_skipped : (last : Option (List ℕ)) (name : List ℕ) (names : List (List ℕ))
    → Rises last (name ∷ names)
    → Rises last names
rises_skipped None name [] rises = tt
rises_skipped None name (next ∷ names) rises = rises.1
rises_skipped (Some last) name [] rises = tt
rises_skipped (Some last) name (next ∷ names) rises =
    (stands_through last name next rises.0 rises.1.0, rises.1.1)

-- names in order rise once each is left once
dedup_rises : (last : Option (List ℕ)) (name : List ℕ) (names : List (List ℕ)) → Stands last name
    → NeverFalls comes_before (name ∷ names) → Rises last (dedup_from bytes_eq name names)
dedup_rises last name [] stands falls = rises_cons last name [] stands tt
dedup_rises last name (next ∷ names) stands falls =
    by_test (bytes_eq next name) refl (λ f. dedup_rises last name names stands f)
    (λ s f. dedup_rises (Some name) next names s f)
  where
    by_test : (t : Bool) → bytes_eq next name ≡ t
        → (NeverFalls comes_before (name ∷ names) → Rises last (dedup_from bytes_eq name names))
        → (Stands (Some name) next → NeverFalls comes_before (next ∷ names)
        → Rises (Some name) (dedup_from bytes_eq next names))
        → Rises last (cond t (dedup_from bytes_eq name names)
        (name ∷ dedup_from bytes_eq next names))
    by_test true is same other =
        same (subst (λ (n : List ℕ). NeverFalls comes_before (n ∷ names))
        (bytes_same next name is) falls.1)
    by_test false is same other =
        rises_cons last name (dedup_from bytes_eq next names) stands
        (other (stands_behind name next falls.0 is) falls.1)

pub names_rise : (names : List (List ℕ)) → NeverFalls comes_before names
    → Rises None (dedup bytes_eq names)
names_rise [] falls = tt
names_rise (name ∷ names) falls = dedup_rises None name names tt falls

-- A number among names is among the numbers in order.

in_filter : (name : List ℕ) (names : List (List ℕ)) → is_number name ≡ true
    → holds_name name names ≡ true
    → IsIn name (filter is_number names)
in_filter name [] is held = absurd (true_false (sym held))
in_filter name (other ∷ names) is held =
    by_tests (bytes_eq other name) (is_number other) refl refl held
    (λ rest. in_filter name names is rest)
  where
    by_tests : (t k : Bool) → bytes_eq other name ≡ t → is_number other ≡ k
        → (t || holds_name name names) ≡ true
        → (holds_name name names ≡ true → IsIn name (filter is_number names))
        → IsIn name (if k then other ∷ filter is_number names else filter is_number names)
    by_tests true true same kept held again = inl (bytes_same other name same)
    by_tests true false same kept held again =
        absurd (true_false (sym is ∙ ap is_number (sym (bytes_same other name same)) ∙ kept))
    by_tests false true same kept held again = inr (again held)
    by_tests false false same kept held again = again held

in_dedup : (x name : List ℕ) (names : List (List ℕ)) → IsIn x (name ∷ names)
    → IsIn x (dedup_from bytes_eq name names)
in_dedup x name [] held = held
in_dedup x name (next ∷ names) held =
    by_test (bytes_eq next name) refl held (λ h. in_dedup x name names h)
    (λ h. in_dedup x next names h)
  where
    by_test : (t : Bool) → bytes_eq next name ≡ t → IsIn x (name ∷ next ∷ names)
        → (IsIn x (name ∷ names) → IsIn x (dedup_from bytes_eq name names))
        → (IsIn x (next ∷ names) → IsIn x (dedup_from bytes_eq next names))
        → IsIn x (cond t (dedup_from bytes_eq name names) (name ∷ dedup_from bytes_eq next names))
    by_test true is (inl here) same other = same (inl here)
    by_test true is (inr (inl here)) same other = same (inl (sym (bytes_same next name is) ∙ here))
    by_test true is (inr (inr held)) same other = same (inr held)
    by_test false is (inl here) same other = inl here
    by_test false is (inr held) same other = inr (other held)

in_all : (x : List ℕ) (names : List (List ℕ)) → IsIn x names → IsIn x (dedup bytes_eq names)
in_all x [] held = held
in_all x (name ∷ names) held = in_dedup x name names held

pub numbers_held : (name : List ℕ) (names : List (List ℕ)) → is_number name ≡ true
    → holds_name name names ≡ true
    → IsIn name (numbers_of names)
numbers_held name names is held =
    in_all name (in_order_by comes_before (filter is_number names))
    (in_order_held comes_before name (filter is_number names) (in_filter name names is held))
