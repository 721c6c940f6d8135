-- What lines hold once one of them is changed.
use Rattle.std.proofs.Common.{◌≡◌, ◌==◌, ◌&&◌, ◌||◌, ℕ, Bool, true, false, not, List, [], ◌∷◌}
use Rattle.std.proofs.Common.{refl, sym, ap, ap₂, ◌∙◌, if◌then◌else◌}
use Rattle.std.specs.Str.{bytes_eq}
use Rattle.std.proofs.lemmas.Bool.{and_parts, eqb-true}
use Rattle.std.proofs.lemmas.Slice.Eq.{bytes_eq-Decides}
use Rattle.mh_sequences.specs.Laws.{DropTakesOne, PutChangesOne, are_upright, has_upright}
use Rattle.mh_sequences.specs.Ranges.{any_holds, holds as range_holds, one}
use Rattle.mh_sequences.specs.SequenceLine.{PlainLine, Kept, Named, has_name, line_holds}
use Rattle.mh_sequences.specs.SequenceLine.{with_number as line_with}
use Rattle.mh_sequences.specs.SequenceLine.{without_number as line_without}
use Rattle.mh_sequences.specs.Sequences.{holds, line_without_member, with_member, without_member}
use Rattle.mh_sequences.proofs.HoldingLemmas.{holds_with, holds_without, not_or, or_swapped}
use Rattle.mh_sequences.proofs.HoldingLemmas.{or_three}
use Rattle.mh_sequences.proofs.HoldingLemmas.{one_holds, one_upright}

-- the number of the name
abbrev pub is_it : List ℕ → List ℕ → ℕ → ℕ → Bool
is_it name other n m = bytes_eq name other && m == n

same_bytes : (s t : List ℕ) → bytes_eq s t ≡ true → s ≡ t
same_bytes s t e = (bytes_eq-Decides s t).0 e

and_or : (t a b : Bool) → (t && (a || b)) ≡ ((t && a) || (t && b))
and_or true a b = refl
and_or false a b = refl

line_gains : (name other : List ℕ) (n m : ℕ) (line : PlainLine) → has_name name line ≡ true
    → has_upright line ≡ true
    → line_holds other m (line_with n line) ≡ (is_it name other n m || line_holds other m line)
line_gains name other n m (Kept text) named up = cc
line_gains name other n m (Named own ranges) named up =
    ap (λ x. bytes_eq own other && x)
    (holds_with m (one n) ranges (one_upright n) up
    ∙ ap (λ x. x || any_holds m ranges) (one_holds m n))
    ∙ and_or (bytes_eq own other) (m == n) (any_holds m ranges)
    ∙ ap (λ s. (bytes_eq s other && m == n) || (bytes_eq own other && any_holds m ranges))
    (same_bytes own name named)

holds_gained : (name other : List ℕ) (n m : ℕ) (lines : List PlainLine) → are_upright lines ≡ true
    → holds other m (with_member name n lines) ≡ (is_it name other n m || holds other m lines)
holds_gained name other n m [] up =
    ap (λ x. (bytes_eq name other && x) || false) (or_false (range_holds m (one n)) ∙ one_holds m n)
  where
    or_false : (a : Bool) → (a || false) ≡ a
    or_false true = refl
    or_false false = refl
holds_gained name other n m (line ∷ lines) up =
    let both = and_parts (has_upright line) (are_upright lines) up in
    by_name (has_name name line) refl both.0 (holds_gained name other n m lines both.1)
  where
    by_name : (t : Bool) → has_name name line ≡ t → has_upright line ≡ true
        → holds other m (with_member name n lines) ≡ (is_it name other n m || holds other m lines)
        → holds other m (if t then line_with n line ∷ lines else line ∷ with_member name n lines)
        ≡ (is_it name other n m || (line_holds other m line || holds other m lines))
    by_name true named up_line more =
        ap (λ x. x || holds other m lines) (line_gains name other n m line named up_line)
        ∙ or_three (is_it name other n m) (line_holds other m line) (holds other m lines)
    by_name false named up_line more =
        ap (λ x. line_holds other m line || x) more
        ∙ or_swapped (line_holds other m line) (is_it name other n m) (holds other m lines)

and_not : (t e a : Bool) → (t && (not e && a)) ≡ (not (t && e) && (t && a))
and_not true e a = refl
and_not false e a = refl

not_and_false : (t : Bool) → (not t && false) ≡ false
not_and_false true = refl
not_and_false false = refl

line_loses : (name other : List ℕ) (n m : ℕ) (line : PlainLine)
    → line_holds other m (line_without_member name n line)
    ≡ (not (is_it name other n m) && line_holds other m line)
line_loses name other n m (Kept text) = sym (not_and_false (is_it name other n m))
line_loses name other n m (Named own ranges) = by_name (bytes_eq own name) refl
  where
    of_other : (t : Bool) → bytes_eq name other ≡ t → bytes_eq own name ≡ false
        → (bytes_eq own other && any_holds m ranges)
        ≡ (not (t && m == n) && (bytes_eq own other && any_holds m ranges))
    of_other false e differs = refl
    of_other true e differs =
        let none : bytes_eq own other ≡ false =
        ap (bytes_eq own) (sym (same_bytes name other e)) ∙ differs in
        rw none (sym (not_and_false (true && m == n)))

    by_name : (t : Bool) → bytes_eq own name ≡ t
        → line_holds other m (if t then line_without n (Named own ranges) else Named own ranges)
        ≡ (not (is_it name other n m) && (bytes_eq own other && any_holds m ranges))
    by_name true named =
        ap (λ x. bytes_eq own other && x) (holds_without m n ranges)
        ∙ and_not (bytes_eq own other) (m == n) (any_holds m ranges)
        ∙ ap (λ s. not (bytes_eq s other && m == n) && (bytes_eq own other && any_holds m ranges))
        (same_bytes own name named)
    by_name false named = of_other (bytes_eq name other) refl named

holds_lost : (name other : List ℕ) (n m : ℕ) (lines : List PlainLine)
    → holds other m (without_member name n lines)
    ≡ (not (is_it name other n m) && holds other m lines)
holds_lost name other n m [] = sym (not_and_false (is_it name other n m))
holds_lost name other n m (line ∷ lines) =
    ap₂ (λ x y. x || y) (line_loses name other n m line) (holds_lost name other n m lines)
    ∙ not_or (is_it name other n m) (line_holds other m line) (holds other m lines)

-- the number of the name is in the sequence of the name
is_it_held : (name other : List ℕ) (n m : ℕ) (lines : List PlainLine) → is_it name other n m ≡ true
    → holds other m lines ≡ holds name n lines
is_it_held name other n m lines it =
    let both = and_parts (bytes_eq name other) (m == n) it in
    ap₂ (λ s k. holds s k lines) (sym (same_bytes name other both.0)) (eqb-true m n both.1)

or_if : (t a : Bool) → (t || a) ≡ (if t then true else a)
or_if true a = refl
or_if false a = refl

and_if : (t a : Bool) → (not t && a) ≡ (if t then false else a)
and_if true a = refl
and_if false a = refl

if_same : (t a member : Bool) → (t ≡ true → a ≡ member) → a ≡ (if t then member else a)
if_same true a member e = e refl
if_same false a member e = refl

pub put_changes : PutChangesOne
put_changes lines name other n m true up = by_held (holds name n lines) refl
  where
    by_held : (h : Bool) → holds name n lines ≡ h
        → holds other m (if h then lines else with_member name n lines)
        ≡ (if is_it name other n m then true else holds other m lines)
    by_held true held =
        if_same (is_it name other n m) (holds other m lines) true
        (λ it. is_it_held name other n m lines it ∙ held)
    by_held false held =
        holds_gained name other n m lines up ∙ or_if (is_it name other n m) (holds other m lines)
put_changes lines name other n m false up = by_held (holds name n lines) refl
  where
    by_held : (h : Bool) → holds name n lines ≡ h
        → holds other m (if h then without_member name n lines else lines)
        ≡ (if is_it name other n m then false else holds other m lines)
    by_held true held =
        holds_lost name other n m lines ∙ and_if (is_it name other n m) (holds other m lines)
    by_held false held =
        if_same (is_it name other n m) (holds other m lines) false
        (λ it. is_it_held name other n m lines it ∙ held)

and_swapped : (t e a : Bool) → (t && (not e && a)) ≡ (not e && (t && a))
and_swapped true e a = refl
and_swapped false e a = sym (not_and_false e)

line_dropped : (other : List ℕ) (n m : ℕ) (line : PlainLine)
    → line_holds other m (line_without n line) ≡ (not (m == n) && line_holds other m line)
line_dropped other n m (Kept text) = sym (not_and_false (m == n))
line_dropped other n m (Named own ranges) =
    ap (λ x. bytes_eq own other && x) (holds_without m n ranges)
    ∙ and_swapped (bytes_eq own other) (m == n) (any_holds m ranges)

pub drop_takes : DropTakesOne
drop_takes [] other n m = sym (not_and_false (m == n))
drop_takes (line ∷ lines) other n m =
    ap₂ (λ x y. x || y) (line_dropped other n m line) (drop_takes lines other n m)
    ∙ not_or (m == n) (line_holds other m line) (holds other m lines)
