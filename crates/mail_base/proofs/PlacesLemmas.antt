-- What the first and the last place at which a test passes say of the parts of a list round them.
use Rattle.std.proofs.Common.{◌≡◌, ℕ, ◌+◌, ◌-◌, ◌<◌, ◌≤◌, ◌==◌, Bool, true, false, not, List, []}
use Rattle.std.proofs.Common.{◌∷◌, length, take, drop, Option, Some, None, refl, sym, ap, ◌∙◌}
use Rattle.std.proofs.Common.{arith, position, get_or, unwrap_or}
use Rattle.std.specs.List.{list_any, position_or_len, suffix_len, slice_split, before_first}
use Rattle.std.specs.List.{after_first, before_last, after_last}
use Rattle.std.proofs.lemmas.Bool.{false_from_ne_true, not_from_true, not_from_false}
use Rattle.std.proofs.lemmas.Bool.Decides.{nat_tests}
use Rattle.std.proofs.lemmas.List.{take_all, drop_all}
use Rattle.std.proofs.lemmas.List.Folds.{list_any_at, list_any_none}
use Rattle.std.proofs.lemmas.List.Quantifiers.{position-Some}
use Rattle.std.proofs.lemmas.List.Sums.{position_or_len_is, fails_before_first}
use Rattle.std.proofs.lemmas.List.Sums.{prefix_len-le-length, suffix_len_is}
use Rattle.std.proofs.lemmas.List.Splits.{slice_split_first, slice_split_none}
use Rattle.memchr.specs.Find.{IsFirstByte, is_byte}
use Rattle.mail_base.specs.Places.{IsLastPlace}

pub place_some : {X : Type 0} (p : X → Bool) (xs : List X) (k : ℕ) → position p xs ≡ Some k
    → position_or_len p xs ≡ k
place_some p xs k h = grind (arith, nat_tests)

pub place_none : {X : Type 0} (p : X → Bool) (xs : List X) → position p xs ≡ None
    → length xs ≤ position_or_len p xs
place_none p xs h = grind (arith, nat_tests)

-- the place, or the length where there is none
pub place_or_len : {X : Type 0} (p : X → Bool) (xs : List X)
    → unwrap_or (position p xs) (length xs) ≡ position_or_len p xs
place_or_len p xs =
    let within = prefix_len-le-length (λ x. not (p x)) xs in
    grind (arith, nat_tests)

pub before_first_some : {X : Type 0} (p : X → Bool) (xs : List X) (k : ℕ) → position p xs ≡ Some k
    → before_first p xs ≡ take k xs
before_first_some p xs k h = ap (λ n. take n xs) (place_some p xs k h)

pub after_first_some : {X : Type 0} (p : X → Bool) (xs : List X) (k : ℕ) → position p xs ≡ Some k
    → after_first p xs ≡ drop (k + 1) xs
after_first_some p xs k h = ap (λ n. drop (n + 1) xs) (place_some p xs k h)

pub before_first_none : {X : Type 0} (p : X → Bool) (xs : List X) → position p xs ≡ None
    → before_first p xs ≡ xs
before_first_none p xs h = take_all (position_or_len p xs) xs (place_none p xs h)

pub after_first_none : {X : Type 0} (p : X → Bool) (xs : List X) → position p xs ≡ None
    → after_first p xs ≡ []
after_first_none p xs h =
    let past = place_none p xs h in
    drop_all (position_or_len p xs + 1) xs (omega arith)

-- the place is where `position_or_len` is, when that is one of the list's
place_is : {X : Type 0} (p : X → Bool) (xs : List X) (n : ℕ) → position_or_len p xs ≡ n
    → n < length xs
    → position p xs ≡ Some n
place_is p xs n e below = grind (arith, nat_tests)

place_past : {X : Type 0} (p : X → Bool) (xs : List X) → length xs ≤ position_or_len p xs
    → position p xs ≡ None
place_past p xs past = grind (arith, nat_tests)

-- the place that `memchr` finds
pub first_place : (byte : ℕ) (s : List ℕ) (r : Option ℕ) → IsFirstByte (is_byte byte) s r
    → r ≡ position (λ b. b == byte) s
first_place byte s None nowhere =
    let past =
    position_or_len_is (λ b. b == byte) s (length s) 0 (omega arith)
    (λ j below. false_from_ne_true (get_or s j 0 == byte) (nowhere j (omega arith) below))
    (λ less. absurd (omega arith)) in
    sym (place_past (λ b. b == byte) s (omega arith))
first_place byte s (Some k) first =
    let at =
    position_or_len_is (λ b. b == byte) s k 0 (omega (arith, first.0.high))
    (λ j below. false_from_ne_true (get_or s j 0 == byte) (first.0.before j (omega arith) below))
    (λ less. first.1) in
    sym (place_is (λ b. b == byte) s k at first.0.high)

fails_at : {X : Type 0} (p : X → Bool) (xs : List X) → length xs ≤ position_or_len p xs
    → (k : ℕ) (d : X)
    → k < length xs → p (get_or xs k d) ≡ false
fails_at p xs past k d below = fails_before_first p xs k d (omega arith)

pub slice_split_first_none : {X : Type 0} (p : X → Bool) (xs : List X) → position p xs ≡ None
    → slice_split p xs ≡ xs ∷ []
slice_split_first_none p xs h =
    slice_split_none p xs (λ k d below. fails_at p xs (place_none p xs h) k d below)

pub slice_split_first_some : {X : Type 0} (p : X → Bool) (xs : List X) (k : ℕ)
    → position p xs ≡ Some k
    → slice_split p xs ≡ take k xs ∷ slice_split p (drop (k + 1) xs)
slice_split_first_some p [] k h = absurd (cc)
slice_split_first_some p (x ∷ xs) k h =
    let found = position-Some p (x ∷ xs) k x h in
    let place = place_some p (x ∷ xs) k h in
    slice_split_first p (x ∷ xs) x (omega (arith, place, found.0))
    ∙ ap (λ n. take n (x ∷ xs) ∷ slice_split p (drop (n + 1) (x ∷ xs))) place

sub_one : (k : ℕ) → k + 1 - 1 ≡ k
sub_one k = omega arith

last_len_none : {X : Type 0} (p : X → Bool) (xs : List X) → IsLastPlace p xs None
    → length xs - suffix_len (λ x. not (p x)) xs ≡ 0
last_len_none p [] none = refl
last_len_none p (x ∷ xs) none =
    let all =
    suffix_len_is (λ y. not (p y)) (x ∷ xs) 0 x (omega arith)
    (λ j low below. not_from_false _ (none j x (omega arith) below))
    (λ past. absurd (omega arith)) in
    omega arith

last_len_some : {X : Type 0} (p : X → Bool) (xs : List X) (k : ℕ) → IsLastPlace p xs (Some k)
    → length xs - suffix_len (λ x. not (p x)) xs ≡ k + 1
last_len_some p [] k some = absurd (omega (arith, some.0.0))
last_len_some p (x ∷ xs) k some =
    let at : not (p (get_or (x ∷ xs) (k + 1 - 1) x)) ≡ false =
    rw (sub_one k) (not_from_true _ (some.0.1 x)) in
    let rest =
    suffix_len_is (λ y. not (p y)) (x ∷ xs) (k + 1) x (omega (arith, some.0.0))
    (λ j low below. not_from_false _ (some.1 j x (omega arith) below)) (λ past. at) in
    omega (arith, some.0.0)

pub after_last_none : {X : Type 0} (p : X → Bool) (xs : List X) → IsLastPlace p xs None
    → after_last p xs ≡ xs
after_last_none p xs none = ap (λ n. drop n xs) (last_len_none p xs none)

pub after_last_some : {X : Type 0} (p : X → Bool) (xs : List X) (k : ℕ) → IsLastPlace p xs (Some k)
    → after_last p xs ≡ drop (k + 1) xs
after_last_some p xs k some = ap (λ n. drop n xs) (last_len_some p xs k some)

pub before_last_some : {X : Type 0} (p : X → Bool) (xs : List X) (k : ℕ) → IsLastPlace p xs (Some k)
    → before_last p xs ≡ take k xs
before_last_some p xs k some =
    ap (λ n. take n xs) (ap (λ n. n - 1) (last_len_some p xs k some) ∙ sub_one k)

pub list_any_last_none : {X : Type 0} (p : X → Bool) (xs : List X) → IsLastPlace p xs None
    → list_any p xs ≡ false
list_any_last_none p xs none = list_any_none p xs (λ j d below. none j d (omega arith) below)

pub list_any_last_some : {X : Type 0} (p : X → Bool) (xs : List X) (k : ℕ)
    → IsLastPlace p xs (Some k)
    → list_any p xs ≡ true
list_any_last_some p [] k some = absurd (omega (arith, some.0.0))
list_any_last_some p (x ∷ xs) k some = list_any_at p (x ∷ xs) k x some.0.0 (some.0.1 x)
