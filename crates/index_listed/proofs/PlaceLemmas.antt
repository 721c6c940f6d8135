-- Lists that are told place by place, and the first place of a number.
use Rattle.std.proofs.Common.{◌≡◌, ◌∙◌, ◌<◌, ◌≤◌, ℕ, List, Some, None, ap, arith, cond}
use Rattle.std.proofs.Common.{eq-eqb, eqb-true, length, lt-ltb, map, nat_eq, slice_index_or}
use Rattle.std.proofs.Common.{subst, sym, ⊎_elim}
use Rattle.std.proofs.lemmas.Bool.{cases_lt, false≢true}
use Rattle.std.proofs.lemmas.List.{get_or-map, length-map}
use Rattle.std.proofs.lemmas.List.FromFn.{fill_by_all, get_or-map-range_with_len}
use Rattle.std.proofs.lemmas.List.FromFn.{length-map-range_with_len}
use Rattle.std.proofs.lemmas.List.Quantifiers.{position-Some}
use Rattle.std.proofs.lemmas.List.Sums.{fails_before_first}
use Rattle.std.proofs.lemmas.Option.{get_or_from_slice_get, same_Some, slice_get_within}
use Rattle.std.specs.List.{position_or_len, range_with_len}
use Rattle.std.specs.Prelude.{position, slice_get}

-- ---- told place by place

pub told_list : {X : Type 0} (f : ℕ → X) (n : ℕ) (xs : List X) (d : X) → length xs ≡ n
    → ((p : ℕ) → p < n → slice_index_or xs p d ≡ f p) → xs ≡ map f (range_with_len 0 n)
told_list f n xs = fill_by_all f xs n

pub map_at : {A B : Type 0} (f : A → B) (xs : List A) (d : A)
    → map (λ p. f (slice_index_or xs p d)) (range_with_len 0 (length xs)) ≡ map f xs
map_at f xs d = sym (told_list (λ p. f (slice_index_or xs p d)) (length xs) (map f xs) (f d)
    (length-map xs f) (λ p low. get_or-map f xs p d (f d) low))

pub same_reads : {B : Type 0} (f g : ℕ → B) (n : ℕ) → ((p : ℕ) → p < n → f p ≡ g p)
    → map f (range_with_len 0 n) ≡ map g (range_with_len 0 n)
same_reads f g n same = told_list g n (map f (range_with_len 0 n)) (f 0)
    (length-map-range_with_len f 0 n) (λ p low.
    get_or-map-range_with_len f 0 n p p (f 0) low (omega arith) ∙ same p low)

-- ---- the first place of a number

pub found_reads : (xs : List ℕ) (n p : ℕ) → position (nat_eq n) xs ≡ Some p → (d : ℕ)
    → slice_index_or xs p d ≡ n
found_reads xs n p is d = sym (eqb-true _ _ (position-Some (nat_eq n) xs p d is).1)

not_after : (xs : List ℕ) (n i : ℕ) → slice_get xs i ≡ Some n
    → position_or_len (nat_eq n) xs ≤ i
not_after xs n i at = ⊎_elim
    (λ low. absurd (false≢true (sym (fails_before_first (nat_eq n) xs i n low)
    ∙ eq-eqb n (slice_index_or xs i n) (sym (get_or_from_slice_get xs i n n at)))))
    (λ le. le) (cases_lt i (position_or_len (nat_eq n) xs))

pub found_some : (xs : List ℕ) (n i : ℕ) → slice_get xs i ≡ Some n
    → (p : ℕ) × (position (nat_eq n) xs ≡ Some p) × (p ≤ i)
found_some xs n i at =
    let first = position_or_len (nat_eq n) xs in
    let low = not_after xs n i at in
    let inside = slice_get_within xs i n at in
    (first, ap (λ b. cond b (Some first) None) (lt-ltb first (length xs) (omega arith)), low)

pub found_first : (xs : List ℕ) (n i p : ℕ) → slice_get xs i ≡ Some n
    → position (nat_eq n) xs ≡ Some p → p ≤ i
found_first xs n i p at is =
    let some = found_some xs n i at in
    subst (λ q. q ≤ i) (same_Some some.0 p (sym some.1 ∙ is)) some.2
