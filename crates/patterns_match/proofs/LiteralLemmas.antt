-- Literals in texts of several pieces.
use Rattle.std.proofs.Common.{◌≡◌, ◌∙◌, ◌||◌, ◌&&◌, ◌+◌, ◌==◌, ℕ, zero, suc, Bool, true, false}
use Rattle.std.proofs.Common.{List, [], ◌∷◌, length, refl, sym, ap, arith, take, drop, zero-add}
use Rattle.std.specs.Prelude.{nat_le, not, if◌then◌else◌}
use Rattle.std.specs.Char.{is_ascii_uppercase}
use Rattle.std.proofs.Math.Bool.{or-false}
use Rattle.std.proofs.lemmas.Bool.{le-leb}
use Rattle.std.proofs.Math.Dec.{leb-suc-suc, leb-suc-zero}
use Rattle.std.specs.List.{list_any, range_with_len}
use Rattle.std.specs.Str.{bytes_eq, str_to_ascii_lowercase}
use Rattle.memchr.specs.Find.{occurs_at}
use Rattle.people.specs.Expr.{literal_found, stands_in}
use Rattle.joined_texts.specs.Joined.{are_equal, begins, holds, is_there}
use Rattle.joined_texts.specs.declared.joined.Case.TheVariants.{Regarded, Folded}

and_swap : (a b c : Bool) → (a && (b && c)) ≡ (b && (a && c))
and_swap true b c = refl
and_swap false true c = refl
and_swap false false c = refl

front : (t l : List ℕ)
    → begins Regarded t l ≡ (nat_le (length l) (length t) && bytes_eq (take (length l) t) l)
front t [] = sym (ap (λ r. r && true) (le-leb 0 (length t) (omega arith)))
front [] (c ∷ l) = sym (ap (λ r. r && false) (leb-suc-zero (length l)))
front (b ∷ t) (c ∷ l) =
    ap (λ r. (b == c) && r) (front t l)
    ∙ and_swap (b == c) (nat_le (length l) (length t)) (bytes_eq (take (length l) t) l)
    ∙ ap (λ r. r && ((b == c) && bytes_eq (take (length l) t) l))
    (sym (leb-suc-suc (length l) (length t)))

first : (t l : List ℕ) → begins Regarded t l ≡ occurs_at t l 0
first t l =
    front t l
    ∙ ap (λ n. nat_le n (length t) && bytes_eq (take (length l) t) l) (sym (zero-add (length l)))

shift : (f : ℕ → Bool) (a b n : ℕ) → b ≡ suc a
    → list_any f (range_with_len b n) ≡ list_any (λ k. f (suc k)) (range_with_len a n)
shift f a b zero e = refl
shift f a b (suc n) e =
    ap (λ k. f k || list_any f (range_with_len (b + 1) n)) e
    ∙ ap (λ r. f (suc a) || r) (shift f (a + 1) (b + 1) n (omega (arith, e)))

same_tests : (f g : ℕ → Bool) (xs : List ℕ) → ((k : ℕ) → f k ≡ g k) → list_any f xs ≡ list_any g xs
same_tests f g [] e = refl
same_tests f g (x ∷ xs) e =
    ap (λ r. r || list_any f xs) (e x) ∙ ap (λ r. g x || r) (same_tests f g xs e)

le_later : (n m k : ℕ) → nat_le (suc k + n) (suc m) ≡ nat_le (k + n) m
le_later n m k =
    let sum : suc k + n ≡ suc (k + n) = omega arith in
    ap (λ x. nat_le x (suc m)) sum ∙ leb-suc-suc (k + n) m

later : (b : ℕ) (t l : List ℕ) (k : ℕ) → occurs_at (b ∷ t) l (suc k) ≡ occurs_at t l k
later b t l k =
    ap (λ r. r && bytes_eq (take (length l) (drop k t)) l) (le_later (length l) (length t) k)

somewhere : (t l : List ℕ) → holds Regarded t l ≡ stands_in l t
somewhere [] l = first [] l ∙ sym (or-false (occurs_at [] l 0))
somewhere (b ∷ t) l =
    let f = occurs_at (b ∷ t) l in
    let n = length t + 1 in
    let size : length (b ∷ t) + 1 ≡ suc n = omega arith in
    ap (λ r. r || holds Regarded t l) (first (b ∷ t) l)
    ∙ ap (λ r. f 0 || r)
    (somewhere t l
    ∙ sym (same_tests (λ k. f (suc k)) (occurs_at t l) (range_with_len 0 n) (later b t l))
    ∙ sym (shift f 0 (0 + 1) n refl))
    ∙ ap (λ m. list_any f (range_with_len 0 m)) (sym size)

lower_begins : (t l : List ℕ) → begins Folded t l
    ≡ begins Regarded (str_to_ascii_lowercase t) (str_to_ascii_lowercase l)
lower_begins t [] = refl
lower_begins [] (c ∷ l) = refl
lower_begins (b ∷ t) (c ∷ l) = ap (λ r. are_equal Folded b c && r) (lower_begins t l)

lower_holds : (t l : List ℕ) → holds Folded t l
    ≡ holds Regarded (str_to_ascii_lowercase t) (str_to_ascii_lowercase l)
lower_holds [] l = lower_begins [] l
lower_holds (b ∷ t) l =
    ap (λ r. r || holds Folded t l) (lower_begins (b ∷ t) l)
    ∙ ap (λ r. begins Regarded (str_to_ascii_lowercase (b ∷ t)) (str_to_ascii_lowercase l) || r)
    (lower_holds t l)

-- a literal is found by the case that it regards
pub found_by_case : (t l : List ℕ) → is_there l t ≡ literal_found l t
found_by_case t l =
    elim (list_any is_ascii_uppercase l) as (λ b. holds (if b then Regarded else Folded) t l
    ≡ (if not b then stands_in (str_to_ascii_lowercase l) (str_to_ascii_lowercase t)
    else stands_in l t)) [
      | true ↦ somewhere t l
      | false ↦ lower_holds t l ∙ somewhere (str_to_ascii_lowercase t) (str_to_ascii_lowercase l)
    ]
