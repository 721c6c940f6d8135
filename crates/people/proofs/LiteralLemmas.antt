-- Where literals stand.
use Rattle.std.proofs.Common.{◌≡◌, ◌∙◌, ℕ, ◌+◌, ◌<◌, ◌≤◌, ◌&&◌, true, false, List, length, take}
use Rattle.std.proofs.Common.{drop, Option}
use Rattle.std.proofs.Common.{Some, None, is_some, sym, ap, arith, zero-add}
use Rattle.std.specs.Char.{to_ascii_lowercase}
use Rattle.std.specs.List.{range_with_len}
use Rattle.std.specs.Str.{bytes_eq, str_eq_ignore_ascii_case, str_to_ascii_lowercase}
use Rattle.std.proofs.lemmas.Bool.{false_from_ne_true, le-leb, lt-leb}
use Rattle.std.proofs.lemmas.List.{drop-map, length-map, take-map}
use Rattle.std.proofs.lemmas.List.Folds.{list_any_at, list_any_none}
use Rattle.std.proofs.lemmas.List.FromFn.{get_or-range_with_len, length-range_with_len}
use Rattle.memchr.specs.Find.{FindsNeedle, occurs_at}
use Rattle.memchr.proofs.lemmas.MatchLemmas.{OccursAt-true, occurs_at-true}
use Rattle.people.specs.Expr.{stands_in}

pub stands_at : (literal text : List ℕ) (k : ℕ) → k < length text + 1
    → occurs_at text literal k ≡ true
    → stands_in literal text ≡ true
stands_at literal text k within here =
    list_any_at (occurs_at text literal) (range_with_len 0 (length text + 1)) k 0
    (omega (arith, length-range_with_len 0 (length text + 1)))
    (ap (occurs_at text literal) (get_or-range_with_len 0 (length text + 1) k 0 within ∙ zero-add k)
    ∙ here)

pub stands_nowhere : (literal text : List ℕ)
    → ((k : ℕ) → k < length text + 1 → occurs_at text literal k ≡ false)
    → stands_in literal text ≡ false
stands_nowhere literal text nowhere =
    list_any_none (occurs_at text literal) (range_with_len 0 (length text + 1)) (λ k d within.
    let inside : k < length text + 1 = omega (arith, length-range_with_len 0 (length text + 1)) in
    ap (occurs_at text literal) (get_or-range_with_len 0 (length text + 1) k d inside ∙ zero-add k)
    ∙ nowhere k inside)

-- what a search for a needle tells
pub found_stands : (literal text : List ℕ) (found : Option ℕ) → FindsNeedle text literal 0 found
    → is_some found ≡ stands_in literal text
found_stands literal text None none =
    sym (stands_nowhere literal text (λ k within. false_from_ne_true (occurs_at text literal k)
    (λ here. none k (omega arith) within (OccursAt-true text literal k here))))
found_stands literal text (Some k) here =
    sym (stands_at literal text k here.0.high (occurs_at-true text literal k here.1))

-- the same without regard to case, at a place where there is room and where there is none
pub folded_at : (literal text front : List ℕ) (at : ℕ) → at + length literal ≤ length text
    → front ≡ take (length literal) (drop at text)
    → str_eq_ignore_ascii_case front literal
    ≡ occurs_at (str_to_ascii_lowercase text) (str_to_ascii_lowercase literal) at
folded_at literal text front at room e =
    let lower = str_to_ascii_lowercase in
    let sizes = le-leb (at + length (lower literal)) (length (lower text))
    (omega (arith, length-map literal to_ascii_lowercase, length-map text to_ascii_lowercase)) in
    let part : take (length (lower literal)) (drop at (lower text)) ≡ lower front =
    ap (λ n. take n (drop at (lower text))) (length-map literal to_ascii_lowercase)
    ∙ ap (take (length literal)) (drop-map to_ascii_lowercase at text)
    ∙ take-map to_ascii_lowercase (length literal) (drop at text) ∙ ap lower (sym e) in
    sym (ap (λ b. b && bytes_eq (take (length (lower literal)) (drop at (lower text)))
    (lower literal)) sizes
    ∙ ap (λ p. bytes_eq p (lower literal)) part)

pub missed_at : (literal text : List ℕ) (at : ℕ) → length text < at + length literal
    → false ≡ occurs_at (str_to_ascii_lowercase text) (str_to_ascii_lowercase literal) at
missed_at literal text at short =
    let lower = str_to_ascii_lowercase in
    sym (ap (λ b. b && bytes_eq (take (length (lower literal)) (drop at (lower text)))
    (lower literal))
    (lt-leb (at + length (lower literal)) (length (lower text))
    (omega (arith, length-map literal to_ascii_lowercase, length-map text to_ascii_lowercase))))
