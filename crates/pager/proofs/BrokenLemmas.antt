-- The pieces of characters: joined they are the characters, each is full but the last, and none is
-- too wide.
use Rattle.std.proofs.Common.{◌≡◌, ℕ, ◌+◌, ◌-◌, ◌<◌, ◌≤◌, Bool, true, false, ◌&&◌, List, [], ◌∷◌}
use Rattle.std.proofs.Common.{cond, nat_le, refl, ap, sym, ◌∙◌, arith, add_assoc, zero-add}
use Rattle.std.proofs.Common.{add-zero}
use Rattle.std.proofs.lemmas.Bool.{and_parts, and_from, le-leb, leb-true, leb-false, lt-ltb}
use Rattle.std.proofs.lemmas.List.Folds.{list_all-append}
use Rattle.std.specs.List.{concat, list_all}
use Rattle.expando.specs.Columns.{columns_in, columns_of}
use Rattle.pager.specs.Broken.{pieces, with_front}
use Rattle.pager.specs.Laws.{are_full, is_full}

concat-with_front : (c : ℕ) (ps : List (List ℕ)) → concat (with_front c ps) ≡ c ∷ concat ps
concat-with_front c [] = refl
concat-with_front c (p ∷ ps) = refl

-- the pieces, joined, are the characters
pub concat-pieces : (cols left : ℕ) (cs : List ℕ) → concat (pieces cols left cs) ≡ cs
concat-pieces cols left [] = refl
concat-pieces cols left (c ∷ cs) =
    by_test (nat_le (columns_of c) left) (concat-pieces cols (left - columns_of c) cs)
    (concat-pieces cols (cols - columns_of c) cs)
  where
    by_test : (t : Bool) → concat (pieces cols (left - columns_of c) cs) ≡ cs
        → concat (pieces cols (cols - columns_of c) cs) ≡ cs
        → concat (cond t (with_front c (pieces cols (left - columns_of c) cs))
        ([] ∷ with_front c (pieces cols (cols - columns_of c) cs))) ≡ c ∷ cs
    by_test true same next = concat-with_front c _ ∙ ap (λ s. c ∷ s) same
    by_test false same next = concat-with_front c _ ∙ ap (λ s. c ∷ s) next

-- all are full but the last, where so many columns stand before the first
full_first : ℕ → ℕ → List (List ℕ) → Bool
full_first cols used [] = true
full_first cols used (p ∷ more) = is_full cols (used + columns_in p) more && are_full cols more

full_first-with_front : (cols used c : ℕ) (ps : List (List ℕ))
    → full_first cols used (with_front c ps) ≡ full_first cols (used + columns_of c) ps
unfolding full_first
full_first-with_front cols used c [] = refl
full_first-with_front cols used c (p ∷ more) =
    ap (λ n. is_full cols n more && are_full cols more)
    (sym (add_assoc used (columns_of c) (columns_in p)))

are_full-first : (cols : ℕ) (ps : List (List ℕ)) → full_first cols 0 ps ≡ are_full cols ps
unfolding full_first
are_full-first cols [] = refl
are_full-first cols (p ∷ more) =
    ap (λ n. is_full cols n more && are_full cols more) (zero-add (columns_in p))

full_next : (cols used c : ℕ) (ps : List (List ℕ)) → cols < used + columns_of c
    → is_full cols used (with_front c ps) ≡ true
full_next cols used c [] wide = lt-ltb cols (used + columns_of c) wide
full_next cols used c (p ∷ more) wide = lt-ltb cols (used + columns_of c) wide

full_from : (cols used left : ℕ) (cs : List ℕ) → cols ≤ used + left
    → full_first cols used (pieces cols left cs) ≡ true
unfolding full_first
full_from cols used left [] enough = refl
full_from cols used left (c ∷ cs) enough =
    by_test (nat_le (columns_of c) left) refl
    (λ within. full_from cols (used + columns_of c) (left - columns_of c) cs within)
    (full_from cols (0 + columns_of c) (cols - columns_of c) cs (omega arith))
  where
    by_test : (t : Bool) → nat_le (columns_of c) left ≡ t
        → (cols ≤ used + columns_of c + (left - columns_of c)
        → full_first cols (used + columns_of c) (pieces cols (left - columns_of c) cs) ≡ true)
        → full_first cols (0 + columns_of c) (pieces cols (cols - columns_of c) cs) ≡ true
        → full_first cols used (cond t (with_front c (pieces cols (left - columns_of c) cs))
        ([] ∷ with_front c (pieces cols (cols - columns_of c) cs))) ≡ true
    by_test true e same next =
        let fits : columns_of c ≤ left = leb-true _ _ e in
        full_first-with_front cols used c _ ∙ same (omega arith)
    by_test false e same next =
        let wide : left < columns_of c = leb-false _ _ e in
        and_from _ _ (full_next cols (used + 0) c _ (omega arith))
        (sym (are_full-first cols _) ∙ full_first-with_front cols 0 c _ ∙ next)

-- each piece but the last could not take the next character
pub are_full-pieces : (cols : ℕ) (cs : List ℕ) → are_full cols (pieces cols cols cs) ≡ true
are_full-pieces cols cs =
    sym (are_full-first cols _) ∙ full_from cols 0 cols cs (omega arith)

-- a piece is no wider than the columns
abbrev pub within : ℕ → List ℕ → Bool
within cols piece = nat_le (columns_in piece) cols

-- so are all, where so many columns stand before the first
within_first : ℕ → ℕ → List (List ℕ) → Bool
within_first cols used [] = nat_le used cols
within_first cols used (p ∷ more) = nat_le (used + columns_in p) cols && list_all (within cols) more

within_first-with_front : (cols used c : ℕ) (ps : List (List ℕ))
    → within_first cols (used + columns_of c) ps ≡ true
    → within_first cols used (with_front c ps) ≡ true
unfolding within_first
within_first-with_front cols used c [] fits =
    and_from _ _ (ap (λ n. nat_le (used + n) cols) (add-zero (columns_of c)) ∙ fits) refl
within_first-with_front cols used c (p ∷ more) fits =
    ap (λ n. nat_le n cols && list_all (within cols) more)
    (sym (add_assoc used (columns_of c) (columns_in p))) ∙ fits

within_all : (cols : ℕ) (ps : List (List ℕ)) → within_first cols 0 ps ≡ true
    → list_all (within cols) ps ≡ true
unfolding within_first
within_all cols [] fits = refl
within_all cols (p ∷ more) fits =
    sym (ap (λ n. nat_le n cols && list_all (within cols) more) (zero-add (columns_in p))) ∙ fits

within_from : (cols used left : ℕ) (cs : List ℕ) → used + left ≤ cols
    → list_all (λ c. nat_le (columns_of c) cols) cs ≡ true
    → within_first cols used (pieces cols left cs) ≡ true
unfolding within_first
within_from cols used left [] room narrow =
    and_from _ _ (le-leb (used + 0) cols (omega arith)) refl
within_from cols used left (c ∷ cs) room narrow =
    let parts = and_parts (nat_le (columns_of c) cols)
    (list_all (λ c. nat_le (columns_of c) cols) cs) narrow in
    by_test (nat_le (columns_of c) left) refl (leb-true _ _ parts.0)
    (λ room. within_from cols (used + columns_of c) (left - columns_of c) cs room parts.1)
    (λ room. within_from cols (0 + columns_of c) (cols - columns_of c) cs room parts.1)
  where
    by_test : (t : Bool) → nat_le (columns_of c) left ≡ t → columns_of c ≤ cols
        → (used + columns_of c + (left - columns_of c) ≤ cols
        → within_first cols (used + columns_of c) (pieces cols (left - columns_of c) cs) ≡ true)
        → (0 + columns_of c + (cols - columns_of c) ≤ cols
        → within_first cols (0 + columns_of c) (pieces cols (cols - columns_of c) cs) ≡ true)
        → within_first cols used (cond t (with_front c (pieces cols (left - columns_of c) cs))
        ([] ∷ with_front c (pieces cols (cols - columns_of c) cs))) ≡ true
    by_test true e narrow same next =
        let fits : columns_of c ≤ left = leb-true _ _ e in
        within_first-with_front cols used c _ (same (omega arith))
    by_test false e narrow same next =
        and_from _ _ (le-leb (used + 0) cols (omega arith))
        (within_all cols _ (within_first-with_front cols 0 c _ (next (omega arith))))

-- no piece is wider than the columns, where no character is
pub within-pieces : (cols : ℕ) (cs : List ℕ)
    → list_all (λ c. nat_le (columns_of c) cols) cs ≡ true
    → list_all (within cols) (pieces cols cols cs) ≡ true
within-pieces cols cs narrow =
    within_all cols _ (within_from cols 0 cols cs (omega arith) narrow)

all_joined : (p : ℕ → Bool) (ps : List (List ℕ)) → list_all p (concat ps) ≡ true
    → list_all (list_all p) ps ≡ true
all_joined p [] all = refl
all_joined p (piece ∷ ps) all =
    let parts = and_parts (list_all p piece) (list_all p (concat ps))
    (sym (list_all-append p piece (concat ps)) ∙ all) in
    and_from _ _ parts.0 (all_joined p ps parts.1)

-- what holds of each character holds in each piece
pub all-pieces : (p : ℕ → Bool) (cols left : ℕ) (cs : List ℕ) → list_all p cs ≡ true
    → list_all (list_all p) (pieces cols left cs) ≡ true
all-pieces p cols left cs all =
    all_joined p (pieces cols left cs) (ap (list_all p) (concat-pieces cols left cs) ∙ all)
