-- A further text is known.
use Rattle.std.proofs.Common.{◌≡◌, ◌∙◌, ◌++◌, ◌∷◌, [], ◌||◌, ℕ, Bool, true, false, Bor, List, ap}
use Rattle.std.proofs.Common.{refl}
use Rattle.std.proofs.lemmas.List.Folds.{list_any-append}
use Rattle.std.proofs.lemmas.Slice.Eq.{bytes_eq-Decides}
use Rattle.std.specs.Prelude.{if◌then◌else◌}
use Rattle.std.specs.List.{list_any}
use Rattle.std.specs.Str.{bytes_eq}
use Rattle.index_listed.specs.Known.{is_in, with_text}

-- how the set tells its texts apart
abbrev same_text : Bor (List ℕ) → Bor (List ℕ) → Bool
same_text a b = bytes_eq a.now b.now

or_same : (a b : Bool) → (b ≡ true → a ≡ true) → a ≡ (a || b)
or_same true b follows = refl
or_same false true follows = follows refl
or_same false false follows = refl

or_none : (a b : Bool) → (a || (b || false)) ≡ (a || b)
or_none true b = refl
or_none false true = refl
or_none false false = refl

pub text_added : (texts more : List (Bor (List ℕ))) (text : Bor (List ℕ))
    → more ≡ (if list_any (same_text text) texts then texts else texts ++ text ∷ [])
    → is_in more ≡ with_text (is_in texts) text.now
text_added texts more text is =
    ap is_in is ∙ by_test (list_any (same_text text) texts) refl
  where
    known : (other : List ℕ) → list_any (same_text text) texts ≡ true
        → bytes_eq other text.now ≡ true → is_in texts other ≡ true
    known other found same =
        ap (is_in texts) ((bytes_eq-Decides other text.now).0 same) ∙ found

    by_test : (b : Bool) → list_any (same_text text) texts ≡ b
        → is_in (if b then texts else texts ++ text ∷ []) ≡ with_text (is_in texts) text.now
    by_test true found = λ i other.
        or_same (is_in texts other) (bytes_eq other text.now) (known other found) i
    by_test false found = λ i other.
        (list_any-append (λ t. bytes_eq other t.now) texts (text ∷ [])
        ∙ or_none (is_in texts other) (bytes_eq other text.now)) i
