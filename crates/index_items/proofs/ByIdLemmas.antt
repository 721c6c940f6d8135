-- How a table by numbers grows.
use Rattle.std.proofs.Common.{◌≡◌, ◌∙◌, ◌+◌, ◌<◌, ℕ, suc, Bool, true, false, List, [], ◌∷◌, ◌++◌}
use Rattle.std.proofs.Common.{length}
use Rattle.std.proofs.Common.{Option, Some, None, option_map, refl, sym, ap, arith, nat_eq}
use Rattle.std.proofs.Common.{slice_index_or, subst, take}
use Rattle.std.specs.Prelude.{find, if◌then◌else◌}
use Rattle.std.proofs.lemmas.Bool.{eqb-false, eqb-true}
use Rattle.std.specs.Option.{option_or}
use Rattle.std.proofs.Math.Seq.{take-suc}
use Rattle.std.proofs.lemmas.List.{get_or-set_other, length-set}
use Rattle.std.proofs.lemmas.Grind.{get_or-set_at}
use Rattle.std.proofs.lemmas.List.Folds.{find-append}
use Rattle.index_items.specs.ById.{HasFirsts, first_of, put}

none_more : {T : Type 0} (o : Option T) → option_or o None ≡ o
none_more None = refl
none_more (Some x) = refl

map_more : {X T : Type 0} (f : X → T) (o : Option X) (x : X)
    → option_or (option_map f o) (Some (f x)) ≡ option_map f (option_or o (Some x))
map_more f None x = refl
map_more f (Some y) x = refl

module _ {X T : Type 0} (number : X → ℕ) (value : X → T) where
  pub put_first : (table : List (Option T)) (xs : List X) (x : X) → number x < length table
      → HasFirsts number value table xs
      → HasFirsts number value (put table (number x) (value x)) (xs ++ x ∷ [])
  put_first table xs x low has n = by_test (nat_eq n (number x)) refl
    where
      wanted : Option T → Type 0
      wanted o = slice_index_or (put table (number x) (value x)) n None ≡ o

      so : first_of number value (xs ++ x ∷ []) n
          ≡ option_map value (option_or (find (λ y. nat_eq n (number y)) xs)
          (find (λ y. nat_eq n (number y)) (x ∷ [])))
      so = ap (option_map value) (find-append (λ y. nat_eq n (number y)) xs (x ∷ []))

      by_test : (b : Bool) → nat_eq n (number x) ≡ b
          → wanted (first_of number value (xs ++ x ∷ []) n)
      by_test true is =
          let same : n ≡ number x = eqb-true n (number x) is in
          get_or-set_at table (number x) n (option_or (slice_index_or table (number x) None)
          (Some (value x))) None same low
          ∙ ap (λ o. option_or o (Some (value x)))
          (ap (λ m. slice_index_or table m None) (sym same) ∙ has n)
          ∙ map_more value (find (λ y. nat_eq n (number y)) xs) x
          ∙ ap (λ (b : Bool). option_map value (option_or (find (λ y. nat_eq n (number y)) xs)
          (if b then Some x else None))) (sym is)
          ∙ sym so
      by_test false is =
          get_or-set_other table (number x) n (option_or (slice_index_or table (number x) None)
          (Some (value x))) None (eqb-false n (number x) is)
          ∙ has n
          ∙ ap (option_map value) (sym (none_more (find (λ y. nat_eq n (number y)) xs)))
          ∙ ap (λ (b : Bool). option_map value (option_or (find (λ y. nat_eq n (number y)) xs)
          (if b then Some x else None))) (sym is)
          ∙ sym so

  -- the next of some things gives its number its value
  pub next_at : (table more : List (Option T)) (xs : List X) (j : ℕ) (d : X) → j < length xs
      → number (slice_index_or xs j d) < length table
      → more ≡ put table (number (slice_index_or xs j d)) (value (slice_index_or xs j d))
      → HasFirsts number value table (take j xs) → HasFirsts number value more (take (j + 1) xs)
  next_at table more xs j d low within is has =
      let counted : j + 1 ≡ suc j = omega arith in
      let taken : take (j + 1) xs ≡ take j xs ++ slice_index_or xs j d ∷ [] =
      ap (λ n. take n xs) counted ∙ take-suc xs j d low in
      subst (λ l. HasFirsts number value more l) (sym taken)
      (subst (λ t. HasFirsts number value t (take j xs ++ slice_index_or xs j d ∷ [])) (sym is)
      (put_first table (take j xs) (slice_index_or xs j d) within has))

  pub next_first : (table more : List (Option T)) (xs : List X) (j : ℕ) (x : X) → j < length xs
      → x ≡ slice_index_or xs j x → number x < length table
      → more ≡ put table (number x) (value x) → HasFirsts number value table (take j xs)
      → HasFirsts number value more (take (j + 1) xs)
  next_first table more xs j x low at within is has =
      next_at table more xs j x low (subst (λ y. number y < length table) at within)
      (is ∙ ap (λ y. put table (number y) (value y)) at) has

pub long_put : {T : Type 0} (table more : List (Option T)) (n : ℕ) (value : T)
    → more ≡ put table n value → length more ≡ length table
long_put table more n value is = ap length is ∙ length-set table n _
