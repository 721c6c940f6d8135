-- What holds of each row of the table of variables.
use Rattle.std.proofs.Common.{◌≡◌, ℕ, ◌==◌, ◌&&◌, ltb, Bool, true, false, not, List, [], ◌∷◌, Some}
use Rattle.std.proofs.Common.{refl}
use Rattle.std.specs.List.{list_all}
use Rattle.rc_lang.specs.declared.variable.Variable.{Variable}
use Rattle.rc_lang.specs.declared.variable.Variable.TheVariants.{MarkOld}
use Rattle.rc_lang.specs.Variables.{without_place, named_at, place_of, row_of}
use Rattle.rc_lang_words.proofs.QuotingLemmas.{is_bare}

-- each variable is found by its name
pub own_place : (v : Variable) → place_of (row_of v).name ≡ Some (row_of v).place
own_place MarkOld = refl
own_place _ = refl

-- its row stands at its place
pub own_row : (v : Variable) → named_at (row_of v).place ≡ Some (without_place (row_of v))
own_row MarkOld = refl
own_row _ = refl

pub own_within : (v : Variable) → ltb (row_of v).place 44 ≡ true
own_within MarkOld = refl
own_within _ = refl

-- no name holds an equals sign
pub own_name : (v : Variable) → list_all (λ b. not (b == 61)) (row_of v).name ≡ true
own_name MarkOld = refl
own_name _ = refl

-- a name that needs no quotes
abbrev pub is_good_name : List ℕ → Bool
is_good_name [] = false
is_good_name (b ∷ name) =
    list_all is_bare (b ∷ name) && list_all (λ x. not (x == 36)) (b ∷ name)

pub own_good : (v : Variable) → is_good_name (row_of v).name ≡ true
own_good MarkOld = refl
own_good _ = refl

pub own_ascii : (v : Variable) → list_all (λ b. ltb b 128) (row_of v).name ≡ true
own_ascii MarkOld = refl
own_ascii _ = refl
