-- Lists in the order that a test gives.
use Rattle.std.specs.Prelude.{◌≡◌, ◌⊎◌, Bool, List, [], ◌∷◌, if◌then◌else◌}

-- an element put before the first of these that does not stand before it
abbrev pub put_by : {A : Type 0} → (A → A → Bool) → A → List A → List A
put_by before x [] = x ∷ []
put_by before x (y ∷ ys) = if before y x then y ∷ put_by before x ys else x ∷ y ∷ ys

-- the elements in order
abbrev pub in_order_by : {A : Type 0} → (A → A → Bool) → List A → List A
in_order_by before [] = []
in_order_by before (x ∷ xs) = put_by before x (in_order_by before xs)

-- the element is one of these
abbrev pub IsIn : {A : Type 0} → A → List A → Type 0
IsIn x [] = ⊥
IsIn x (y ∷ ys) = (y ≡ x) ⊎ IsIn x ys
