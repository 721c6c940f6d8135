-- Lists that are made place by place.
use Rattle.std.proofs.Common.{◌≡◌, ◌∙◌, ◌+◌, ◌++◌, ◌∷◌, [], ℕ, List, ap, arith, length, map, sym}
use Rattle.std.proofs.lemmas.List.FromFn.{length-map-range_with_len, map-range_with_len_more}
use Rattle.std.specs.List.{range_with_len}

-- the value of the next place is put behind those before it
pub put_next : {Y : Type 0} (f : ℕ → Y) (n : ℕ) (old more : List Y) (y : Y)
    → more ≡ old ++ y ∷ [] → old ≡ map f (range_with_len 0 n) → y ≡ f n
    → more ≡ map f (range_with_len 0 (n + 1))
put_next f n old more y put is at =
    put ∙ ap (λ l. l ++ y ∷ []) is ∙ ap (λ z. map f (range_with_len 0 n) ++ z ∷ []) at
    ∙ sym (map-range_with_len_more f 0 n n (omega arith))

-- there are as many values as places
pub as_many : {Y : Type 0} (f : ℕ → Y) (n : ℕ) (ys : List Y) → ys ≡ map f (range_with_len 0 n)
    → length ys ≡ n
as_many f n ys is = ap length is ∙ length-map-range_with_len f 0 n
