-- Texts that are known.
use Rattle.std.specs.Borrow.{Bor}
use Rattle.std.specs.Prelude.{◌||◌, ℕ, Bool, List}
use Rattle.std.specs.List.{list_any}
use Rattle.std.specs.Str.{bytes_eq}

-- a text is one of these
abbrev pub is_in : List (Bor (List ℕ)) → List ℕ → Bool
is_in texts text = list_any (λ t. bytes_eq text t.now) texts

-- what is known with a further text
abbrev pub with_text : (List ℕ → Bool) → List ℕ → List ℕ → Bool
with_text known text other = known other || bytes_eq other text
