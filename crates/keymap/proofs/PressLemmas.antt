-- How keys are taken along a queue.
use Rattle.std.proofs.Common.{◌≡◌, ℕ, zero, suc, ◌+◌, ◌<◌, ◌≤◌, ◌++◌, List, [], ◌∷◌, Some, drop}
use Rattle.std.proofs.Common.{length, sym, ap, ◌∙◌}
use Rattle.std.proofs.Common.{arith}
use Rattle.std.specs.Prelude.{slice_get}
use Rattle.std.proofs.lemmas.Option.{none-some}
use Rattle.std.proofs.lemmas.List.{drop_all}
use Rattle.keymap.specs.Keymap.{PlainKeymap}
use Rattle.keymap.specs.Press.{Replaced, next_answer, pressed, reached}
use Rattle.keymap.specs.declared.key.Key.{Key}
use Rattle.keymap.specs.declared.menu.Menu.{Menu}
use Rattle.keymap.proofs.TableLemmas.{some_same}

-- an item that a list has at a place
pub record Got {X : Type 0} (xs : List X) (n : ℕ) (x : X) : Type 0 where
  pub rest : drop n xs ≡ x ∷ drop (n + 1) xs
  pub within : n < length xs

pub got : {X : Type 0} (xs : List X) (n : ℕ) (x : X) → slice_get xs n ≡ Some x → Got xs n x
got [] n x is = absurd (none-some x is)
got (y ∷ xs) zero x is =
    record { rest = ap (λ z. z ∷ xs) (some_same is); within = omega arith }
got (y ∷ xs) (suc n) x is =
    let more = got xs n x is in
    let next : suc (n + 1) ≡ suc n + 1 = omega arith in
    record {
      rest = more.rest ∙ ap (λ m. x ∷ drop m (y ∷ xs)) next;
      within = omega (arith, more.within);
    }

-- a list that ends at a place
pub ended : {X : Type 0} (xs : List X) (n : ℕ) → length xs ≤ n → drop n xs ≡ []
ended xs n far = drop_all n xs far

-- a macro's text is replaced, where a replacement is left
pub replaced_once : (map : PlainKeymap) (menu : Menu) (left further turn : ℕ)
    (begun waiting text rest : List Key)
    → left ≡ suc further → Replaced text rest ≡ reached map menu begun waiting
    → pressed map menu left turn begun waiting
    ≡ pressed map menu further (turn + 1) [] (text ++ rest)
replaced_once map menu left further turn begun waiting text rest some comes =
    ap (λ n. pressed map menu n turn begun waiting) some
    ∙ ap (λ r. next_answer turn r (λ keys. pressed map menu further (turn + 1) [] keys)) (sym comes)
