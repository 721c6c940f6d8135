-- What `==` says of keys.
use Rattle.std.proofs.Common.{rules, ◌≡◌, ◌==◌, true, ◌&&◌, List, [], ◌∷◌, refl, sym, ap, ◌∙◌}
use Rattle.std.proofs.Common.{subst}
use Rattle.std.specs.Prelude.{slice_get}
use Rattle.std.specs.Bool.{one_answer}
use Rattle.std.specs.Cmp.Lexicographic.{pointwise, pointwise_decides}
use Rattle.std.proofs.Common.{eq-eqb}
use Rattle.std.proofs.lemmas.Bool.{eqb-true, false≢true}
use denote.Enum.Bare.{same_true, true_same}
use Rattle.keymap.specs.Functions.{functions, place_of}
use Rattle.keymap.specs.Keys.{same_key, same_keys}
use Rattle.keymap.specs.declared.function.Function.{Function}
use Rattle.keymap.specs.declared.key.Key.{Key}
use Rattle.keymap.specs.declared.key.Key.TheVariants.{Char, Up, Down, Left, Right, Home, End}
use Rattle.keymap.specs.declared.key.Key.TheVariants.{PageUp, PageDown, Insert, Delete, F1, F2, F3}
use Rattle.keymap.specs.declared.key.Key.TheVariants.{F4, Call}
use Rattle.keymap.specs.contracts.function.Function.{the_type}
use Rattle.keymap.specs.contracts.function.FunctionPartialEq.TheImpl as functions_equal
use Rattle.keymap.specs.contracts.key.KeyPartialEq.TheImpl as keys_equal
use Rattle.keymap.proofs.FunctionLemmas.{own_function}
use Rattle.keymap.proofs.TableLemmas.{some_same}

same_place : (f g : Function) → place_of f ≡ place_of g → f ≡ g
same_place f g same =
    some_same (sym (own_function f) ∙ ap (slice_get functions) same ∙ own_function g)

function_eq : (f g : Function) → functions_equal.eq-value.it f g ≡ (place_of f == place_of g)
function_eq f g =
    one_answer (functions_equal.eq-value.it f g) (place_of f == place_of g)
    ((λ yes. same_true the_type (search rules) f g yes), (λ is. true_same the_type f g is)) (
      (λ yes. same_place f g (eqb-true (place_of f) (place_of g) yes)),
      (λ is. eq-eqb (place_of f) (place_of g) (ap place_of is)),
    )

key_eq : (k l : Key) → keys_equal.eq-value.it k l ≡ same_key k l
key_eq (Call f) (Call g) = function_eq f g
key_eq (Call f) _ = refl
key_eq (Char c) (Char d) = refl
key_eq (Char c) _ = refl
key_eq Up Up = refl
key_eq Up _ = refl
key_eq Down Down = refl
key_eq Down _ = refl
key_eq Left Left = refl
key_eq Left _ = refl
key_eq Right Right = refl
key_eq Right _ = refl
key_eq Home Home = refl
key_eq Home _ = refl
key_eq End End = refl
key_eq End _ = refl
key_eq PageUp PageUp = refl
key_eq PageUp _ = refl
key_eq PageDown PageDown = refl
key_eq PageDown _ = refl
key_eq Insert Insert = refl
key_eq Insert _ = refl
key_eq Delete Delete = refl
key_eq Delete _ = refl
key_eq F1 F1 = refl
key_eq F1 _ = refl
key_eq F2 F2 = refl
key_eq F2 _ = refl
key_eq F3 F3 = refl
key_eq F3 _ = refl
key_eq F4 F4 = refl
key_eq F4 _ = refl

key_own : (k : Key) → same_key k k ≡ true
key_own (Char c) = eq-eqb c c refl
key_own (Call f) = eq-eqb (place_of f) (place_of f) refl
key_own Up = refl
key_own _ = refl

key_is : (k l : Key) → same_key k l ≡ true → k ≡ l
key_is (Call f) (Call g) same = ap Call (same_place f g (eqb-true (place_of f) (place_of g) same))
key_is (Call f) _ same = absurd (false≢true same)
key_is (Char c) (Char d) same = ap Char (eqb-true c d same)
key_is (Char c) _ same = absurd (false≢true same)
key_is Up Up same = refl
key_is Up _ same = absurd (false≢true same)
key_is Down Down same = refl
key_is Down _ same = absurd (false≢true same)
key_is Left Left same = refl
key_is Left _ same = absurd (false≢true same)
key_is Right Right same = refl
key_is Right _ same = absurd (false≢true same)
key_is Home Home same = refl
key_is Home _ same = absurd (false≢true same)
key_is End End same = refl
key_is End _ same = absurd (false≢true same)
key_is PageUp PageUp same = refl
key_is PageUp _ same = absurd (false≢true same)
key_is PageDown PageDown same = refl
key_is PageDown _ same = absurd (false≢true same)
key_is Insert Insert same = refl
key_is Insert _ same = absurd (false≢true same)
key_is Delete Delete same = refl
key_is Delete _ same = absurd (false≢true same)
key_is F1 F1 same = refl
key_is F1 _ same = absurd (false≢true same)
key_is F2 F2 same = refl
key_is F2 _ same = absurd (false≢true same)
key_is F3 F3 same = refl
key_is F3 _ same = absurd (false≢true same)
key_is F4 F4 same = refl
key_is F4 _ same = absurd (false≢true same)

key_decides : (k l : Key) → (same_key k l ≡ true → k ≡ l) × (k ≡ l → same_key k l ≡ true)
key_decides k l = (key_is k l, λ is. subst (λ x. same_key k x ≡ true) is (key_own k))

-- equal sequences of keys are the same
pub keys_eq : (ks ls : List Key) → pointwise keys_equal.eq-value.it ks ls ≡ same_keys ks ls
keys_eq [] [] = refl
keys_eq [] (l ∷ ls) = refl
keys_eq (k ∷ ks) [] = refl
keys_eq (k ∷ ks) (l ∷ ls) =
    ap (λ b. b && pointwise keys_equal.eq-value.it ks ls) (key_eq k l)
    ∙ ap (λ b. same_key k l && b) (keys_eq ks ls)

-- and the other way round
pub same_keys_is : (ks ls : List Key) → same_keys ks ls ≡ true → ks ≡ ls
same_keys_is ks ls same = (pointwise_decides key_decides ks ls).0 same

pub same_keys_own : (ks : List Key) → same_keys ks ks ≡ true
same_keys_own ks = (pointwise_decides key_decides ks ks).1 refl
