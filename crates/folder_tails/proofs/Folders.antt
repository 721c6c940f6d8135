-- The folder of a mailbox, split off at the last slash.
use Rattle.std.proofs.Common.{◌≡◌, ◌≢◌, ◌<◌, ◌==◌, ℕ, Bool, List, [], ◌∷◌, ◌++◌, Some, None}
use Rattle.std.proofs.Common.{false, true}
use Rattle.std.proofs.Common.{ap, arith, drop, get_or, if◌then◌else◌, length, ne_eqb, refl}
use Rattle.std.proofs.Common.{suc, sym, take, ◌∙◌}
use Rattle.std.proofs.lemmas.List.{take-append-drop}
use Rattle.std.proofs.lemmas.Str.Pattern.{NoCharPasses-char, drop_at_char}
use Rattle.std.specs.Str.Pattern.{RFindsChar}
use Rattle.disk_model.specs.Tree.{before_slash, folder_before, folder_of, with_byte}

no_slash : (path : List ℕ) → ((i : ℕ) → i < length path → get_or path i 0 ≢ 47)
    → before_slash path ≡ None
no_slash [] none = refl
no_slash (b ∷ path) none =
    ap (with_byte b) (no_slash path (λ i low is. none (suc i) (omega (arith, low)) is))
    ∙ ap (λ (slash : Bool). if slash then Some [] else None) (ne_eqb b 47 (none 0 (omega arith)))

last_slash : (front rest : List ℕ) → ((i : ℕ) → i < length rest → get_or rest i 0 ≢ 47)
    → before_slash (front ++ 47 ∷ rest) ≡ Some front
last_slash [] rest none = ap (with_byte 47) (no_slash rest none)
last_slash (b ∷ front) rest none = ap (with_byte b) (last_slash front rest none)

-- no slash was found
pub folder_none : (path : List ℕ) → RFindsChar 47 path None → folder_before None ≡ folder_of path
folder_none path finds =
    ap folder_before (sym (no_slash path (λ i low. NoCharPasses-char 47 path i finds (omega arith)
    low)))

-- the last slash was found
pub folder_some : (path : List ℕ) (i j : ℕ) → RFindsChar 47 path (Some (i, j))
    → folder_before (Some (take i path)) ≡ folder_of path
folder_some path i j finds =
    let split = sym (take-append-drop i path)
    ∙ ap (λ (l : List ℕ). take i path ++ l) (drop_at_char 47 path i j finds.1 (omega arith)) in
    ap folder_before (sym (ap before_slash split ∙ last_slash (take i path) (drop j path)
    (λ k low. NoCharPasses-char 47 (drop j path) k finds.0 (omega arith) low)))

-- by whether something stands before it

pub has_more : (b : ℕ) (front : List ℕ) → (length (b ∷ front) == 0) ≡ false
has_more b front = ne_eqb (length (b ∷ front)) 0 (λ none. omega (arith, none))

pub root_front : (front : List ℕ) → (length front == 0) ≡ true
    → folder_before (Some front) ≡ 47 ∷ []
root_front [] empty = refl
root_front (b ∷ front) empty =
    let more : true ≡ false = sym empty ∙ has_more b front in absurd (cc)

pub more_front : (front : List ℕ) → (length front == 0) ≡ false → folder_before (Some front) ≡ front
more_front [] empty = absurd (cc)
more_front (b ∷ front) empty = refl
