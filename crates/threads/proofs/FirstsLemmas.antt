-- How a table of places grows.
use Rattle.std.proofs.Common.{◌≡◌, ◌∙◌, ℕ, zero, suc, ◌+◌, ◌<◌, Bool, true, false, cond, List, []}
use Rattle.std.proofs.Common.{◌∷◌, Bor, Option, Some, None}
use Rattle.std.proofs.Common.{refl, sym, ap, ⊎_elim, arith, length, get_or, add-one}
use Rattle.std.proofs.lemmas.List.{get_or-map}
use Rattle.std.specs.Prelude.{if◌then◌else◌}
use Rattle.std.specs.Str.{bytes_eq}
use Rattle.std.proofs.lemmas.Bool.{cases_Bool, false_from_ne_true, false≢true}
use Rattle.std.proofs.lemmas.Slice.Eq.{bytes_eq-Decides}
use Rattle.indexmap.specs.IndexMap.{insert_entry}
use Rattle.threads.specs.Firsts.{earlier, first_of, place_in}
use Rattle.threads.specs.Message.{at, no_message, plain_message, plain_messages}
use Rattle.threads.specs.declared.message.Message.{Message}

pub same_place : (a b : ℕ) → Some a ≡ Some b → a ≡ b
same_place a b e = cc

-- how the table tells its texts apart
abbrev pub same_text : Bor (List ℕ) → Bor (List ℕ) → Bool
same_text a b = bytes_eq a.now b.now

pub bytes_same : (a b : List ℕ) → bytes_eq a b ≡ true → a ≡ b
bytes_same a b h = (bytes_eq-Decides a b).0 h

pub bytes_apart : (a b : List ℕ) → (a ≡ b → bytes_eq a b ≡ true)
bytes_apart a b h = (bytes_eq-Decides a b).1 h

pub place_put : (entries : List (Bor (List ℕ) × ℕ)) (k : Bor (List ℕ)) (v : ℕ) (other : List ℕ)
    → place_in (insert_entry same_text entries k v) other
    ≡ (if bytes_eq other k.now then Some v else place_in entries other)
place_put [] k v other = refl
place_put (e ∷ entries) k v other = ⊎_elim
    (λ same.
    ap (λ b. place_in (if b then (e.0, v) ∷ entries else e ∷ insert_entry same_text entries k v)
    other) same
    ∙ ⊎_elim
    (λ found.
    let own : bytes_eq other k.now ≡ true =
    ap (bytes_eq other) (bytes_same k.now e.0.now same) ∙ found in
    ap (λ b. cond b (Some v) (place_in entries other)) found
    ∙ sym (ap (λ b. cond b (Some v) (place_in (e ∷ entries) other)) own))
    (λ missed.
    let own : bytes_eq other k.now ≡ false =
    ap (bytes_eq other) (bytes_same k.now e.0.now same) ∙ missed in
    ap (λ b. cond b (Some v) (place_in entries other)) missed
    ∙ sym (ap (λ b. cond b (Some v) (place_in (e ∷ entries) other)) own
    ∙ ap (λ b. cond b (Some e.1) (place_in entries other)) missed))
    (cases_Bool (bytes_eq other e.0.now)))
    (λ apart.
    ap (λ b. place_in (if b then (e.0, v) ∷ entries else e ∷ insert_entry same_text entries k v)
    other) apart
    ∙ ⊎_elim
    (λ found.
    let own : bytes_eq other k.now ≡ false =
    false_from_ne_true (bytes_eq other k.now) (λ is. false≢true (sym apart
    ∙ bytes_apart k.now e.0.now (sym (bytes_same other k.now is)
    ∙ bytes_same other e.0.now found))) in
    ap (λ b. cond b (Some e.1) (place_in (insert_entry same_text entries k v) other)) found
    ∙ sym (ap (λ b. cond b (Some v) (place_in (e ∷ entries) other)) own
    ∙ ap (λ b. cond b (Some e.1) (place_in entries other)) found))
    (λ missed.
    ap (λ b. cond b (Some e.1) (place_in (insert_entry same_text entries k v) other)) missed
    ∙ place_put entries k v other
    ∙ ap (λ t. if bytes_eq other k.now then Some v else t)
    (sym (ap (λ b. cond b (Some e.1) (place_in entries other)) missed)))
    (cases_Bool (bytes_eq other e.0.now)))
    (cases_Bool (bytes_eq k.now e.0.now))

first_below_by : (is_before : ℕ → ℕ → Bool) (n f : ℕ) (o : Option ℕ) → ((g : ℕ) → o ≡ Some g
    → g < n)
    → earlier is_before o n ≡ Some f → f < suc n
first_below_by is_before n f None more e = omega (arith, same_place n f e)
first_below_by is_before n f (Some g) more e = ⊎_elim
    (λ early. omega (arith, same_place n f (sym (ap (λ b. Some (if b then n else g)) early) ∙ e)))
    (λ late. omega (
      arith,
      same_place g f (sym (ap (λ b. Some (if b then n else g)) late)
          ∙ e),
      more g refl,
    ))
    (cases_Bool (is_before n g))

-- the first of places stands below their number
pub first_below : (is_before : ℕ → ℕ → Bool) (passes : ℕ → Bool) (n f : ℕ)
    → first_of is_before passes n ≡ Some f → f < n
first_below is_before passes zero f e = cc
first_below is_before passes (suc n) f e = ⊎_elim
    (λ pass. first_below_by is_before n f (first_of is_before passes n)
    (first_below is_before passes n)
    (sym (ap (λ b. if b then earlier is_before (first_of is_before passes n) n
    else first_of is_before passes n) pass) ∙ e))
    (λ fail. omega (
      arith,
      first_below is_before passes n f
          (sym (ap (λ b. if b then earlier is_before (first_of is_before passes n) n
          else first_of is_before passes n) fail) ∙ e),
    ))
    (cases_Bool (passes n))

-- the message at a place, as contracts see it
pub at_place : (messages : List Message) (m : Message) (place : ℕ) → place < length messages
    → m ≡ get_or messages place m → at (plain_messages messages) place ≡ plain_message m
at_place messages m place lt e =
    get_or-map plain_message messages place m no_message lt ∙ ap plain_message (sym e)

-- a function of places, one further
pub first_more : (is_before : ℕ → ℕ → Bool) (passes : ℕ → Bool) (n : ℕ)
    → first_of is_before passes (n + 1)
    ≡ (if passes n then earlier is_before
    (first_of is_before passes n) n else first_of is_before passes n)
first_more is_before passes n = rw add-one
