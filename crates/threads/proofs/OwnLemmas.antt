-- Messages that are each the first holder of their ids.
use Rattle.std.proofs.Common.{◌≡◌, ◌∙◌, ◌+◌, ℕ, Bool, false, List, Option, Some, None}
use Rattle.std.proofs.Common.{Result, Ok, Err, IfOk, OnOk, ⊎_elim, ap, arith, is_some, refl, sym}
use Rattle.std.specs.Borrow.{Bor}
use Rattle.std.specs.Prelude.{if◌then◌else◌}
use Rattle.std.specs.Str.{bytes_eq}
use Rattle.std.proofs.lemmas.Bool.{cases_Bool, cases_lt}
use Rattle.std.proofs.lemmas.Bool.Decides.{Decides-eqb}
use Rattle.threads.specs.Firsts.{earlier, place_in}
use Rattle.threads.specs.Inner.{HoldOwn}
use Rattle.threads.specs.Links.{duplicated, other_than}
use Rattle.threads.specs.Message.{at, plain_messages}
use Rattle.threads.specs.declared.message.Message.{Message}
use Rattle.threads.proofs.FirstsLemmas.{bytes_apart, bytes_same}

other_self : (place : ℕ) → other_than place (Some place) ≡ None
other_self place = ap (λ b. if b then None else Some place) ((Decides-eqb place place).1 refl)

-- who is the first holder of its id follows no other that has it
pub own_none : (find : List ℕ → Option ℕ) (place : ℕ) (own : Option (List ℕ))
    → ((id : List ℕ) → own ≡ Some id → find id ≡ Some place) → duplicated find place own ≡ None
own_none find place None first = refl
own_none find place (Some id) first = ap (other_than place) (first id refl) ∙ other_self place

same_text : (a b : List ℕ) → Some a ≡ Some b → a ≡ b
same_text a b e = cc

no_first : (o : Option ℕ) (p : ℕ) → is_some o ≡ false → o ≡ Some p → ⊥
no_first None p none e = cc
no_first (Some q) p none e = cc

none_first : (o : Option ℕ) → is_some o ≡ false → o ≡ None
none_first None none = refl
none_first (Some q) none = cc

module _ (messages : List Message) (old new : List (Bor (List ℕ) × ℕ)) (place : ℕ) where
  -- one further
  pub own_more : ((id : List ℕ) → (at (plain_messages messages) place).message_id ≡ Some id
      → place_in new id ≡ Some place)
      → ((id : List ℕ) (p : ℕ) → place_in old id ≡ Some p → place_in new id ≡ Some p)
      → HoldOwn messages old place → HoldOwn messages new (place + 1)
  own_more here keeps own = λ p id lt is. ⊎_elim
      (λ below. keeps id p (own p id below is))
      (λ le.
      let same : p ≡ place = omega (arith, lt, le) in
      here id (ap (λ q. (at (plain_messages messages) q).message_id) (sym same) ∙ is)
      ∙ ap Some (sym same))
      (cases_lt p place)

  -- the same, where the message has an id and takes its place in the table
  pub own_put : {E : Type 0} (is_before : ℕ → ℕ → Bool) (text : List ℕ) (result : Result Bool E)
      → IfOk result (λ again. again ≡ is_some (place_in old text))
      → OnOk result ((other : List ℕ) → place_in new other
      ≡ (if bytes_eq other text then earlier is_before (place_in old other) place
      else place_in old other))
      → (at (plain_messages messages) place).message_id ≡ Some text
      → IfOk result (λ again. again ≡ false → HoldOwn messages old place
      → HoldOwn messages new (place + 1))
  own_put is_before text (Err e) again put here = tt
  own_put is_before text (Ok r) again put here = λ no.
      let none : is_some (place_in old text) ≡ false = sym again ∙ no in
      own_more
      (λ id is.
      ap (place_in new) (same_text id text (sym is ∙ here)) ∙ put text
      ∙ ap (λ b. if b then earlier is_before (place_in old text) place else place_in old text)
      (bytes_apart text text refl)
      ∙ ap (λ o. earlier is_before o place) (none_first (place_in old text) none))
      (λ id p e.
      let apart : bytes_eq id text ≡ false = ⊎_elim
      (λ same. absurd (no_first (place_in old text) p none
      (ap (place_in old) (sym (bytes_same id text same)) ∙ e)))
      (λ other. other)
      (cases_Bool (bytes_eq id text)) in
      put id
      ∙ ap (λ b. if b then earlier is_before (place_in old id) place else place_in old id) apart
      ∙ e)
