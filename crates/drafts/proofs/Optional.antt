-- A field that may be missing, and what is read behind it.
use Rattle.std.proofs.Common.{◌≡◌, ◌⊎◌, ℕ, true, false, List, [], ◌∷◌, ◌++◌, Option}
use Rattle.std.proofs.Common.{Some, None, Result, Ok, Err, inl, inr, ⊎_elim, refl, sym, ap, ◌∙◌}
use Rattle.std.proofs.Common.{append_assoc}
use Rattle.std.specs.Prelude.{if◌then◌else◌}
use Rattle.std.proofs.lemmas.Bool.{cases_Bool}
use Rattle.drafts.specs.Reading.{◌>>=◌, begins_as, present}
use Rattle.drafts.proofs.Readers.{Any, Both, IsReader, Stops, after, after_reads}

-- a piece and what stands behind it, or what stands there without it
abbrev pub Perhaps : {B : Type 0} → (List ℕ → List ℕ → Type 0)
    → (Option (List ℕ) → B → List ℕ → Type 0) → B → List ℕ → Type 0
Perhaps S T b w = Both S (λ a. T (Some a)) b w ⊎ T None b w

-- a piece that is read where the text begins as the name does, and then another reading
abbrev pub perhaps : {B : Type 0} → List ℕ → (List ℕ → Result (List ℕ × List ℕ) ℕ)
    → (Option (List ℕ) → List ℕ → Result (B × List ℕ) ℕ) → List ℕ → Result (B × List ℕ) ℕ
perhaps name r k s =
    (if begins_as name s then r s >>= present else Ok (None, s)) >>= (λ x. k x.0 x.1)

begins_same : (name front : List ℕ) (b : ℕ) (later more : List ℕ)
    → begins_as name (front ++ b ∷ later) ≡ begins_as name (front ++ b ∷ more)
begins_same [] front b later more = refl
begins_same (c ∷ cs) [] b later more = refl
begins_same (c ∷ cs) (x ∷ front) b later more = refl

is_present : {B : Type 0} (k : Option (List ℕ) → List ℕ → Result (B × List ℕ) ℕ)
    (o : Result (List ℕ × List ℕ) ℕ)
    → ((o >>= present) >>= (λ x. k x.0 x.1)) ≡ (o >>= (λ x. k (Some x.0) x.1))
is_present k (Ok x) = refl
is_present k (Err left) = refl

module _ {B : Type 0} (E : List ℕ → Type 0) (name : List ℕ) (S : List ℕ → List ℕ → Type 0)
    (T : Option (List ℕ) → B → List ℕ → Type 0) (r : List ℕ → Result (List ℕ × List ℕ) ℕ)
    (k : Option (List ℕ) → List ℕ → Result (B × List ℕ) ℕ)
    (first : IsReader Any S r) (second : (o : Option (List ℕ)) → IsReader E (T o) (k o))
    (begins : (a w rest : List ℕ) → S a w → begins_as name (w ++ rest) ≡ true)
    (apart : (b : B) (w rest : List ℕ) → T None b w → begins_as name (w ++ rest) ≡ false) where
  there : (s : List ℕ) → begins_as name s ≡ true
      → perhaps name r k s ≡ after r (λ a. k (Some a)) s
  there s h =
      ap (λ t. (if t then r s >>= present else Ok (None, s)) >>= (λ x. k x.0 x.1)) h
      ∙ is_present k (r s)

  missing : (s : List ℕ) → begins_as name s ≡ false → perhaps name r k s ≡ k None s
  missing s h = ap (λ t. (if t then r s >>= present else Ok (None, s)) >>= (λ x. k x.0 x.1)) h

  both_read : IsReader E (Both S (λ a. T (Some a))) (after r (λ a. k (Some a)))
  both_read = after_reads E S (λ a. T (Some a)) r (λ a. k (Some a)) first (λ a. second (Some a))

  perhaps_sound : (s rest : List ℕ) (b : B) → perhaps name r k s ≡ Ok (b, rest)
      → (w : List ℕ) × (s ≡ w ++ rest) × Perhaps S T b w
  perhaps_sound s rest b h = ⊎_elim
      (λ is.
      let p = both_read.sound s rest b (sym (there s is) ∙ h) in (p.0, p.1, inl p.2))
      (λ other.
      let p = (second None).sound s rest b (sym (missing s other) ∙ h) in (p.0, p.1, inr p.2))
      (cases_Bool (begins_as name s))

  perhaps_complete : (b : B) (w rest : List ℕ) → E rest → Perhaps S T b w
      → perhaps name r k (w ++ rest) ≡ Ok (b, rest)
  perhaps_complete b w rest e (inl both) =
      let parts : begins_as name (w ++ rest) ≡ true =
      ap (λ (l : List ℕ). begins_as name (l ++ rest)) both.whole
      ∙ ap (begins_as name) (append_assoc both.front both.back rest)
      ∙ begins both.head both.front (both.back ++ rest) both.first in
      there (w ++ rest) parts ∙ both_read.complete b w rest e both
  perhaps_complete b w rest e (inr alone) =
      missing (w ++ rest) (apart b w rest alone) ∙ (second None).complete b w rest e alone

  perhaps_stops : (s : List ℕ) (left : ℕ) → perhaps name r k s ≡ Err left
      → Stops (Perhaps S T) (perhaps name r k) s left
  perhaps_stops s left h = ⊎_elim
      (λ is.
      let p = both_read.stops s left (sym (there s is) ∙ h) in record {
        front = p.front;
        rest = p.rest;
        whole = p.whole;
        size = p.size;
        value = p.value;
        tail = p.tail;
        begins = inl p.begins;
        fixed = λ b later more e.
            there (p.front ++ b ∷ more)
            (begins_same name p.front b more later
            ∙ ap (λ (l : List ℕ). begins_as name (p.front ++ l)) (sym e)
            ∙ ap (begins_as name) (sym p.whole) ∙ is)
            ∙ p.fixed b later more e;
      })
      (λ other.
      let p = (second None).stops s left (sym (missing s other) ∙ h) in record {
        front = p.front;
        rest = p.rest;
        whole = p.whole;
        size = p.size;
        value = p.value;
        tail = p.tail;
        begins = inr p.begins;
        fixed = λ b later more e.
            missing (p.front ++ b ∷ more)
            (begins_same name p.front b more later
            ∙ ap (λ (l : List ℕ). begins_as name (p.front ++ l)) (sym e)
            ∙ ap (begins_as name) (sym p.whole) ∙ other)
            ∙ p.fixed b later more e;
      })
      (cases_Bool (begins_as name s))

  -- a reading that may find a field or none, and what stands behind it
  pub perhaps_reads : IsReader E (Perhaps S T) (perhaps name r k)
  perhaps_reads = record {
    value = (second None).value;
    piece = (second None).piece;
    some = inr (second None).some;
    sound = perhaps_sound;
    complete = perhaps_complete;
    stops = perhaps_stops;
  }
