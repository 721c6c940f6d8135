-- What follows a text that stands at the front.
use Rattle.std.proofs.Common.{◌≡◌, ℕ, ◌==◌, true, List, [], ◌∷◌, ◌++◌, length, drop, Some, None}
use Rattle.std.proofs.Common.{refl, ap, ◌∙◌, eq-eqb, ◌≤◌, Bool, false, take, sym, arith}
use Rattle.std.proofs.Common.{append_assoc, take-append-drop}
use Rattle.std.specs.Prelude.{if◌then◌else◌}
use Rattle.std.proofs.lemmas.Bool.{and_parts, eqb-true}
use Rattle.std.specs.Str.{bytes_eq}
use Rattle.std.proofs.lemmas.List.{take_at, drop_at, length-take}
use Rattle.mail_base.specs.Fronts.{behind_text}

-- bytes are equal to themselves
pub bytes_eq_same : (s : List ℕ) → bytes_eq s s ≡ true
bytes_eq_same [] = refl
bytes_eq_same (b ∷ s) = rw (eq-eqb b b refl) (bytes_eq_same s)

pub behind_text_front : (front rest : List ℕ) → behind_text front (front ++ rest) ≡ Some rest
behind_text_front front rest =
    ap (λ s. if bytes_eq s front then Some (drop (length front) (front ++ rest)) else None)
    (take_at front rest (length front) refl)
    ∙ ap (λ t. if t then Some (drop (length front) (front ++ rest)) else None) (bytes_eq_same front)
    ∙ ap Some (drop_at front rest (length front) refl)

-- bytes that are equal are the same
bytes_eq_true : (s t : List ℕ) → bytes_eq s t ≡ true → s ≡ t
bytes_eq_true [] [] e = refl
bytes_eq_true [] (c ∷ t) e = cc
bytes_eq_true (b ∷ s) [] e = cc
bytes_eq_true (b ∷ s) (c ∷ t) e =
    let both = and_parts (b == c) (bytes_eq s t) e in
    let first : b ≡ c = eqb-true b c both.0 in
    let rest : s ≡ t = bytes_eq_true s t both.1 in
    cc

if_some : (t : Bool) (x y : List ℕ) → (if t then Some x else None) ≡ Some y → (t ≡ true) × (x ≡ y)
if_some true x y e = (refl, (cc))
if_some false x y e = absurd (cc)

-- what follows a text stays in front of more
pub behind_text-append : (front s rest more : List ℕ) → behind_text front s ≡ Some rest
    → behind_text front (s ++ more) ≡ Some (rest ++ more)
behind_text-append front s rest more e =
    let n = length front in
    let parts = if_some (bytes_eq (take n s) front) (drop n s) rest e in
    let same : take n s ≡ front = bytes_eq_true (take n s) front parts.0 in
    let within : n ≤ length s = omega (arith, length-take n s, ap length same) in
    let whole : s ≡ front ++ rest =
    sym (take-append-drop n s) ∙ ap (λ l. l ++ drop n s) same ∙ ap (λ l. front ++ l) parts.1 in
    ap (λ l. behind_text front (l ++ more)) whole
    ∙ ap (behind_text front) (append_assoc front rest more)
    ∙ behind_text_front front (rest ++ more)
