-- Texts without the blanks at their ends, by the places of their other bytes.
use Rattle.std.proofs.Common.{◌≡◌, ℕ, suc, ◌+◌, ◌-◌, Bool, true, false, not, cond, List, [], ◌∷◌}
use Rattle.std.proofs.Common.{length, drop, Some, None, get_or, refl, ap, ◌∙◌, arith}
use Rattle.std.specs.Prelude.{if◌then◌else◌}
use Rattle.std.specs.List.{position_or_len, suffix_len}
use Rattle.std.proofs.lemmas.Bool.{not-true, not-false}
use Rattle.std.proofs.lemmas.List.Sums.{suffix_len_is}
use Rattle.mail_base.specs.Lines.{is_continuation}
use Rattle.mail_base.specs.Places.{IsLastPlace}
use Rattle.mail_base.specs.Blanks.{is_blank, without_blanks}

-- where the text begins without its blanks
pub without_blanks-drop : (s : List ℕ)
    → without_blanks s ≡ drop (position_or_len (λ b. not (is_blank b)) s) s
without_blanks-drop [] = refl
without_blanks-drop (b ∷ rest) = by_blank (is_blank b) (without_blanks-drop rest)
  where
    by_blank : (t : Bool)
        → without_blanks rest ≡ drop (position_or_len (λ c. not (is_blank c)) rest) rest
        → (if t then without_blanks rest else b ∷ rest)
        ≡ drop (cond (not (not t)) (1 + position_or_len (λ c. not (is_blank c)) rest) 0) (b ∷ rest)
    by_blank true h =
        let next : suc (position_or_len (λ c. not (is_blank c)) rest)
        ≡ 1 + position_or_len (λ c. not (is_blank c)) rest =
        omega arith in
        h ∙ ap (λ k. drop k (b ∷ rest)) next
    by_blank false h = refl

-- how long a text is without its last blanks
pub solid_len_some : (s : List ℕ) (k : ℕ) → IsLastPlace (λ b. not (is_blank b)) s (Some k)
    → length s - suffix_len is_blank s ≡ k + 1
solid_len_some s k some =
    let same : k + 1 - 1 ≡ k = omega arith in
    let at : is_blank (get_or s (k + 1 - 1) 0) ≡ false =
    ap (λ n. is_blank (get_or s n 0)) same ∙ not-true _ (some.0.1 0) in
    let rest =
    suffix_len_is is_blank s (k + 1) 0 (omega (arith, some.0.0))
    (λ j low below. not-false _ (some.1 j 0 (omega arith) below)) (λ past. at) in
    omega (arith, some.0.0)

pub solid_len_none : (s : List ℕ) → IsLastPlace (λ b. not (is_blank b)) s None
    → length s - suffix_len is_blank s ≡ 0
solid_len_none s none =
    let all =
    suffix_len_is is_blank s 0 0 (omega arith)
    (λ j low below. not-false _ (none j 0 (omega arith) below))
    (λ past. absurd (omega arith)) in
    omega arith

-- a text that begins with no blank stays
pub without_blanks_stay : (s : List ℕ) → not (is_continuation s) ≡ true → without_blanks s ≡ s
without_blanks_stay [] front = refl
without_blanks_stay (b ∷ s) front = rw (not-true (is_blank b) front) refl
