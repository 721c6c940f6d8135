-- Texts that keep their length without the blanks at their ends.
use Rattle.std.proofs.Common.{◌≡◌, ℕ, ◌-◌, ◌≤◌, Bool, true, false, List, [], ◌∷◌, length, refl, ap}
use Rattle.std.proofs.Common.{◌∙◌, length-take-le, length-drop, arith}
use Rattle.std.specs.Prelude.{not, if◌then◌else◌}
use Rattle.std.specs.List.{position_or_len, suffix_len}
use Rattle.std.proofs.lemmas.List.{take_all}
use Rattle.mail_base.specs.Blanks.{is_blank, trimmed, without_blanks}
use Rattle.mail_base.proofs.BlanksLemmas.{without_blanks-drop}

no_longer : (s : List ℕ) → length (without_blanks s) ≤ length s
no_longer s =
    let k = position_or_len (λ b. not (is_blank b)) s in
    omega (arith, ap length (without_blanks-drop s), length-drop k s)

front_stays : (s : List ℕ) → length s ≤ length (without_blanks s) → without_blanks s ≡ s
front_stays [] long = refl
front_stays (b ∷ s) long = by_blank (is_blank b) long
  where
    by_blank : (t : Bool) → length (b ∷ s) ≤ length (if t then without_blanks s else b ∷ s)
        → (if t then without_blanks s else b ∷ s) ≡ b ∷ s
    by_blank true h = absurd (omega (arith, no_longer s, h))
    by_blank false h = refl

-- a text that keeps its length keeps all
pub trimmed_whole : (s : List ℕ) → length s ≤ length (trimmed s) → trimmed s ≡ s
trimmed_whole s long =
    let front = without_blanks s in
    let n = length front - suffix_len is_blank front in
    let below : n ≤ length front = omega arith in
    let size : length (trimmed s) ≡ n = length-take-le n front below in
    let shorter = no_longer s in
    take_all n front (omega (arith, long, size, shorter))
    ∙ front_stays s (omega (arith, long, size, below))
