-- How a field goes on in the lines behind its first.
use Rattle.std.proofs.Common.{◌≡◌, ◌∙◌, ◌==◌, ℕ, ◌+◌, ◌<◌, ◌≤◌, Bool, true, false, List, [], ◌∷◌}
use Rattle.std.proofs.Common.{◌++◌, length, refl, sym, ap, arith}
use Rattle.std.proofs.lemmas.Bool.{false≢true}
use Rattle.std.proofs.lemmas.List.{length-append}
use Rattle.bstr.specs.Text.{lines_of}
use Rattle.bstr.proofs.lemmas.RestLemmas.{concat-lines_of}
use Rattle.std.specs.Prelude.{if◌then◌else◌}
use Rattle.std.specs.List.{concat}
use Rattle.mail_base.specs.Blanks.{is_blank, without_blanks}
use Rattle.mail_base.specs.Lines.{is_continuation}

without_blanks_twice_if : (t : Bool) (b : ℕ) (rest : List ℕ) → is_blank b ≡ t
    → without_blanks (without_blanks rest) ≡ without_blanks rest
    → without_blanks (if t then without_blanks rest else b ∷ rest)
    ≡ (if t then without_blanks rest else b ∷ rest)
without_blanks_twice_if true b rest is more = more
without_blanks_twice_if false b rest is more = rw is refl

-- a text without blanks at its front has none there
pub without_blanks_twice : (s : List ℕ) → without_blanks (without_blanks s) ≡ without_blanks s
without_blanks_twice [] = refl
without_blanks_twice (b ∷ rest) =
    without_blanks_twice_if (is_blank b) b rest refl (without_blanks_twice rest)

-- blanks at the front of a text may go before more stands behind it
pub without_blanks_front : (s more : List ℕ)
    → without_blanks (without_blanks s ++ more) ≡ without_blanks (s ++ more)
without_blanks_front [] more = refl
without_blanks_front (b ∷ s) more = by_blank (is_blank b) refl (without_blanks_front s more)
  where
    by_blank : (t : Bool) → is_blank b ≡ t
        → without_blanks (without_blanks s ++ more) ≡ without_blanks (s ++ more)
        → without_blanks ((if t then without_blanks s else b ∷ s) ++ more)
        ≡ (if t then without_blanks (s ++ more) else b ∷ s ++ more)
    by_blank true e h = h
    by_blank false e h = rw e refl

pub has_bytes : (s : List ℕ) → (length s == 0) ≡ false → 0 < length s
has_bytes [] none = absurd (false≢true (sym none))
has_bytes (b ∷ rest) none = omega arith

pub continuation_has_bytes : (line : List ℕ) → is_continuation line ≡ true → 0 < length line
continuation_has_bytes [] is = absurd (false≢true is)
continuation_has_bytes (b ∷ rest) is = omega arith

pub field_has_bytes : (line : List ℕ) (k : ℕ) → k < length line → 0 < length line
field_has_bytes line k within = omega (arith, within)

-- what stands behind the first of some lines is shorter than they are
pub behind_is_shorter : (text behind line : List ℕ) (lines rest : List (List ℕ))
    → length (concat lines) ≤ length text
    → lines ≡ line ∷ rest → lines_of behind ≡ rest → 0 < length line → length behind < length text
behind_is_shorter text behind line lines rest within step are some =
    let sum : length (concat lines) ≡ length line + length behind =
    ap (λ ls. length (concat ls)) step ∙ length-append line (concat rest)
    ∙ ap (λ ls. length line + length (concat ls)) (sym are)
    ∙ ap (λ s. length line + length s) (concat-lines_of behind) in
    omega (arith, sum, within, some)

shorter : (s : List ℕ) → length (without_blanks s) ≤ length s
shorter [] = omega arith
shorter (b ∷ rest) = shorter_if (is_blank b) b rest (shorter rest)
  where
    shorter_if : (t : Bool) (b : ℕ) (rest : List ℕ) → length (without_blanks rest) ≤ length rest
        → length (if t then without_blanks rest else b ∷ rest) ≤ length (b ∷ rest)
    shorter_if true b rest less = omega (arith, less)
    shorter_if false b rest less = omega arith

front_if : (t : Bool) (b : ℕ) (rest more : List ℕ) → is_blank b ≡ t
    → (if t then without_blanks rest else b ∷ rest) ≡ b ∷ rest
    → (if t then without_blanks (rest ++ more) else b ∷ rest ++ more) ≡ b ∷ rest ++ more
front_if true b rest more is none =
    let long : length (b ∷ rest) ≤ length rest = omega (arith, ap length none, shorter rest) in
    absurd (omega (arith, long))
front_if false b rest more is none = refl

-- what has no blanks at its front has none where more stands behind it
pub front_stays : (s more : List ℕ) → without_blanks s ≡ s → 0 < length s
    → without_blanks (s ++ more) ≡ s ++ more
front_stays [] more none some = absurd (omega (arith, some))
front_stays (b ∷ rest) more none some = front_if (is_blank b) b rest more refl none
