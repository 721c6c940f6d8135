-- The stamp that stands behind a blank of a text.
use Rattle.std.proofs.Common.{◌≡◌, ◌+◌, ◌<◌, ℕ, zero, suc, true, false, List, [], ◌∷◌, Some, None}
use Rattle.std.proofs.Common.{length, drop, refl, ap, ◌∙◌, arith}
use Rattle.std.specs.Prelude.{if◌then◌else◌, slice_index}
use Rattle.std.proofs.lemmas.Bool.{false_from_ne_true}
use Rattle.memchr.specs.Find.{IsFirstByte, is_byte2}
use Rattle.mail_base.specs.Blanks.{is_blank}
use Rattle.folder_core.specs.Mbox.{first_some, stamp, stamp_behind}

-- the stamp that stands behind a blank of a text
stamp_behind-blank : (text : List ℕ) (k : ℕ) → k < length text
    → is_blank (slice_index text k) ≡ true
    → ((j : ℕ) → j < k → is_blank (slice_index text j) ≡ false)
    → stamp_behind text ≡ first_some (stamp (drop (suc k) text)) (stamp_behind (drop (suc k) text))
stamp_behind-blank [] k lt at before = absurd (omega arith)
stamp_behind-blank (b ∷ rest) zero lt at before =
    ap (λ t. first_some (if t then stamp rest else None) (stamp_behind rest)) at
stamp_behind-blank (b ∷ rest) (suc k) lt at before =
    ap (λ t. first_some (if t then stamp rest else None) (stamp_behind rest))
    (before 0 (omega arith))
    ∙ stamp_behind-blank rest k (omega arith) at (λ j h. before (suc j) (omega arith))

stamp_behind-no_blank : (text : List ℕ)
    → ((j : ℕ) → j < length text → is_blank (slice_index text j) ≡ false)
    → stamp_behind text ≡ None
stamp_behind-no_blank [] none = refl
stamp_behind-no_blank (b ∷ rest) none =
    ap (λ t. first_some (if t then stamp rest else None) (stamp_behind rest)) (none 0 (omega arith))
    ∙ stamp_behind-no_blank rest (λ j less. none (suc j) (omega arith))

-- by a search for a blank
pub stamp_behind-Some : (text : List ℕ) (k : ℕ) → IsFirstByte (is_byte2 32 9) text (Some k)
    → stamp_behind text ≡ first_some (stamp (drop (k + 1) text)) (stamp_behind (drop (k + 1) text))
stamp_behind-Some text k first =
    let next : suc k ≡ k + 1 = omega arith in
    stamp_behind-blank text k first.0.high first.1
    (λ j less. false_from_ne_true (is_blank (slice_index text j))
    (first.0.before j (omega arith) less))
    ∙ ap (λ n. first_some (stamp (drop n text)) (stamp_behind (drop n text))) next

pub stamp_behind-None : (text : List ℕ) → IsFirstByte (is_byte2 32 9) text None
    → stamp_behind text ≡ None
stamp_behind-None text none =
    stamp_behind-no_blank text
    (λ j less. false_from_ne_true (is_blank (slice_index text j)) (none j (omega arith) less))
