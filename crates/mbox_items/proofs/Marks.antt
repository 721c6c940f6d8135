-- An LF at the end of a line makes no postmark and takes none away.
use Rattle.std.proofs.Common.{◌≡◌, ℕ, suc, ◌-◌, ◌<◌, Bool, true, false, List, [], ◌∷◌, ◌++◌, None}
use Rattle.std.proofs.Common.{length, take, drop, slice_index, refl, sym, ap, ◌∙◌, arith, ◌⊎◌, inl}
use Rattle.std.proofs.Common.{inr, length-append, length-take-le}
use Rattle.std.specs.Prelude.{codes, if◌then◌else◌, is_some}
use Rattle.std.specs.Str.{bytes_eq}
use Rattle.std.proofs.Math.Seq.{drop-append_seam, take-append_seam}
use Rattle.std.proofs.lemmas.Bool.{or_cases}
use Rattle.std.proofs.lemmas.Slice.Eq.{bytes_eq-Decides}
use Rattle.mail_base.specs.Lines.{has_feed, is_empty_line, without_feed}
use Rattle.folder_core.specs.Mbox.{is_postmark, postmark, stamp_behind, with_feed}
use Rattle.mbox_text.proofs.FedLines.{fed_more, fed_same}
use Rattle.mbox_text.proofs.RegionsLemmas.{not_mark}

pub true_false : ◌≡◌ {A = Bool} true false → ⊥
true_false e = cc

-- a text that ends in no LF stays without one
pub feed_goes : (s : List ℕ) → has_feed s ≡ false → without_feed s ≡ s
feed_goes s none = ap (λ t. if t then take (length s - 1) s else s) none

-- an LF goes from the end
pub feed_off : (s : List ℕ) → without_feed (s ++ 10 ∷ []) ≡ s
feed_off s =
    let last : length (s ++ 10 ∷ []) - 1 ≡ length s =
    omega (arith, length-append s (10 ∷ [])) in
    ap (λ n. if bytes_eq (drop n (s ++ 10 ∷ [])) (codes "\n") then take n (s ++ 10 ∷ [])
    else s ++ 10 ∷ []) last
    ∙ ap (λ l. if bytes_eq l (codes "\n") then take (length s) (s ++ 10 ∷ [])
    else s ++ 10 ∷ []) (drop-append_seam s (10 ∷ []))
    ∙ take-append_seam s (10 ∷ [])

-- a text that ends in no LF ends in none behind its first five bytes
feed_behind : (a b c d e : ℕ) (rest : List ℕ) → has_feed (a ∷ b ∷ c ∷ d ∷ e ∷ rest) ≡ false
    → without_feed rest ≡ rest
feed_behind a b c d e [] none = refl
feed_behind a b c d e (x ∷ more) none =
    let line = a ∷ b ∷ c ∷ d ∷ e ∷ x ∷ more in
    let same : length line - 1 ≡ suc (suc (suc (suc (suc (length (x ∷ more) - 1))))) =
    omega arith in
    feed_goes (x ∷ more)
    (sym (ap (λ n. bytes_eq (drop n line) (codes "\n")) same) ∙ none)

-- a text that ends in LF stays
pub fed_there : (line : List ℕ) → has_feed line ≡ true → with_feed line ≡ line
fed_there [] e = absurd (true_false (sym e))
fed_there (b ∷ line) e =
    let s = b ∷ line in
    let short : length (without_feed s) ≡ length (take (length s - 1) s) =
    ap (λ t. length (if t then take (length s - 1) s else s)) e in
    fed_same s (λ same. omega (arith, short, same, length-take-le (length s - 1) s (omega arith)))

-- any other gets one
pub fed_new : (line : List ℕ) → has_feed line ≡ false → with_feed line ≡ line ++ 10 ∷ []
fed_new line e = fed_more line (ap length (feed_goes line e))

mark_more : (line : List ℕ) → has_feed line ≡ false
    → is_postmark (line ++ 10 ∷ []) ≡ is_postmark line
unfolding postmark
mark_more (a ∷ b ∷ c ∷ d ∷ e ∷ rest) none =
    ap (λ l. is_some (if bytes_eq (a ∷ b ∷ c ∷ d ∷ e ∷ []) (codes "From ") then stamp_behind l
    else None)) (feed_off rest ∙ sym (feed_behind a b c d e rest none))
mark_more (a ∷ b ∷ c ∷ d ∷ []) none =
    not_mark (a ∷ b ∷ c ∷ d ∷ 10 ∷ []) (λ e. omega (arith, ap (λ l. slice_index l 4) e))
    ∙ sym (not_mark (a ∷ b ∷ c ∷ d ∷ []) (λ e. omega (arith, ap length e)))
mark_more (a ∷ b ∷ c ∷ []) none =
    not_mark (a ∷ b ∷ c ∷ 10 ∷ []) (λ e. omega (arith, ap length e))
    ∙ sym (not_mark (a ∷ b ∷ c ∷ []) (λ e. omega (arith, ap length e)))
mark_more (a ∷ b ∷ []) none =
    not_mark (a ∷ b ∷ 10 ∷ []) (λ e. omega (arith, ap length e))
    ∙ sym (not_mark (a ∷ b ∷ []) (λ e. omega (arith, ap length e)))
mark_more (a ∷ []) none =
    not_mark (a ∷ 10 ∷ []) (λ e. omega (arith, ap length e))
    ∙ sym (not_mark (a ∷ []) (λ e. omega (arith, ap length e)))
mark_more [] none =
    not_mark (10 ∷ []) (λ e. omega (arith, ap length e))
    ∙ sym (not_mark [] (λ e. omega (arith, ap length e)))

pub mark_fed : (line : List ℕ) → is_postmark (with_feed line) ≡ is_postmark line
mark_fed line = by_feed (has_feed line) refl
  where
    by_feed : (t : Bool) → has_feed line ≡ t → is_postmark (with_feed line) ≡ is_postmark line
    by_feed true e = ap is_postmark (fed_there line e)
    by_feed false e = ap is_postmark (fed_new line e) ∙ mark_more line e

-- an empty line is LF or CR LF
pub empty_is : (line : List ℕ) → is_empty_line line ≡ true
    → (line ≡ codes "\n") ⊎ (line ≡ codes "\r\n")
empty_is line empty = by_line (or_cases _ _ empty)
  where
    by_line : (bytes_eq line (codes "\n") ≡ true) ⊎ (bytes_eq line (codes "\r\n") ≡ true)
        → (line ≡ codes "\n") ⊎ (line ≡ codes "\r\n")
    by_line (inl is) = inl ((bytes_eq-Decides line (codes "\n")).0 is)
    by_line (inr is) = inr ((bytes_eq-Decides line (codes "\r\n")).0 is)

-- it ends in LF
pub empty_there : (line : List ℕ) → is_empty_line line ≡ true → has_feed line ≡ true
empty_there line empty = by_line (empty_is line empty)
  where
    by_line : (line ≡ codes "\n") ⊎ (line ≡ codes "\r\n") → has_feed line ≡ true
    by_line (inl is) = ap has_feed is
    by_line (inr is) = ap has_feed is

-- and is no postmark
pub empty_no_mark : (line : List ℕ) → is_empty_line line ≡ true → is_postmark line ≡ false
empty_no_mark line empty = by_line (empty_is line empty)
  where
    by_line : (line ≡ codes "\n") ⊎ (line ≡ codes "\r\n") → is_postmark line ≡ false
    by_line (inl is) =
        ap is_postmark is ∙ not_mark (codes "\n") (λ e. omega (arith, ap length e))
    by_line (inr is) =
        ap is_postmark is ∙ not_mark (codes "\r\n") (λ e. omega (arith, ap length e))

pub feed_no_mark : is_postmark (10 ∷ []) ≡ false
feed_no_mark = empty_no_mark (10 ∷ []) refl

-- a postmark is no empty line
pub mark_no_empty : (line : List ℕ) → is_postmark line ≡ true → is_empty_line line ≡ false
mark_no_empty line mark = by_empty (is_empty_line line) refl
  where
    by_empty : (t : Bool) → is_empty_line line ≡ t → is_empty_line line ≡ false
    by_empty true e = absurd (true_false (sym mark ∙ empty_no_mark line e))
    by_empty false e = e

-- a text whose last byte is LF stays
pub fed_ends : (line : List ℕ) → 0 < length line → slice_index line (length line - 1) ≡ 10
    → with_feed line ≡ line
fed_ends line some feed = fed_there line (ends_there line some feed)
  where
    ends_there : (s : List ℕ) → 0 < length s → slice_index s (length s - 1) ≡ 10
        → has_feed s ≡ true
    ends_there [] some feed = absurd (omega (arith, some))
    ends_there (b ∷ []) some feed = ap (λ c. has_feed (c ∷ [])) feed
    ends_there (b ∷ c ∷ s) some feed =
        let same : length (b ∷ c ∷ s) - 1 ≡ suc (length (c ∷ s) - 1) = omega arith in
        ap (λ n. bytes_eq (drop n (b ∷ c ∷ s)) (codes "\n")) same
        ∙ ends_there (c ∷ s) (omega arith) (sym (ap (slice_index (b ∷ c ∷ s)) same) ∙ feed)
