-- A line tells the same of fields with an LF at its end.
use Rattle.std.proofs.Common.{◌≡◌, ℕ, ◌+◌, ◌<◌, ◌≤◌, ◌==◌, ◌&&◌, ◌||◌, not, Bool, true, false, List}
use Rattle.std.proofs.Common.{[], ◌∷◌, ◌++◌, Some, None, length, take, drop, slice_index, refl, sym}
use Rattle.std.proofs.Common.{ap, ◌∙◌, arith, length-append, subst, cond, ◌⊎◌, inl, inr}
use Rattle.std.specs.Prelude.{if◌then◌else◌, nat_lt}
use Rattle.std.specs.List.{position_or_len}
use Rattle.std.proofs.Math.Bool.{and-false}
use Rattle.std.proofs.lemmas.Bool.{cases_lt, cond-false, cond-true, eq-eqb, le-ltb, lt-ltb, ne_eqb}
use Rattle.std.proofs.lemmas.List.{drop-append-le, get_or_append_left, get_or_push, take-append-le}
use Rattle.std.proofs.lemmas.List.Folds.{position_or_len_push}
use Rattle.std.proofs.lemmas.List.Sums.{prefix_len-le-length}
use Rattle.mail_base.specs.Lines.{colon_at, colon_of, has_feed, is_continuation, is_name_byte}
use Rattle.folder_core.specs.Mbox.{with_feed}
use Rattle.mbox_text.specs.Status.{has}
use Rattle.mbox_text.proofs.StatusLemmas.{IsInk}
use Rattle.mbox_items.proofs.Marks.{fed_new, fed_there}

no_name_byte : ℕ → Bool
no_name_byte b = not (is_name_byte b)

-- the place of a colon does not hang on an LF at the end
colon_fed : (line : List ℕ) → colon_of (line ++ 10 ∷ []) ≡ colon_of line
unfolding no_name_byte
colon_fed line = by_place (cases_lt n (length line))
  where
    n : ℕ
    n = position_or_len no_name_byte line

    push : position_or_len no_name_byte (line ++ 10 ∷ [])
        ≡ cond (n == length line) (length line + 0) n
    push = position_or_len_push no_name_byte line 10

    short : n ≤ length line
    short = prefix_len-le-length (λ b. not (no_name_byte b)) line

    long : length (line ++ 10 ∷ []) ≡ length line + 1
    long = length-append line (10 ∷ [])

    by_place : ((n < length line) ⊎ (length line ≤ n)) → colon_of (line ++ 10 ∷ []) ≡ colon_of line
    by_place (inl found) =
        let other : (n == length line) ≡ false =
        ne_eqb n (length line) (λ e. omega (arith, e, found)) in
        let same : position_or_len no_name_byte (line ++ 10 ∷ []) ≡ n =
        push ∙ cond-false _ _ _ other in
        ap (λ k. colon_at (line ++ 10 ∷ [])
        (cond (nat_lt k (length (line ++ 10 ∷ []))) (Some k) None)) same
        ∙ ap (λ t. colon_at (line ++ 10 ∷ []) (cond t (Some n) None))
        (lt-ltb n (length (line ++ 10 ∷ [])) (omega (arith, found, long)))
        ∙ ap (λ b. if nat_lt 0 n && b == 58 then Some n else None)
        (get_or_append_left line (10 ∷ []) 0 n found)
        ∙ ap (λ t. colon_at line (cond t (Some n) None)) (sym (lt-ltb n (length line) found))
    by_place (inr past) =
        let is : n ≡ length line = omega (arith, past, short) in
        let same : position_or_len no_name_byte (line ++ 10 ∷ []) ≡ length line =
        push ∙ cond-true _ _ _ (eq-eqb n (length line) is) ∙ omega arith in
        ap (λ k. colon_at (line ++ 10 ∷ [])
        (cond (nat_lt k (length (line ++ 10 ∷ []))) (Some k) None)) same
        ∙ ap (λ t. colon_at (line ++ 10 ∷ []) (cond t (Some (length line)) None))
        (lt-ltb (length line) (length (line ++ 10 ∷ [])) (omega (arith, long)))
        ∙ ap (λ b. if nat_lt 0 (length line) && b == 58 then Some (length line) else None)
        (get_or_push line 10 0 (length line) refl)
        ∙ ap (λ t. if t then Some (length line) else None) (and-false (nat_lt 0 (length line)))
        ∙ ap (λ t. colon_at line (cond t (Some n) None))
        (sym (le-ltb n (length line) past))

-- a colon stands in its line
colon_within : (line : List ℕ) (k : ℕ) → colon_of line ≡ Some k → k < length line
unfolding no_name_byte
colon_within line k e = by_place (cases_lt n (length line))
  where
    n : ℕ
    n = position_or_len no_name_byte line

    by_colon : (t : Bool) → n < length line → (if t then Some n else None) ≡ Some k
        → k < length line
    by_colon true less e = let same : n ≡ k = cc in subst (λ m. m < length line) same less
    by_colon false less e = cc

    by_place : ((n < length line) ⊎ (length line ≤ n)) → k < length line
    by_place (inl less) =
        by_colon (nat_lt 0 n && slice_index line n == 58) less
        (sym (ap (λ t. colon_at line (cond t (Some n) None)) (lt-ltb n (length line) less)) ∙ e)
    by_place (inr past) =
        let none : None ≡ Some k =
        sym (ap (λ t. colon_at line (cond t (Some n) None)) (le-ltb n (length line) past)) ∙ e in
        cc

-- What two lines have in common where fields hold a letter.
pub record Alike (letter : ℕ) (line other : List ℕ) : Type 0 where
  pub colon : colon_of line ≡ colon_of other
  pub name : (k : ℕ) → colon_of line ≡ Some k → take k line ≡ take k other
  pub behind : (k : ℕ) → colon_of line ≡ Some k
      → has letter (drop (k + 1) line) ≡ has letter (drop (k + 1) other)
  pub whole : has letter line ≡ has letter other
  pub more : is_continuation line ≡ is_continuation other

pub alike_same : (letter : ℕ) (line : List ℕ) → Alike letter line line
alike_same letter line = record {
  colon = refl;
  name = λ k e. refl;
  behind = λ k e. refl;
  whole = refl;
  more = refl;
}

has_more : (letter : ℕ) (text : List ℕ) → IsInk letter
    → has letter (text ++ 10 ∷ []) ≡ has letter text
has_more letter [] ink = ap (λ t. t || false) ink.no_feed
has_more letter (b ∷ text) ink = ap (λ t. (b == letter) || t) (has_more letter text ink)

more_fed : (line : List ℕ) → 0 < length line
    → is_continuation (line ++ 10 ∷ []) ≡ is_continuation line
more_fed [] some = absurd (omega (arith, some))
more_fed (b ∷ line) some = refl

pub alike_fed : (letter : ℕ) (line : List ℕ) → IsInk letter → 0 < length line
    → Alike letter (with_feed line) line
alike_fed letter line ink some = by_feed (has_feed line) refl
  where
    within : (k : ℕ) → colon_of (line ++ 10 ∷ []) ≡ Some k → k < length line
    within k e = colon_within line k (sym (colon_fed line) ∙ e)

    new : Alike letter (line ++ 10 ∷ []) line
    new = record {
      colon = colon_fed line;
      name = λ k e. take-append-le k line (10 ∷ []) (omega (arith, within k e));
      behind = λ k e. ap (has letter) (drop-append-le (k + 1) line (10 ∷ [])
          (omega (arith, within k e)))
          ∙ has_more letter (drop (k + 1) line) ink;
      whole = has_more letter line ink;
      more = more_fed line some;
    }

    by_feed : (t : Bool) → has_feed line ≡ t → Alike letter (with_feed line) line
    by_feed true e =
        subst (λ l. Alike letter l line) (sym (fed_there line e)) (alike_same letter line)
    by_feed false e = subst (λ l. Alike letter l line) (sym (fed_new line e)) new
