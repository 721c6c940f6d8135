-- Lines of a text of which some are left out, and the LF that the last one may lack.
use Rattle.std.proofs.Common.{◌≡◌, ◌≢◌, ℕ, zero, suc, ◌+◌, ◌-◌, ◌<◌, ◌≤◌, Bool, true, false}
use Rattle.std.proofs.Common.{List, [], ◌∷◌, ◌++◌, length, take}
use Rattle.std.proofs.Common.{drop, slice_index, refl, sym, ap, not}
use Rattle.std.proofs.Common.{subst, ◌∙◌, ◌⊎◌, ◌==◌, arith, inl, inr, length-append, length-drop}
use Rattle.std.proofs.Common.{append_assoc, append-nil, length-take-le}
use Rattle.std.proofs.Math.Bool.{and-true}
use Rattle.std.proofs.Math.Seq.{drop-append-add}
use Rattle.std.proofs.lemmas.Bool.{cases_lt, eq-eqb, eqb-true}
use Rattle.std.proofs.lemmas.List.{get_or_append_left, get_or_push}
use Rattle.std.proofs.lemmas.List.Folds.{list_all_at}
use Rattle.std.specs.Prelude.{codes, if◌then◌else◌}
use Rattle.std.specs.List.{concat, list_all}
use Rattle.std.specs.Str.{bytes_eq}
use Rattle.bstr.specs.Text.{line_len, lines_of}
use Rattle.bstr.proofs.lemmas.LineLemmas.{EndsLine, line_len-bounds, lines-nil, lines-step}
use Rattle.mail_base.specs.Lines.{after_block, has_feed, header_block}
use Rattle.mail_base.specs.Lines.{is_empty_line, without_feed}
use Rattle.mail_base.proofs.LinesLemmas.{IsLine, first_ends, first_line, line_in_front, one_line}
use Rattle.folder_core.specs.Mbox.{with_feed}

true_false : ◌≡◌ {A = Bool} true false → ⊥
true_false e = cc

-- the lines, each but the last ended by LF
abbrev pub AreLines : List (List ℕ) → Type 0
AreLines [] = Unit {0}
AreLines (line ∷ lines) = IsLine line × (0 < length lines → EndsLine line) × AreLines lines

-- the lines, each ended by LF
abbrev pub AreEnded : List (List ℕ) → Type 0
AreEnded [] = Unit {0}
AreEnded (line ∷ lines) = IsLine line × EndsLine line × AreEnded lines

-- the last line with the LF that it may lack
abbrev pub fed : List (List ℕ) → List (List ℕ)
fed [] = []
fed (line ∷ []) = with_feed line ∷ []
fed (line ∷ next ∷ lines) = line ∷ fed (next ∷ lines)

some_left : (s line : List ℕ) (lines : List (List ℕ)) → lines_of s ≡ line ∷ lines → 0 < length s
some_left [] line lines e = cc (lines-nil)
some_left (b ∷ s) line lines e = omega arith

-- what more lines follow ends in LF
ends_before : (s : List ℕ) (lines : List (List ℕ)) → 0 < length s
    → lines_of (drop (line_len s) s) ≡ lines → 0 < length lines → EndsLine (take (line_len s) s)
ends_before s [] some e more = absurd (omega (arith, more))
ends_before s (line ∷ lines) some e more =
    let left = some_left (drop (line_len s) s) line lines e in
    first_ends s (omega (arith, left, length-drop (line_len s) s))

-- the lines of a text are such
pub are_lines : (f : ℕ) (s : List ℕ) → length s ≤ f → AreLines (lines_of s)
are_lines f [] less = subst AreLines (sym lines-nil) tt
are_lines zero (b ∷ s) less = absurd (omega (arith, less))
are_lines (suc f) (b ∷ r) less =
    let s = b ∷ r in
    let bounds = line_len-bounds s (omega arith) in
    subst AreLines (sym (lines-step s (omega arith))) (
      first_line s (omega arith),
      ends_before s (lines_of (drop (line_len s) s)) (omega arith) refl,
      are_lines f (drop (line_len s) s) (omega (arith, less, bounds.0, length-drop (line_len s) s)),
    )

-- what is ended are the lines of its bytes
pub lines_ended : (lines : List (List ℕ)) → AreEnded lines → lines_of (concat lines) ≡ lines
lines_ended [] ended = lines-nil
lines_ended (line ∷ lines) ended =
    line_in_front line (concat lines) ended.0 ended.1
    ∙ ap (λ ls. line ∷ ls) (lines_ended lines ended.2)

pub ended_both : (xs ys : List (List ℕ)) → AreEnded xs → AreEnded ys → AreEnded (xs ++ ys)
ended_both [] ys a b = b
ended_both (x ∷ xs) ys a b = (a.0, a.1, ended_both xs ys a.2 b)

pub ended_block : (lines : List (List ℕ)) → AreEnded lines → AreEnded (header_block lines)
ended_block [] ended = tt
ended_block (line ∷ lines) ended =
    by_line (is_empty_line line) (ended_block lines ended.2)
  where
    by_line : (empty : Bool) → AreEnded (header_block lines)
        → AreEnded (if empty then [] else line ∷ header_block lines)
    by_line true more = tt
    by_line false more = (ended.0, ended.1, more)

pub ended_after : (lines : List (List ℕ)) → AreEnded lines → AreEnded (after_block lines)
ended_after [] ended = tt
ended_after (line ∷ lines) ended =
    by_line (is_empty_line line) (ended_after lines ended.2)
  where
    by_line : (empty : Bool) → AreEnded (after_block lines)
        → AreEnded (if empty then line ∷ lines else after_block lines)
    by_line true more = ended
    by_line false more = more

-- The LF.

abbrev last_byte : List ℕ → ℕ
last_byte s = slice_index s (length s - 1)

last_of : (s : List ℕ) → 0 < length s → s ≡ take (length s - 1) s ++ last_byte s ∷ []
last_of [] some = absurd (omega (arith, some))
last_of (b ∷ []) some = refl
last_of (b ∷ c ∷ s) some =
    let same : length (b ∷ c ∷ s) - 1 ≡ suc (length (c ∷ s) - 1) = omega arith in
    ap (λ l. b ∷ l) (last_of (c ∷ s) (omega arith))
    ∙ ap (λ n. take n (b ∷ c ∷ s) ++ slice_index (b ∷ c ∷ s) n ∷ []) (sym same)

feed_is : (s : List ℕ) → 0 < length s → has_feed s ≡ (last_byte s == 10)
feed_is [] some = absurd (omega (arith, some))
feed_is (b ∷ []) some = and-true (b == 10)
feed_is (b ∷ c ∷ s) some =
    let same : length (b ∷ c ∷ s) - 1 ≡ suc (length (c ∷ s) - 1) = omega arith in
    ap (λ n. bytes_eq (drop n (b ∷ c ∷ s)) (codes "\n")) same ∙ feed_is (c ∷ s) (omega arith)
    ∙ ap (λ n. slice_index (b ∷ c ∷ s) n == 10) (sym same)

-- a text that ends in LF stays
with_there : (s : List ℕ) → 0 < length s → last_byte s ≡ 10 → with_feed s ≡ s
with_there s some is =
    ap (λ t. (if t then take (length s - 1) s else s) ++ 10 ∷ [])
    (feed_is s some ∙ eq-eqb (last_byte s) 10 is)
    ∙ ap (λ b. take (length s - 1) s ++ b ∷ []) (sym is) ∙ sym (last_of s some)

-- any other gets one
with_more : (s : List ℕ) → has_feed s ≡ false → with_feed s ≡ s ++ 10 ∷ []
with_more s e = ap (λ t. (if t then take (length s - 1) s else s) ++ 10 ∷ []) e

last_push : (s : List ℕ) (b : ℕ) → last_byte (s ++ b ∷ []) ≡ b
last_push s b =
    get_or_push s b 0 (length (s ++ b ∷ []) - 1) (omega (arith, length-append s (b ∷ [])))

pub ends_fed : (s : List ℕ) → EndsLine (with_feed s)
ends_fed s = inr (last_push (without_feed s) 10)

-- it is the last one that gets it
pub with_both : (a b : List ℕ) → 0 < length b → with_feed (a ++ b) ≡ a ++ with_feed b
with_both a b some = by_last (has_feed b) refl
  where
    same : has_feed (a ++ b) ≡ has_feed b
    same = ap (λ l. bytes_eq l (codes "\n"))
        (ap (λ n. drop n (a ++ b)) (omega (arith, length-append a b, some))
        ∙ drop-append-add a b (length b - 1))

    by_last : (t : Bool) → has_feed b ≡ t → with_feed (a ++ b) ≡ a ++ with_feed b
    by_last true e =
        let last : last_byte b ≡ 10 = eqb-true (last_byte b) 10 (sym (feed_is b some) ∙ e) in
        let long : 0 < length (a ++ b) = omega (arith, length-append a b, some) in
        with_there (a ++ b) long
        (eqb-true (last_byte (a ++ b)) 10 (sym (feed_is (a ++ b) long) ∙ same ∙ e))
        ∙ ap (λ l. a ++ l) (sym (with_there b some last))
    by_last false e =
        with_more (a ++ b) (same ∙ e) ∙ append_assoc a b (10 ∷ [])
        ∙ ap (λ l. a ++ l) (sym (with_more b e))

-- once is enough
pub with_twice : (s : List ℕ) → with_feed (with_feed s) ≡ with_feed s
with_twice s =
    with_there (with_feed s) (omega (arith, length-append (without_feed s) (10 ∷ [])))
    (last_push (without_feed s) 10)

is_line_fed : (s : List ℕ) → IsLine s → IsLine (with_feed s)
is_line_fed s line = by_last (has_feed s) refl
  where
    other : has_feed s ≡ false → (k : ℕ) → k < length s → slice_index s k ≢ 10
    other e k less is = by_place (cases_lt (k + 1) (length s)) is
      where
        by_place : ((k + 1 < length s) ⊎ (length s ≤ k + 1)) → slice_index s k ≡ 10 → ⊥
        by_place (inl before) is = line.none k before is
        by_place (inr last) is =
            true_false (sym (eq-eqb (last_byte s) 10
            (ap (slice_index s) (omega (arith, last, less)) ∙ is))
            ∙ sym (feed_is s line.some) ∙ e)

    by_last : (t : Bool) → has_feed s ≡ t → IsLine (with_feed s)
    by_last true e =
        subst IsLine (sym (with_there s line.some
        (eqb-true (last_byte s) 10 (sym (feed_is s line.some) ∙ e)))) line
    by_last false e = subst IsLine (sym (with_more s e)) (record {
      some = omega (arith, length-append s (10 ∷ []));
      none = λ k less is. other e k (omega (arith, less, length-append s (10 ∷ [])))
          (sym (get_or_append_left s (10 ∷ []) 0 k
          (omega (arith, less, length-append s (10 ∷ [])))) ∙ is);
    })

-- The lines of a text that gets an LF.

pub fed_ended : (lines : List (List ℕ)) → AreLines lines → AreEnded (fed lines)
fed_ended [] are = tt
fed_ended (line ∷ []) are = (is_line_fed line are.0, ends_fed line, tt)
fed_ended (line ∷ next ∷ lines) are =
    (are.0, are.1 (omega arith), fed_ended (next ∷ lines) are.2)

-- the bytes of fed lines
pub fed_bytes : (line : List ℕ) (lines : List (List ℕ)) → AreLines (line ∷ lines)
    → with_feed (concat (line ∷ lines)) ≡ concat (fed (line ∷ lines))
fed_bytes line [] are =
    ap with_feed (append-nil line) ∙ sym (append-nil (with_feed line))
fed_bytes line (next ∷ lines) are =
    with_both line (concat (next ∷ lines))
    (omega (arith, length-append next (concat lines), are.2.0.some))
    ∙ ap (λ l. line ++ l) (fed_bytes next lines are.2)

-- a text without bytes gets a line
pub none_left : IsLine (10 ∷ [])
none_left = record { some = omega arith; none = λ k less is. omega (arith, less) }

pub fed_none : lines_of (with_feed []) ≡ (10 ∷ []) ∷ []
fed_none = one_line (10 ∷ []) none_left

-- a text gets an LF or stays
pub fed_or_same : (s : List ℕ) → (with_feed s ≡ s) ⊎ (with_feed s ≡ s ++ 10 ∷ [])
fed_or_same [] = inr (with_more [] refl)
fed_or_same (b ∷ s) = by_last (has_feed (b ∷ s)) refl
  where
    by_last : (t : Bool) → has_feed (b ∷ s) ≡ t
        → (with_feed (b ∷ s) ≡ b ∷ s) ⊎ (with_feed (b ∷ s) ≡ (b ∷ s) ++ 10 ∷ [])
    by_last true e = inl (with_there (b ∷ s) (omega arith)
        (eqb-true (last_byte (b ∷ s)) 10 (sym (feed_is (b ∷ s) (omega arith)) ∙ e)))
    by_last false e = inr (with_more (b ∷ s) e)

-- a line that is written with its LF
pub written_line : (content : List ℕ) → list_all (λ b. not (b == 10)) content ≡ true
    → IsLine (content ++ 10 ∷ []) × EndsLine (content ++ 10 ∷ [])
written_line content none = (
  record {
    some = omega (arith, length-append content (10 ∷ []));
    none = λ k less is.
        let before : k < length content = omega (arith, less, length-append content (10 ∷ [])) in
        true_false (sym none ∙ list_all_at (λ b. not (b == 10)) content k 0 before
        (ap (λ b. not (b == 10)) (sym (get_or_append_left content (10 ∷ []) 0 k before) ∙ is)));
  },
  inr (last_push content 10),
)

-- whether it lacks one is told by its length without it
pub fed_more : (s : List ℕ) → length (without_feed s) ≡ length s → with_feed s ≡ s ++ 10 ∷ []
fed_more [] same = with_more [] refl
fed_more (b ∷ s) same = by_last (has_feed (b ∷ s)) refl
  where
    by_last : (t : Bool) → has_feed (b ∷ s) ≡ t → with_feed (b ∷ s) ≡ (b ∷ s) ++ 10 ∷ []
    by_last true e =
        let short : length (take (length (b ∷ s) - 1) (b ∷ s)) ≡ length (b ∷ s) =
        ap (λ t. length (if t then take (length (b ∷ s) - 1) (b ∷ s) else b ∷ s)) (sym e) ∙ same in
        absurd (omega (arith, short, length-take-le (length (b ∷ s) - 1) (b ∷ s) (omega arith)))
    by_last false e = with_more (b ∷ s) e

pub fed_same : (s : List ℕ) → length (without_feed s) ≢ length s → with_feed s ≡ s
fed_same s other = by_last (has_feed s) refl
  where
    by_last : (t : Bool) → has_feed s ≡ t → with_feed s ≡ s
    by_last true e = by_some s e
      where
        by_some : (l : List ℕ) → has_feed l ≡ true → with_feed l ≡ l
        by_some [] e = absurd (true_false (sym e))
        by_some (b ∷ l) e = with_there (b ∷ l) (omega arith)
            (eqb-true (last_byte (b ∷ l)) 10 (sym (feed_is (b ∷ l) (omega arith)) ∙ e))
    by_last false e = absurd (other (ap (λ t. length (if t then take (length s - 1) s else s)) e))
