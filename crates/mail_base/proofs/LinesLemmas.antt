-- How a text breaks into lines: those in front of a line, and those behind it.
use Rattle.std.proofs.Common.{◌≡◌, ◌≢◌, ℕ, zero, suc, ◌+◌, ◌-◌, ◌<◌, ◌≤◌, Bool, true, false, List}
use Rattle.std.proofs.Common.{[], ◌∷◌, ◌++◌, length, take, drop, slice_index, refl, sym, ap, subst}
use Rattle.std.proofs.Common.{◌∙◌, arith, inr, ⊎_elim, length-append, length-drop, length-take-le}
use Rattle.std.proofs.Common.{get_or-take, append_assoc}
use Rattle.std.specs.Prelude.{if◌then◌else◌}
use Rattle.std.specs.List.{concat}
use Rattle.std.proofs.Common.{◌==◌, ◌&&◌, not, nat_lt}
use Rattle.std.specs.List.{list_all}
use Rattle.std.proofs.lemmas.Bool.{and_from, and_parts, cases_eq, cond-true, cond-false, eq-eqb}
use Rattle.std.proofs.lemmas.Bool.{lt-ltb, ne_eqb, not-true}
use Rattle.std.proofs.lemmas.List.{drop-drop, drop_at, get_or_push, take_at}
use Rattle.bstr.specs.Text.{line_len, lines_of, no_cr, without_terminator}
use Rattle.bstr.proofs.lemmas.LineLemmas.{EndsLine, line_len-bounds, lines-nil, lines-step}
use Rattle.bstr.proofs.lemmas.LineLemmas.{lines-append, lines-one}
use Rattle.bstr.proofs.lemmas.RestLemmas.{concat-lines_of}
use Rattle.mail_base.specs.Lines.{after_block, behind_first, body_at, body_of, header_block}
use Rattle.mail_base.specs.Lines.{is_empty_line}

-- a text with no line feed before its last byte
pub record IsLine (s : List ℕ) : Type 0 where
  pub some : 0 < length s
  pub none : (k : ℕ) → k + 1 < length s → slice_index s k ≢ 10

line_len_next : (b : ℕ) (rest : List ℕ) → b ≢ 10 → line_len (b ∷ rest) ≡ suc (line_len rest)
unfolding line_len
line_len_next b rest other = cond-false _ _ _ (ne_eqb b 10 other)

line_len_feed : (b : ℕ) (rest : List ℕ) → b ≡ 10 → line_len (b ∷ rest) ≡ 1
unfolding line_len
line_len_feed b rest is = cond-true _ _ _ (eq-eqb b 10 is)

line_len_none : line_len [] ≡ 0
unfolding line_len
line_len_none = refl

-- a line that more follows ends in a line feed
pub line_ends : (s : List ℕ) → line_len s < length s → slice_index s (line_len s - 1) ≡ 10
line_ends [] less = absurd (omega arith)
line_ends (b ∷ rest) less = ⊎_elim
    (λ is. ap (λ n. slice_index (b ∷ rest) (n - 1)) (line_len_feed b rest is) ∙ is)
    (λ other.
    let next = line_len_next b rest other in
    let shorter : line_len rest < length rest = omega (arith, next, less) in
    let bounds = line_len-bounds rest (omega arith) in
    let place : line_len (b ∷ rest) - 1 ≡ suc (line_len rest - 1) = omega (arith, next, bounds.0) in
    ap (slice_index (b ∷ rest)) place ∙ line_ends rest shorter)
    (cases_eq b 10)

-- a line has no line feed before its last byte
pub line_before : (s : List ℕ) (k : ℕ) → k + 1 < line_len s → slice_index s k ≢ 10
line_before [] k less = absurd (omega (arith, line_len_none))
line_before (b ∷ rest) zero less = λ is. absurd (omega (arith, line_len_feed b rest is, less))
line_before (b ∷ rest) (suc k) less = ⊎_elim
    (λ is. absurd (omega (arith, line_len_feed b rest is, less)))
    (λ other. line_before rest k (omega (arith, line_len_next b rest other, less)))
    (cases_eq b 10)

-- the first line of a text
pub first_line : (s : List ℕ) → 0 < length s → IsLine (take (line_len s) s)
first_line s some =
    let bounds = line_len-bounds s some in
    let size = length-take-le (line_len s) s bounds.1 in
    record {
      some = omega (arith, size, bounds.0);
      none = λ k less is. line_before s k (omega (arith, size, less))
          (sym (get_or-take (line_len s) s k 0 (omega (arith, size, less))) ∙ is);
    }

pub one_line : (s : List ℕ) → IsLine s → lines_of s ≡ s ∷ []
one_line s line = lines-one s line.some line.none

pub first_ends : (s : List ℕ) → line_len s < length s → EndsLine (take (line_len s) s)
first_ends s less =
    let bounds = line_len-bounds s (omega arith) in
    let size = length-take-le (line_len s) s bounds.1 in
    inr
    (ap (λ n. slice_index (take (line_len s) s) (n - 1)) size
    ∙ get_or-take (line_len s) s (line_len s - 1) 0 (omega (arith, bounds.0))
    ∙ line_ends s less)

-- a line that ends in a line feed stands in front of lines
pub line_in_front : (l s : List ℕ) → IsLine l → EndsLine l → lines_of (l ++ s) ≡ l ∷ lines_of s
line_in_front l s line ends =
    lines-append (length l) l s (omega arith) ends ∙ ap (λ ls. ls ++ lines_of s) (one_line l line)

some_lines : (s : List ℕ) (front : List (List ℕ)) (line : List ℕ) (back : List (List ℕ))
    → lines_of s ≡ front ++ line ∷ back → 0 < length s
some_lines [] [] line back e = cc (lines-nil)
some_lines [] (l ∷ front) line back e = cc (lines-nil)
some_lines (b ∷ s) front line back e = omega arith

-- the lines in front of a line are those of their bytes
pub front_lines : (s : List ℕ) (front : List (List ℕ)) (line : List ℕ) (back : List (List ℕ))
    → lines_of s ≡ front ++ line ∷ back → lines_of (concat front) ≡ front
front_lines s [] line back e = lines-nil
front_lines s (l ∷ front) line back e =
    let some = some_lines s (l ∷ front) line back e in
    let n = line_len s in
    let step = sym (lines-step s some) ∙ e in
    let first : take n s ≡ l = cc in
    let rest : lines_of (drop n s) ≡ front ++ line ∷ back = cc in
    let more = some_lines (drop n s) front line back rest in
    let less : n < length s = omega (arith, length-drop n s, more) in
    line_in_front l (concat front) (subst IsLine first (first_line s some))
    (subst EndsLine first (first_ends s less))
    ∙ ap (λ ls. l ∷ ls) (front_lines (drop n s) front line back rest)

-- the lines behind lines are those of the bytes behind them
pub back_lines : (s : List ℕ) (front back : List (List ℕ)) → lines_of s ≡ front ++ back
    → lines_of (drop (length (concat front)) s) ≡ back
back_lines s [] back e = e
back_lines [] (l ∷ front) back e = cc (lines-nil)
back_lines (b ∷ r) (l ∷ front) back e =
    let s = b ∷ r in
    let n = line_len s in
    let bounds = line_len-bounds s (omega arith) in
    let step = sym (lines-step s (omega arith)) ∙ e in
    let first : take n s ≡ l = cc in
    let rest : lines_of (drop n s) ≡ front ++ back = cc in
    let size : length (concat (l ∷ front)) ≡ n + length (concat front) =
    omega (arith, length-append l (concat front), ap length first, length-take-le n s bounds.1) in
    ap (λ k. lines_of (drop k s)) size
    ∙ ap lines_of (sym (drop-drop (length (concat front)) n s))
    ∙ back_lines (drop n s) front back rest

-- the lines behind lines are those of their own bytes
pub back_whole : (s : List ℕ) (front back : List (List ℕ)) → lines_of s ≡ front ++ back
    → lines_of (concat back) ≡ back
back_whole s front back e =
    let behind = back_lines s front back e in
    ap lines_of (ap concat (sym behind) ∙ concat-lines_of (drop (length (concat front)) s)) ∙ behind

-- what is left of the lines is what is left of the bytes
pub length_left : (rest : List ℕ) (lines : List (List ℕ)) → lines_of rest ≡ lines
    → length rest ≡ length (concat lines)
length_left rest lines e = ap length (sym (concat-lines_of rest) ∙ ap concat e)

-- a line less
pub shorter_left : (line : List ℕ) (lines left : List (List ℕ)) (n : ℕ) → left ≡ line ∷ lines
    → length (concat left) ≤ n → length line + length (concat lines) ≤ n
shorter_left line lines left n e h =
    omega (arith, ap (λ l. length (concat l)) e, length-append line (concat lines), h)

-- the header block and what follows it
pub both_blocks : (lines : List (List ℕ)) → lines ≡ header_block lines ++ after_block lines
both_blocks [] = refl
both_blocks (line ∷ lines) = by_line (is_empty_line line) (both_blocks lines)
  where
    by_line : (empty : Bool) → lines ≡ header_block lines ++ after_block lines
        → line ∷ lines
        ≡ (if empty then [] else line ∷ header_block lines)
        ++ (if empty then line ∷ lines else after_block lines)
    by_line true h = refl
    by_line false h = ap (λ ls. line ∷ ls) h

-- the lines behind a header block, with the empty one before them
pub lines-after_block : (text : List ℕ)
    → lines_of (drop (body_at text) text) ≡ after_block (lines_of text)
lines-after_block text =
    back_lines text (header_block (lines_of text)) (after_block (lines_of text))
    (both_blocks (lines_of text))

first_back : (lines : List (List ℕ)) → (n : ℕ) × (lines ≡ take n lines ++ behind_first lines)
first_back [] = (0, refl)
first_back (line ∷ lines) = (1, refl)

-- the lines of a body are those behind the empty line
pub lines-body_of : (text : List ℕ)
    → lines_of (body_of text) ≡ behind_first (after_block (lines_of text))
lines-body_of text =
    let lines = lines_of text in
    let after = after_block lines in
    let split = first_back after in
    ap (λ ls. lines_of (concat (behind_first ls))) (lines-after_block text)
    ∙ back_whole text (header_block lines ++ take split.0 after) (behind_first after)
    (both_blocks lines ∙ ap (λ ls. header_block lines ++ ls) split.1
    ∙ sym (append_assoc (header_block lines) (take split.0 after) (behind_first after)))

line_len_at : (content rest : List ℕ) → list_all (λ b. not (b == 10)) content ≡ true
    → line_len (content ++ 10 ∷ rest) ≡ length content + 1
unfolding line_len
line_len_at [] rest none = refl
line_len_at (b ∷ content) rest none =
    let both = and_parts (not (b == 10)) (list_all (λ c. not (c == 10)) content) none in
    let more = line_len_at content rest both.1 in
    rw (not-true (b == 10) both.0) (omega (arith, more))

-- a line that ends in LF stands in front of the others
pub lines_feed : (content rest : List ℕ) → list_all (λ b. not (b == 10)) content ≡ true
    → lines_of (content ++ 10 ∷ rest) ≡ (content ++ 10 ∷ []) ∷ lines_of rest
lines_feed content rest none =
    let line = content ++ 10 ∷ [] in
    let text = content ++ 10 ∷ rest in
    let whole : text ≡ line ++ rest = sym (append_assoc content (10 ∷ []) rest) in
    let long : length line ≡ line_len text =
    omega (arith, line_len_at content rest none, length-append content (10 ∷ [])) in
    let some : 0 < length text = omega (arith, length-append content (10 ∷ rest)) in
    lines-step text some
    ∙ ap (λ (t : List ℕ). take (line_len text) t ∷ lines_of (drop (line_len text) t)) whole
    ∙ ap (λ (l : List ℕ). l ∷ lines_of (drop (line_len text) (line ++ rest)))
    (take_at line rest (line_len text) long)
    ∙ ap (λ (l : List ℕ). line ∷ lines_of l) (drop_at line rest (line_len text) long)

-- CR LF goes from the end of a line
pub terminator_goes : (s : List ℕ) → without_terminator (s ++ 13 ∷ 10 ∷ []) ≡ s
terminator_goes s =
    let line = s ++ 13 ∷ 10 ∷ [] in
    let text = s ++ 13 ∷ [] in
    let whole : line ≡ text ++ 10 ∷ [] = sym (append_assoc s (13 ∷ []) (10 ∷ [])) in
    let long : length line ≡ length s + 2 = length-append s (13 ∷ 10 ∷ []) in
    let size : length text ≡ length s + 1 = length-append s (13 ∷ []) in
    let feed : (nat_lt 0 (length line) && slice_index line (length line - 1) == 10) ≡ true =
    let last : length line - 1 ≡ length text = omega arith in
    let at : slice_index line (length line - 1) ≡ 10 =
    ap (slice_index line) last ∙ ap (λ l. slice_index l (length text)) whole
    ∙ get_or_push text 10 0 (length text) refl in
    and_from _ _ (lt-ltb 0 (length line) (omega arith)) (eq-eqb _ 10 at) in
    let return : (nat_lt 0 (length text) && slice_index text (length text - 1) == 13) ≡ true =
    let last : length text - 1 ≡ length s = omega arith in
    let at : slice_index text (length text - 1) ≡ 13 =
    ap (slice_index text) last ∙ get_or_push s 13 0 (length s) refl in
    and_from _ _ (lt-ltb 0 (length text) (omega arith)) (eq-eqb _ 13 at) in
    cond-true _ _ _ feed
    ∙ ap no_cr
    (ap (λ l. take (length line - 1) l) whole
    ∙ take_at text (10 ∷ []) (length line - 1) (omega arith))
    ∙ cond-true _ _ _ return
    ∙ take_at s (13 ∷ []) (length text - 1) (omega arith)
