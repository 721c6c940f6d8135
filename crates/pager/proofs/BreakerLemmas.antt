-- A line that is broken character by character.
use Rattle.std.proofs.Common.{◌≡◌, ℕ, ◌+◌, ◌-◌, ◌%◌, ◌<◌, Bool, true, false, List, [], ◌∷◌, ◌++◌}
use Rattle.std.proofs.Common.{cond, map, nat_le, refl, ap, sym, subst, ◌∙◌, arith}
use Rattle.std.proofs.Common.{append_assoc}
use Rattle.std.proofs.Math.Nat.{mod-add-mod}
use Rattle.std.proofs.lemmas.Grind.{replicate_next}
use Rattle.std.proofs.lemmas.List.{append-nil}
use Rattle.std.specs.Prelude.{encode_utf8}
use Rattle.std.specs.Str.{chars, encode_utf8_all}
use Rattle.expando.specs.Columns.{blanks, columns_in, columns_of}
use Rattle.pager.specs.Broken.{broken, pieces, with_front}
use Rattle.pager.specs.Inner.{PlainBreaker, fresh, put, put_all, put_shown, put_text}
use Rattle.pager.specs.Written.{past_stop, shown, written}

-- pieces in bytes, the first of which begins with these
abbrev joined : List ℕ → List (List ℕ) → List (List ℕ)
joined front [] = front ∷ []
joined front (p ∷ ps) = (front ++ p) ∷ ps

-- the pieces that a line gives with the characters that are still to be put
abbrev pub given : PlainBreaker → List ℕ → List (List ℕ)
given line cs =
    line.done ++ joined line.current (map encode_utf8_all (pieces line.cols line.left cs))

joined-front : (current : List ℕ) (c : ℕ) (ps : List (List ℕ))
    → joined (current ++ encode_utf8 c) (map encode_utf8_all ps)
    ≡ joined current (map encode_utf8_all (with_front c ps))
joined-front current c [] = ap (λ s. (current ++ s) ∷ []) (sym (append-nil (encode_utf8 c)))
joined-front current c (p ∷ ps) =
    ap (λ s. s ∷ map encode_utf8_all ps) (append_assoc current (encode_utf8 c) (encode_utf8_all p))

joined-next : (c : ℕ) (ps : List (List ℕ)) → joined (encode_utf8 c) (map encode_utf8_all ps)
    ≡ map encode_utf8_all (with_front c ps)
joined-next c [] = ap (λ s. s ∷ []) (sym (append-nil (encode_utf8 c)))
joined-next c (p ∷ ps) = refl

-- a character that fits
abbrev pub put_here : PlainBreaker → ℕ → PlainBreaker
put_here line c = record line {
  current = line.current ++ encode_utf8 c;
  left = line.left - columns_of c;
  past = (line.past + columns_of c) % 8;
}

-- a character that begins the next piece
abbrev pub put_next : PlainBreaker → ℕ → PlainBreaker
put_next line c = record line {
  done = line.done ++ line.current ∷ [];
  current = encode_utf8 c;
  left = line.cols - columns_of c;
  past = (line.past + columns_of c) % 8;
}

given-put : (line : PlainBreaker) (c : ℕ) (cs : List ℕ)
    → given (put line c) cs ≡ given line (c ∷ cs)
given-put line c cs = by_test (nat_le (columns_of c) line.left)
  where
    by_test : (t : Bool) → given (cond t (put_here line c) (put_next line c)) cs
        ≡ line.done ++ joined line.current
        (map encode_utf8_all (cond t (with_front c (pieces line.cols (line.left - columns_of c) cs))
        ([] ∷ with_front c (pieces line.cols (line.cols - columns_of c) cs))))
    by_test true = ap (λ s. line.done ++ s) (joined-front line.current c _)
    by_test false =
        append_assoc line.done (line.current ∷ []) _
        ∙ ap (λ s. line.done ++ (line.current ∷ s)) (joined-next c _)
        ∙ ap (λ s. line.done ++ (s ∷ map encode_utf8_all
        (with_front c (pieces line.cols (line.cols - columns_of c) cs))))
        (sym (append-nil line.current))

given-put_all : (line : PlainBreaker) (cs ds : List ℕ)
    → given (put_all line cs) ds ≡ given line (cs ++ ds)
given-put_all line [] ds = refl
given-put_all line (c ∷ cs) ds = given-put_all (put line c) cs ds ∙ given-put line c (cs ++ ds)

pub put-cols : (line : PlainBreaker) (c : ℕ) → (put line c).cols ≡ line.cols
put-cols line c = by_test (nat_le (columns_of c) line.left)
  where
    by_test : (t : Bool) → (cond t (put_here line c) (put_next line c)).cols ≡ line.cols
    by_test true = refl
    by_test false = refl

put-past : (line : PlainBreaker) (c : ℕ) → (put line c).past ≡ (line.past + columns_of c) % 8
put-past line c = by_test (nat_le (columns_of c) line.left)
  where
    by_test : (t : Bool) → (cond t (put_here line c) (put_next line c)).past
        ≡ (line.past + columns_of c) % 8
    by_test true = refl
    by_test false = refl

put_all-cols : (line : PlainBreaker) (cs : List ℕ) → (put_all line cs).cols ≡ line.cols
put_all-cols line [] = refl
put_all-cols line (c ∷ cs) = put_all-cols (put line c) cs ∙ put-cols line c

small_mod : (n : ℕ) → n < 8 → n ≡ (n + 0) % 8
small_mod n small = omega arith

mod_small : (n : ℕ) → n % 8 < 8
mod_small n = omega arith

put_all-past : (line : PlainBreaker) (cs : List ℕ) → line.past < 8
    → (put_all line cs).past ≡ past_stop line.past cs
put_all-past line [] small = small_mod line.past small
put_all-past line (c ∷ cs) small =
    put_all-past (put line c) cs
    (subst (λ (n : ℕ). n < 8) (sym (put-past line c)) (mod_small (line.past + columns_of c)))
    ∙ ap (λ n. (n + columns_in cs) % 8) (put-past line c)
    ∙ mod-add-mod (line.past + columns_of c) 8 (columns_in cs)
    ∙ ap (λ n. n % 8) (regroup line.past (columns_of c) (columns_in cs))
  where
    regroup : (a b c : ℕ) → a + b + c ≡ a + (b + c)
    regroup a b c = omega arith

-- the pieces that a line gives with the characters of the text that are left
abbrev pub whole : PlainBreaker → List ℕ → List (List ℕ)
whole line cs = given line (written line.cols line.past cs)

-- one more character of the text
pub whole-put_shown : (line : PlainBreaker) (c : ℕ) (cs : List ℕ) → line.past < 8
    → whole (put_shown line c) cs ≡ whole line (c ∷ cs)
whole-put_shown line c cs small =
    let out = shown line.cols line.past c in
    ap (λ n. given (put_all line out) (written n (put_all line out).past cs))
    (put_all-cols line out)
    ∙ ap (λ n. given (put_all line out) (written line.cols n cs)) (put_all-past line out small)
    ∙ given-put_all line out (written line.cols (past_stop line.past out) cs)

put_shown-cols : (line : PlainBreaker) (c : ℕ) → (put_shown line c).cols ≡ line.cols
put_shown-cols line c = put_all-cols line (shown line.cols line.past c)

put_shown-past : (line : PlainBreaker) (c : ℕ) → line.past < 8 → (put_shown line c).past < 8
put_shown-past line c small =
    subst (λ (n : ℕ). n < 8) (sym (put_all-past line (shown line.cols line.past c) small))
    (mod_small (line.past + columns_in (shown line.cols line.past c)))

joined_none : (cols left : ℕ) (cs : List ℕ)
    → joined [] (map encode_utf8_all (pieces cols left cs))
    ≡ map encode_utf8_all (pieces cols left cs)
joined_none cols left [] = refl
joined_none cols left (c ∷ cs) = by_test (nat_le (columns_of c) left)
  where
    front : (ps : List (List ℕ)) → joined [] (map encode_utf8_all (with_front c ps))
        ≡ map encode_utf8_all (with_front c ps)
    front [] = refl
    front (p ∷ ps) = refl

    by_test : (t : Bool) → joined [] (map encode_utf8_all
        (cond t (with_front c (pieces cols (left - columns_of c) cs))
        ([] ∷ with_front c (pieces cols (cols - columns_of c) cs))))
        ≡ map encode_utf8_all (cond t (with_front c (pieces cols (left - columns_of c) cs))
        ([] ∷ with_front c (pieces cols (cols - columns_of c) cs)))
    by_test true = front _
    by_test false = refl

-- a line of which nothing is written gives its pieces
pub whole-fresh : (cols : ℕ) (done : List (List ℕ)) (text : List ℕ)
    → whole (fresh cols done) (chars text) ≡ done ++ broken cols text
whole-fresh cols done text =
    ap (λ s. done ++ s) (joined_none cols cols (written cols 0 (chars text)))

-- a line of which all is written gives its last piece
pub whole-nil : (line : PlainBreaker) → whole line [] ≡ line.done ++ line.current ∷ []
whole-nil line = ap (λ s. line.done ++ s ∷ []) (append-nil line.current)

-- more characters, and one
put_all-push : (line : PlainBreaker) (cs : List ℕ) (c : ℕ)
    → put_all line (cs ++ c ∷ []) ≡ put (put_all line cs) c
put_all-push line [] c = refl
put_all-push line (d ∷ cs) c = put_all-push (put line d) cs c

-- one more blank
pub blanks_next : (line : PlainBreaker) (n : ℕ)
    → put (put_all line (blanks n)) 32 ≡ put_all line (blanks (n + 1))
blanks_next line n =
    sym (put_all-push line (blanks n) 32) ∙ ap (put_all line) (sym (replicate_next n 32))

-- the characters of a text are put
pub whole-put_text : (line : PlainBreaker) (cs : List ℕ) → line.past < 8
    → whole (put_text line cs) [] ≡ whole line cs
whole-put_text line [] small = refl
whole-put_text line (c ∷ cs) small =
    whole-put_text (put_shown line c) cs (put_shown-past line c small)
    ∙ whole-put_shown line c cs small

put_text-cols : (line : PlainBreaker) (cs : List ℕ) → (put_text line cs).cols ≡ line.cols
put_text-cols line [] = refl
put_text-cols line (c ∷ cs) = put_text-cols (put_shown line c) cs ∙ put_shown-cols line c

-- a line is written out from its beginning, and ended
pub line_broken : (line written new : PlainBreaker) (text : List ℕ)
    → line ≡ fresh line.cols line.done → written ≡ put_text line (chars text)
    → new ≡ fresh written.cols (written.done ++ written.current ∷ [])
    → new ≡ fresh line.cols (line.done ++ broken line.cols text)
line_broken line written new text begins puts ends =
    ends
    ∙ ap (λ n. fresh n (written.done ++ written.current ∷ []))
    (ap (λ (l : PlainBreaker). l.cols) puts ∙ put_text-cols line (chars text))
    ∙ ap (fresh line.cols) (sym (whole-nil written)
    ∙ ap (λ l. whole l []) puts
    ∙ whole-put_text line (chars text) small
    ∙ ap (λ l. whole l (chars text)) begins
    ∙ whole-fresh line.cols line.done text)
  where
    small : line.past < 8
    small = subst (λ (l : PlainBreaker). l.past < 8) (sym begins) (omega arith)
