-- Runs of printable characters of US-ASCII, which stand as they are.
use Rattle.std.proofs.Common.{◌≡◌, ℕ, ◌+◌, ◌-◌, ◌%◌, ◌<◌, ◌≤◌, zero, suc, Bool, true, false, List}
use Rattle.std.proofs.Common.{[], ◌∷◌}
use Rattle.std.proofs.Common.{◌++◌, ◌==◌, cond, drop, get_or, length, nat_le, subst, take, refl, ap}
use Rattle.std.proofs.Common.{sym, ◌∙◌, arith}
use Rattle.std.proofs.Common.{append_assoc, not, position, Some, None}
use Rattle.std.specs.Prelude.{encode_utf8}
use Rattle.std.proofs.Math.Nat.{add-mod-mod, mod-add-mod}
use Rattle.std.proofs.lemmas.Bool.{and_from, and_parts, eqb-true, cond-true, cond-false, le-leb}
use Rattle.std.proofs.lemmas.Bool.{lt-leb}
use Rattle.std.proofs.lemmas.Bool.Decides.{nat_tests}
use Rattle.std.proofs.lemmas.List.{append-nil, length-take-le, take-append-drop}
use Rattle.std.proofs.lemmas.List.Quantifiers.{position-Some}
use Rattle.std.proofs.lemmas.List.Sums.{fails_before_first}
use Rattle.std.proofs.lemmas.Str.{IsCharBoundary-from_take, IsUtf8-from_ascii, chars-IsAscii}
use Rattle.std.proofs.lemmas.Str.{chars-append, chars-nil, chars_past_char, encode_ascii}
use Rattle.std.specs.List.{list_all}
use Rattle.std.specs.Str.{IsCharBoundary, IsUtf8, chars}
use Rattle.mail_base.proofs.PlacesLemmas.{place_none}
use Rattle.expando.specs.Columns.{columns_of}
use Rattle.unicode_width.specs.Width.{char_width}
use Rattle.pager.specs.Inner.{PlainBreaker, PlainTexts, is_printable, put, put_all}
use Rattle.pager.specs.Inner.{put_shown, put_text, with_room}
use Rattle.pager.specs.Written.{shown}
use Rattle.pager.proofs.BreakerLemmas.{put-cols, put_here, put_next}

printable_width : (c : ℕ) → is_printable c ≡ true → columns_of c ≡ 1
unfolding char_width
printable_width c is = grind (arith, nat_tests)

printable_ascii : (c : ℕ) → is_printable c ≡ true → c < 128
printable_ascii c is = grind (arith, nat_tests)

abbrev with_texts : PlainTexts → ℕ → ℕ → ℕ → PlainBreaker
with_texts texts cols left past = record {
  done = texts.done;
  current = texts.current;
  cols = cols;
  left = left;
  past = past;
}

-- a line with other columns
pub with_run : PlainBreaker → List ℕ → ℕ → ℕ → PlainBreaker
with_run line current left past =
    record line { current = current; left = left; past = past }

put_printable : (line : PlainBreaker) (c : ℕ) → is_printable c ≡ true → 1 ≤ line.left
    → put line c ≡ with_run line (line.current ++ c ∷ []) (line.left - 1) ((line.past + 1) % 8)
unfolding with_run
put_printable line c is room =
    let one = printable_width c is in
    cond-true (nat_le (columns_of c) line.left) (put_here line c) (put_next line c)
    (ap (λ n. nat_le n line.left) one ∙ le-leb 1 line.left room)
    ∙ ap (λ s. with_run line (line.current ++ s) (line.left - columns_of c)
    ((line.past + columns_of c) % 8)) (encode_ascii c (printable_ascii c is))
    ∙ ap (λ n. with_run line (line.current ++ c ∷ []) (line.left - n) ((line.past + n) % 8)) one

-- a run that fits
put_all-run : (line : PlainBreaker) (run : List ℕ) → list_all is_printable run ≡ true
    → length run ≤ line.left → line.past < 8
    → put_all line run ≡ with_run line (line.current ++ run) (line.left - length run)
    ((line.past + length run) % 8)
unfolding with_run
put_all-run line [] are room small =
    ap (λ s. with_run line s line.left line.past) (sym (append-nil line.current))
    ∙ ap (λ n. with_run line (line.current ++ []) line.left n) (small_mod line.past small)
    ∙ ap (λ n. with_run line (line.current ++ []) n ((line.past + 0) % 8)) (less line.left)
  where
    small_mod : (n : ℕ) → n < 8 → n ≡ (n + 0) % 8
    small_mod n small = omega arith

    less : (n : ℕ) → n ≡ n - 0
    less n = omega arith
put_all-run line (c ∷ run) are room small =
    let parts = and_parts (is_printable c) (list_all is_printable run) are in
    let next = with_run line (line.current ++ c ∷ []) (line.left - 1) ((line.past + 1) % 8) in
    ap (λ l. put_all l run) (put_printable line c parts.0 (omega arith))
    ∙ put_all-run next run parts.1 (omega arith) (mod_small (line.past + 1))
    ∙ ap (λ s. with_run line s (line.left - 1 - length run)
    (((line.past + 1) % 8 + length run) % 8))
    (append_assoc line.current (c ∷ []) run)
    ∙ ap (λ n. with_run line (line.current ++ c ∷ run) n (((line.past + 1) % 8 + length run) % 8))
    (fewer line.left (length run))
    ∙ ap (λ n. with_run line (line.current ++ c ∷ run) (line.left - length (c ∷ run)) n)
    (mod-add-mod (line.past + 1) 8 (length run) ∙ ap (λ n. n % 8) (more line.past (length run)))
  where
    mod_small : (n : ℕ) → n % 8 < 8
    mod_small n = omega arith

    fewer : (n m : ℕ) → n - 1 - m ≡ n - (suc m)
    fewer n m = omega arith

    more : (n m : ℕ) → n + 1 + m ≡ n + suc m
    more n m = omega arith

put_all-append : (line : PlainBreaker) (cs ds : List ℕ)
    → put_all line (cs ++ ds) ≡ put_all (put_all line cs) ds
put_all-append line [] ds = refl
put_all-append line (c ∷ cs) ds = put_all-append (put line c) cs ds

next_piece : PlainBreaker → PlainBreaker
next_piece line = record line {
  done = line.done ++ line.current ∷ [];
  current = [];
  left = line.cols;
}

put_all-next : (line : PlainBreaker) (c : ℕ) (run : List ℕ) → is_printable c ≡ true
    → line.left ≡ 0 → 1 ≤ line.cols
    → put_all (next_piece line) (c ∷ run) ≡ put_all line (c ∷ run)
unfolding next_piece
put_all-next line c run is none wide =
    let one = printable_width c is in
    ap (λ l. put_all l run)
    (cond-true (nat_le (columns_of c) line.cols) (put_here (next_piece line) c)
    (put_next (next_piece line) c) (ap (λ n. nat_le n line.cols) one ∙ le-leb 1 line.cols wide)
    ∙ sym (cond-false (nat_le (columns_of c) line.left) (put_here line c) (put_next line c)
    (ap (λ n. nat_le n line.left) one ∙ lt-leb 1 line.left (omega arith))))

-- a run goes on in the next piece where no column is left
put_all-with_room : (line : PlainBreaker) (text : List ℕ) → list_all is_printable text ≡ true
    → 0 < length text → 1 ≤ line.cols → put_all (with_room line) text ≡ put_all line text
unfolding next_piece
put_all-with_room line [] are some wide = absurd (omega arith)
put_all-with_room line (c ∷ run) are some wide = by_test (line.left == 0) refl
  where
    by_test : (t : Bool) → (line.left == 0) ≡ t
        → put_all (cond t (next_piece line) line) (c ∷ run) ≡ put_all line (c ∷ run)
    by_test true e =
        put_all-next line c run
        (and_parts (is_printable c) (list_all is_printable run) are).0
        (eqb-true line.left 0 e) wide
    by_test false e = refl

all_taken : (n : ℕ) (text : List ℕ) → list_all is_printable text ≡ true
    → list_all is_printable (take n text) ≡ true
all_taken zero text are = refl
all_taken (suc n) [] are = refl
all_taken (suc n) (c ∷ text) are =
    let parts = and_parts (is_printable c) (list_all is_printable text) are in
    and_from _ _ parts.0 (all_taken n text parts.1)

-- a run is put, as far as it fits
pub run_turn : (line new : PlainBreaker) (text : List ℕ) (count : ℕ)
    → list_all is_printable text ≡ true → 0 < length text → 1 ≤ line.cols
    → count ≤ length text → count ≤ (with_room line).left → (with_room line).past < 8
    → new ≡ with_run (with_room line) ((with_room line).current ++ take count text)
    ((with_room line).left - count) (((with_room line).past + count) % 8)
    → put_all new (drop count text) ≡ put_all line text
run_turn line new text count are some wide within room small is =
    ap (λ l. put_all l (drop count text)) (is ∙ sym (puts ∙ sized))
    ∙ sym (put_all-append (with_room line) (take count text) (drop count text))
    ∙ ap (put_all (with_room line)) (take-append-drop count text)
    ∙ put_all-with_room line text are some wide
  where
    size : length (take count text) ≡ count
    size = length-take-le count text within

    puts : put_all (with_room line) (take count text)
        ≡ with_run (with_room line) ((with_room line).current ++ take count text)
        ((with_room line).left - length (take count text))
        (((with_room line).past + length (take count text)) % 8)
    puts =
        put_all-run (with_room line) (take count text) (all_taken count text are)
        (omega (arith, size))
        small

    sized : with_run (with_room line) ((with_room line).current ++ take count text)
        ((with_room line).left - length (take count text))
        (((with_room line).past + length (take count text)) % 8)
        ≡ with_run (with_room line) ((with_room line).current ++ take count text)
        ((with_room line).left - count) (((with_room line).past + count) % 8)
    sized = ap (λ n. with_run (with_room line) ((with_room line).current ++ take count text)
        ((with_room line).left - n) (((with_room line).past + n) % 8)) size

-- it is put into the texts
pub run_put : (old room : PlainBreaker) (texts : PlainTexts) (run : List ℕ) (count : ℕ)
    → texts ≡ record { done = old.done; current = old.current ++ run } → old ≡ room
    → record {
      done = texts.done;
      current = texts.current;
      cols = old.cols;
      left = old.left - count;
      past = (old.past + count % 8) % 8;
    }
    ≡ with_run room (room.current ++ run) (room.left - count) ((room.past + count) % 8)
unfolding with_run
run_put old room texts run count added is =
    ap (λ (t : PlainTexts). with_texts t old.cols (old.left - count) ((old.past + count % 8) % 8))
    added
    ∙ ap (with_run old (old.current ++ run) (old.left - count)) (add-mod-mod old.past count 8)
    ∙ ap (λ (r : PlainBreaker). with_run r (r.current ++ run) (r.left - count)
    ((r.past + count) % 8)) is

-- the columns of a line stay
pub with_room-cols : (line : PlainBreaker) → (with_room line).cols ≡ line.cols
unfolding next_piece
with_room-cols line = by_test (line.left == 0)
  where
    by_test : (t : Bool) → (cond t (next_piece line) line).cols ≡ line.cols
    by_test true = refl
    by_test false = refl

-- what is left of printable characters is printable
pub all_left : (n : ℕ) (text : List ℕ) → list_all is_printable text ≡ true
    → list_all is_printable (drop n text) ≡ true
all_left zero text are = are
all_left (suc n) [] are = refl
all_left (suc n) (c ∷ text) are =
    all_left n text (and_parts (is_printable c) (list_all is_printable text) are).1

shown_printable : (cols past c : ℕ) → is_printable c ≡ true → 1 ≤ cols
    → shown cols past c ≡ c ∷ []
shown_printable cols past c is wide =
    let one = printable_width c is in grind (arith, nat_tests)

-- printable characters are put as they stand
put_text-printable : (line : PlainBreaker) (text : List ℕ) → list_all is_printable text ≡ true
    → 1 ≤ line.cols → put_all line text ≡ put_text line text
put_text-printable line [] are wide = refl
put_text-printable line (c ∷ text) are wide =
    let parts = and_parts (is_printable c) (list_all is_printable text) are in
    put_text-printable (put line c) text parts.1
    (subst (λ (n : ℕ). 1 ≤ n) (sym (put-cols line c)) wide)
    ∙ ap (λ cs. put_text (put_all line cs) text)
    (sym (shown_printable line.cols line.past c parts.0 wide))

ascii_at : (text : List ℕ) (i : ℕ) → list_all is_printable text ≡ true → get_or text i 0 < 128
ascii_at [] i are = omega arith
ascii_at (c ∷ text) zero are =
    printable_ascii c (and_parts (is_printable c) (list_all is_printable text) are).0
ascii_at (c ∷ text) (suc i) are =
    ascii_at text i (and_parts (is_printable c) (list_all is_printable text) are).1

-- a text of them is put as it stands
pub printable_text : (line : PlainBreaker) (text : List ℕ) → list_all is_printable text ≡ true
    → 1 ≤ line.cols → put_all line text ≡ put_text line (chars text)
printable_text line text are wide =
    put_text-printable line text are wide
    ∙ ap (put_text line) (sym (chars-IsAscii text (λ i. ascii_at text i are)))

true_of : (t : Bool) → not t ≡ false → t ≡ true
true_of true is = refl
true_of false is = absurd (cc)

printable_front : (k : ℕ) (s : List ℕ) → k ≤ length s
    → ((j : ℕ) → j < k → not (is_printable (get_or s j 0)) ≡ false)
    → list_all is_printable (take k s) ≡ true
printable_front zero s within are = refl
printable_front (suc k) [] within are = absurd (omega arith)
printable_front (suc k) (c ∷ s) within are =
    and_from _ _ (true_of _ (are 0 (omega arith)))
    (printable_front k s (omega arith) (λ j below. are (suc j) (omega arith)))

-- what stands before the first byte that is not printable is
pub printable_before : (s : List ℕ) (k : ℕ) → position (λ b. not (is_printable b)) s ≡ Some k
    → list_all is_printable (take k s) ≡ true
printable_before s k found =
    let first = position-Some (λ b. not (is_printable b)) s k 0 found in
    printable_front k s (omega (arith, first.0)) first.2

-- a text with no such byte is printable
pub printable_whole : (s : List ℕ) → position (λ b. not (is_printable b)) s ≡ None
    → list_all is_printable (take (length s) s) ≡ true
printable_whole s none =
    let past = place_none (λ b. not (is_printable b)) s none in
    printable_front (length s) s (omega arith)
    (λ j below. fails_before_first (λ b. not (is_printable b)) s j 0 (omega arith))

-- a text may be cut behind printable bytes
pub printable_cut : (text : List ℕ) (k : ℕ) → IsUtf8 text → k ≤ length text
    → list_all is_printable (take k text) ≡ true → IsCharBoundary text k
printable_cut text k utf8 within are =
    IsCharBoundary-from_take text k utf8 within
    (IsUtf8-from_ascii (take k text) (λ i. ascii_at (take k text) i are))

put_text-append : (line : PlainBreaker) (cs ds : List ℕ)
    → put_text line (cs ++ ds) ≡ put_text (put_text line cs) ds
put_text-append line [] ds = refl
put_text-append line (c ∷ cs) ds = put_text-append (put_shown line c) cs ds

-- the printable front of a text is put, and then the others
pub front_turn : (line new : PlainBreaker) (run rest text : List ℕ)
    → list_all is_printable run ≡ true → 1 ≤ line.cols → text ≡ run ++ rest
    → new ≡ put_all line run → put_text new (chars rest) ≡ put_text line (chars text)
front_turn line new run rest text are wide whole puts =
    ap (λ l. put_text l (chars rest)) (puts ∙ printable_text line run are wide)
    ∙ sym (put_text-append line (chars run) (chars rest))
    ∙ ap (put_text line)
    (sym (chars-append run rest (IsUtf8-from_ascii run (λ i. ascii_at run i are))))
    ∙ ap (λ t. put_text line (chars t)) (sym whole)

-- the first character of a text is put, and then the others
pub char_turn : (line new : PlainBreaker) (c : ℕ) (text rest : List ℕ) → IsUtf8 text
    → text ≡ encode_utf8 c ++ rest → new ≡ put_shown line c
    → put_text new (chars rest) ≡ put_text line (chars text)
char_turn line new c text rest utf8 first puts =
    ap (λ l. put_text l (chars rest)) puts
    ∙ ap (put_text line) (sym (chars_past_char text rest c utf8 first))

-- nothing is left of a text
pub all_put : (line whole : PlainBreaker) (rest : List ℕ) → length rest ≡ 0
    → put_text line (chars rest) ≡ whole → line ≡ whole
all_put line whole [] none puts = sym (ap (put_text line) chars-nil) ∙ puts
all_put line whole (b ∷ rest) none puts = absurd (omega arith)
