-- What stands behind reply prefixes: it is shorter, and it stays UTF-8.
use Rattle.std.proofs.Common.{◌≡◌, ℕ, zero, suc, ◌+◌, ◌<◌, ◌≤◌, ◌==◌, ◌&&◌, Bool, true, false, not}
use Rattle.std.proofs.Common.{cond, List, [], ◌∷◌, length, drop, Option, Some, None, unwrap_or}
use Rattle.std.proofs.Common.{refl, sym, subst, arith}
use Rattle.std.proofs.lemmas.Bool.{and_parts, eqb-true}
use Rattle.std.proofs.lemmas.Bool.Decides.{nat_tests}
use Rattle.std.proofs.lemmas.Str.{IsUtf8-drop, IsCharBoundary-after_ascii}
use Rattle.std.specs.Char.{is_ascii_digit, to_ascii_lowercase}
use Rattle.std.specs.Str.{IsUtf8}
use Rattle.std.specs.List.{position_or_len}
use Rattle.std.specs.Option.{option_or}
use Rattle.std.specs.Prelude.{option_and_then, if◌then◌else◌}
use Rattle.mail_base.specs.Blanks.{is_blank, without_blanks}
use Rattle.mail_base.specs.Fronts.{behind}
use Rattle.headers.specs.Subject.{behind_letters, digits_len, behind_number, behind_re}
use Rattle.headers.specs.Subject.{behind_reply, behind_prefix, base_from}

utf8_tail : (b : ℕ) (rest : List ℕ) → b < 128 → IsUtf8 (b ∷ rest) → IsUtf8 rest
utf8_tail b rest ascii utf8 =
    IsUtf8-drop (b ∷ rest) 1 utf8 (IsCharBoundary-after_ascii (b ∷ rest) 0 utf8 (omega arith) ascii)

-- what follows in UTF-8 is UTF-8
abbrev pub Keeps : List ℕ → Option (List ℕ) → Type 0
Keeps s None = Unit {0}
Keeps s (Some rest) = IsUtf8 s → IsUtf8 rest

keeps_if : (s : List ℕ) (t : Bool) (o : Option (List ℕ)) → (t ≡ true → Keeps s o)
    → Keeps s (if t then o else None)
keeps_if s true o h = h refl
keeps_if s false o h = tt

keeps_unless : (s : List ℕ) (t : Bool) (o : Option (List ℕ)) → Keeps s o
    → Keeps s (if t then None else o)
keeps_unless s true o h = tt
keeps_unless s false o h = h

keeps_later : (s r : List ℕ) (o : Option (List ℕ)) → (IsUtf8 s → IsUtf8 r) → Keeps r o → Keeps s o
keeps_later s r None front rest = tt
keeps_later s r (Some later) front rest = λ utf8. rest (front utf8)

keeps_then : (s : List ℕ) (o : Option (List ℕ)) (f : List ℕ → Option (List ℕ)) → Keeps s o
    → ((r : List ℕ) → Keeps r (f r)) → Keeps s (option_and_then f o)
keeps_then s None f front rest = tt
keeps_then s (Some r) f front rest = keeps_later s r (f r) front (rest r)

keeps_or : (r : List ℕ) (o : Option (List ℕ)) → Keeps r o → Keeps r (Some (unwrap_or o r))
keeps_or r None h = λ utf8. utf8
keeps_or r (Some later) h = h

keeps_else : (s : List ℕ) (a b : Option (List ℕ)) → Keeps s a → Keeps s b → Keeps s (option_or a b)
keeps_else s None b h k = k
keeps_else s (Some r) b h k = h

keeps_behind : (byte : ℕ) (s : List ℕ) → byte < 128 → Keeps s (behind byte s)
keeps_behind byte [] ascii = tt
keeps_behind byte (b ∷ rest) ascii =
    keeps_if (b ∷ rest) (b == byte) (Some rest)
    (λ e utf8. utf8_tail b rest (omega (arith, eqb-true b byte e)) utf8)

lower_small : (a x : ℕ) → x < 128 → (to_ascii_lowercase a == x) ≡ true → a < 128
lower_small a x small e = grind (arith, nat_tests)

keeps_letters : (x y : ℕ) (s : List ℕ) → x < 128 → y < 128 → Keeps s (behind_letters x y s)
keeps_letters x y [] sx sy = tt
keeps_letters x y (a ∷ []) sx sy = tt
keeps_letters x y (a ∷ b ∷ rest) sx sy =
    keeps_if (a ∷ b ∷ rest) (to_ascii_lowercase a == x && to_ascii_lowercase b == y) (Some rest)
    (λ e utf8. utf8_tail b rest (lower_small b y sy (and_parts _ _ e).1)
    (utf8_tail a (b ∷ rest) (lower_small a x sx (and_parts _ _ e).0) utf8))

digit_small : (b : ℕ) → is_ascii_digit b ≡ true → b < 128
digit_small b e = grind (arith, nat_tests)

utf8_drop_if : (digit : Bool) (n b : ℕ) (rest : List ℕ) → (digit ≡ true → IsUtf8 (drop n rest))
    → IsUtf8 (b ∷ rest)
    → IsUtf8 (drop (cond (not (not digit)) (1 + n) 0) (b ∷ rest))
utf8_drop_if true n b rest more utf8 = let e : 1 + n ≡ suc n =
    omega arith in subst (λ k. IsUtf8 (drop k (b ∷ rest))) (sym e) (more refl)
utf8_drop_if false n b rest more utf8 = utf8

utf8_behind_digits : (s : List ℕ) → IsUtf8 s
    → IsUtf8 (drop (position_or_len (λ b. not (is_ascii_digit b)) s) s)
utf8_behind_digits [] utf8 = utf8
utf8_behind_digits (b ∷ rest) utf8 =
    utf8_drop_if (is_ascii_digit b) (position_or_len (λ c. not (is_ascii_digit c)) rest) b rest
    (λ e. utf8_behind_digits rest (utf8_tail b rest (digit_small b e) utf8)) utf8

keeps_number : (s : List ℕ) → Keeps s (behind_number s)
keeps_number s =
    keeps_then s (behind 91 s) _ (keeps_behind 91 s (omega arith))
    (λ a. keeps_unless a (digits_len a == 0) (behind 93 (drop (digits_len a) a))
    (keeps_later a (drop (digits_len a) a) (behind 93 (drop (digits_len a) a))
    (utf8_behind_digits a)
    (keeps_behind 93 (drop (digits_len a) a) (omega arith))))

blank_small : (b : ℕ) → is_blank b ≡ true → b < 128
blank_small b e = grind (arith, nat_tests)

utf8_if : (t : Bool) (a b : List ℕ) → (t ≡ true → IsUtf8 a) → IsUtf8 b → IsUtf8 (if t then a else b)
utf8_if true a b h k = h refl
utf8_if false a b h k = k

utf8_without_blanks : (s : List ℕ) → IsUtf8 s → IsUtf8 (without_blanks s)
utf8_without_blanks [] utf8 = utf8
utf8_without_blanks (b ∷ rest) utf8 =
    utf8_if (is_blank b) (without_blanks rest) (b ∷ rest)
    (λ e. utf8_without_blanks rest (utf8_tail b rest (blank_small b e) utf8)) utf8

keeps_prefix : (s : List ℕ) → Keeps s (behind_prefix s)
keeps_prefix s =
    keeps_then s (behind_reply s) _
    (keeps_else s (behind_re s) (behind_letters 97 119 s)
    (keeps_then s (behind_letters 114 101 s) _ (keeps_letters 114 101 s (omega arith) (omega arith))
    (λ a. keeps_or a (behind_number a) (keeps_number a)))
    (keeps_letters 97 119 s (omega arith) (omega arith)))
    (λ a. keeps_then a (behind 58 a) _ (keeps_behind 58 a (omega arith))
    (λ b. utf8_without_blanks b))

-- what stands behind a prefix of UTF-8 is UTF-8
pub utf8_behind_prefix : (s rest : List ℕ) → behind_prefix s ≡ Some rest → IsUtf8 s → IsUtf8 rest
utf8_behind_prefix s rest found = subst (Keeps s) found (keeps_prefix s)

-- what is left of a subject behind a prefix
pub base_from-found : (n : ℕ) (s rest : List ℕ) → length s ≤ n → length rest < length s
    → behind_prefix s ≡ Some rest
    → (m : ℕ) × (length rest ≤ m) × (base_from n s ≡ base_from m rest)
base_from-found zero s rest long shorter found = absurd (omega arith)
base_from-found (suc m) s rest long shorter found = (m, omega arith, rw found refl)
