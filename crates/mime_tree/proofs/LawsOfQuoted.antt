-- Bytes that are written as `=` and two digits are read back.
use Rattle.std.proofs.Common.{◌≡◌, ℕ, zero, suc, ◌+◌, ◌*◌, ◌/◌, ◌%◌, ◌<◌, ◌==◌, true, false, not}
use Rattle.std.proofs.Common.{nat_lt, List, [], ◌∷◌, length, Option, Some, None, slice_index, refl}
use Rattle.std.proofs.Common.{ap, ◌∙◌, arith, eq-eqb}
use Rattle.std.specs.Prelude.{if◌then◌else◌}
use Rattle.std.specs.Char.{digit_value}
use Rattle.std.specs.List.{list_all, flat_map}
use Rattle.std.proofs.lemmas.Bool.{agree_below_at, and_parts, cond-true, eqb-true, ltb-true, lt-ltb}
use Rattle.std.proofs.lemmas.Bool.{not-true}
use Rattle.std.proofs.lemmas.List.{append-nil}
use Rattle.bstr.proofs.lemmas.LineLemmas.{lines-nil}
use Rattle.mail_base.specs.Hex.{hex_byte, hex_value}
use Rattle.mime_tree.specs.Laws.{hex_digit, written_byte, QuotedBytesAreRead}
use Rattle.mime_tree.specs.Quoted.{escaped_by, from_quoted, quoted_line, quoted_with, unquoted}
use Rattle.mime_tree.specs.Quoted.{unquoted_from}
use Rattle.mime_tree.proofs.LineEndLemmas.{NoFeed, feed_stays, feed_lines}

digit_is : (n : ℕ) → n < 16 → digit_value (hex_digit n) ≡ n
digit_is n small =
    eqb-true _ n (agree_below_at (λ k. digit_value (hex_digit k) == k) (λ k. true) 16 n refl small)

digit_no_feed : (n : ℕ) → n < 16 → (hex_digit n == 10) ≡ false
digit_no_feed n small = agree_below_at (λ k. hex_digit k == 10) (λ k. false) 16 n refl small

hex_value_is : (n : ℕ) → n < 16 → hex_value (hex_digit n) ≡ Some n
hex_value_is n small =
    ap (λ d. if nat_lt d 16 then Some d else None) (digit_is n small)
    ∙ ap (λ t. if t then Some n else None) (lt-ltb n 16 small)

hex_byte_is : (b : ℕ) (rest : List ℕ) → b < 256
    → hex_byte (hex_digit (b / 16) ∷ hex_digit (b % 16) ∷ rest) ≡ Some (b, rest)
hex_byte_is b rest small =
    let high : b / 16 < 16 = omega arith in
    let low : b % 16 < 16 = omega arith in
    let whole : (b / 16) * 16 + b % 16 ≡ b = omega arith in
    rw (hex_value_is (b / 16) high, hex_value_is (b % 16) low) (ap (λ n. Some (n, rest)) whole)

-- bytes that are written so
abbrev written : List ℕ → List ℕ
written bytes = flat_map written_byte bytes

unquoted_is : (bytes : List ℕ) → list_all (λ b. nat_lt b 256) bytes ≡ true
    → unquoted (written bytes) ≡ bytes
unquoted_is [] all = refl
unquoted_is (b ∷ bytes) all =
    let both = and_parts (nat_lt b 256) (list_all (λ c. nat_lt c 256) bytes) all in
    let rest = written bytes in
    let digits = hex_digit (b / 16) ∷ hex_digit (b % 16) ∷ rest in
    ap (λ (o : Option (ℕ × List ℕ)). (escaped_by o).0 ∷ unquoted_from (escaped_by o).1 digits)
    (hex_byte_is b rest (ltb-true b 256 both.0))
    ∙ ap (λ l. b ∷ l) (unquoted_is bytes both.1)

no_feeds : (bytes : List ℕ) → list_all (λ b. nat_lt b 256) bytes ≡ true
    → list_all (λ b. not (b == 10)) (written bytes) ≡ true
no_feeds [] all = refl
no_feeds (b ∷ bytes) all =
    let both = and_parts (nat_lt b 256) (list_all (λ c. nat_lt c 256) bytes) all in
    let small = ltb-true b 256 both.0 in
    let high : b / 16 < 16 = omega arith in
    let low : b % 16 < 16 = omega arith in
    rw (digit_no_feed (b / 16) high, digit_no_feed (b % 16) low) (no_feeds bytes both.1)

none_at : (s : List ℕ) (k : ℕ) → list_all (λ b. not (b == 10)) s ≡ true → k < length s
    → slice_index s k ≡ 10
    → (slice_index s k == 10) ≡ false
none_at [] k all less is = absurd (omega arith)
none_at (b ∷ s) zero all less is =
    not-true _ (and_parts (not (b == 10)) (list_all (λ c. not (c == 10)) s) all).0
none_at (b ∷ s) (suc k) all less is =
    none_at s k (and_parts (not (b == 10)) (list_all (λ c. not (c == 10)) s) all).1 (omega arith) is

no_feed : (s : List ℕ) → list_all (λ b. not (b == 10)) s ≡ true → NoFeed s
no_feed s all = record {
  none = λ k less is.
      let yes : (slice_index s k == 10) ≡ true = eq-eqb _ 10 is in
      let no = none_at s k all less is in
      absurd (cc);
}

-- a text without a line feed is one line
one_line : (s : List ℕ) → NoFeed s → from_quoted s ≡ unquoted s
one_line [] free = ap (flat_map quoted_line) lines-nil
one_line (b ∷ r) free =
    let s = b ∷ r in
    ap (flat_map quoted_line) (feed_lines s free (omega arith))
    ∙ append-nil (quoted_line s)
    ∙ ap (λ t. quoted_with t s) (feed_stays s free)
    ∙ cond-true _ _ _ (eq-eqb (length s) (length s) refl)

pub quoted_bytes_are_read : QuotedBytesAreRead
quoted_bytes_are_read bytes all =
    one_line (written bytes) (no_feed (written bytes) (no_feeds bytes all)) ∙ unquoted_is bytes all
