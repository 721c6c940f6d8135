-- The file of good lines reads as what was written.
use Rattle.std.proofs.Common.{◌≡◌, ◌≤◌, ◌==◌, ◌&&◌, ◌||◌, ◌++◌, ℕ, Bool, true}
use Rattle.std.proofs.Common.{false}
use Rattle.std.proofs.Common.{not, List, [], ◌∷◌, Option, Some, None, nat_lt, nat_le}
use Rattle.std.proofs.Common.{if◌then◌else◌, refl, sym, ◌∙◌, ap, arith, append_assoc}
use Rattle.std.proofs.Common.{append-nil}
use Rattle.std.proofs.lemmas.Bool.{and_from, and_parts}
use Rattle.std.proofs.lemmas.Bool.Decides.{nat_tests}
use Rattle.std.proofs.lemmas.List.Folds.{list_all-append}
use Rattle.std.specs.Char.{is_ascii_digit}
use Rattle.std.specs.Fmt.{decimal}
use Rattle.std.specs.List.{list_any}
use Rattle.std.specs.Prelude.{unwrap_or}
use Rattle.std.specs.Str.{bytes_eq}
use Rattle.mail_base.specs.Blanks.{is_blank}
use Rattle.mail_base.specs.Fronts.{◌>>=◌}
use Rattle.folder_core.specs.MhNumbers.{number_of}
use Rattle.folder_core.specs.MhSequences.{between_holds, in_sequence}
use Rattle.folder_core.specs.MhSequences.{line_has, range_by as word_by}
use Rattle.folder_core.specs.MhSequences.{range_holds as word_holds, ranges_hold, split_holds}
use Rattle.folder_core.specs.MhSequences.{text_lines, words_of}
use Rattle.mh_sequences.specs.declared.range.Range.{Range}
use Rattle.mh_sequences.specs.Ranges.{any_holds, holds as range_holds}
use Rattle.mh_sequences.specs.SequenceLine.{Kept, Named, PlainLine, is_name}
use Rattle.mh_sequences.specs.SequenceLine.{named_text}
use Rattle.mh_sequences.specs.SequenceLine.{ranges_text}
use Rattle.mh_sequences.specs.Sequences.{file_of, holds}
use Rattle.mh_syncs.proofs.Decimals.{decimal_digits, digits_all, number_decimal}
use Rattle.mh_syncs.proofs.Cutting.{is_colon, is_dash, is_end, lacks, no_split, split_read}

true_false : ◌≡◌ {A = Bool} true false → ⊥
true_false e = cc

none_some : {A : Type 0} (x : A) → ◌≡◌ {A = Option A} None (Some x) → ⊥
none_some x e = cc

-- What is good.

-- a range of numbers that may be written
pub record GoodRange (r : Range) : Type 0 where
  pub low : 1 ≤ r.first
  pub on : r.first ≤ r.last
  pub high : r.last ≤ 4294967295

abbrev pub GoodRanges : List Range → Type 0
GoodRanges [] = Unit {0}
GoodRanges (r ∷ ranges) = GoodRange r × GoodRanges ranges

-- a name that may be written
pub record GoodName (name : List ℕ) : Type 0 where
  pub named : is_name name ≡ true
  pub colon : lacks is_colon name ≡ true
  pub ends : lacks is_end name ≡ true

-- a line that is written as it is read
abbrev pub GoodLine : PlainLine → Type 0
GoodLine (Named name ranges) = GoodName name × GoodRanges ranges
GoodLine (Kept text) =
    (lacks is_end text ≡ true) × ((w : List ℕ) (n : ℕ) → line_has w n text ≡ false)

abbrev pub AreGood : List PlainLine → Type 0
AreGood [] = Unit {0}
AreGood (line ∷ lines) = GoodLine line × AreGood lines

-- Words.

digit_no_blank : (d : ℕ) → is_ascii_digit d ≡ true → not (is_blank d) ≡ true
digit_no_blank d is = grind (arith, nat_tests, is)

digit_no_dash : (d : ℕ) → is_ascii_digit d ≡ true → not (is_dash d) ≡ true
digit_no_dash d is = grind (arith, nat_tests, is)

digit_no_end : (d : ℕ) → is_ascii_digit d ≡ true → not (is_end d) ≡ true
digit_no_end d is = grind (arith, nat_tests, is)

-- a range as a word
abbrev word_if : Bool → ℕ → ℕ → List ℕ
word_if more first last = decimal first ++ (if more then 45 ∷ decimal last else [])

abbrev word : Range → List ℕ
word r = word_if (nat_lt r.first r.last) r.first r.last

word_lacks : (p : ℕ → Bool) → ((d : ℕ) → is_ascii_digit d ≡ true → not (p d) ≡ true)
    → not (p 45) ≡ true → (r : Range) → GoodRange r → lacks p (word r) ≡ true
word_lacks p digits dash r good =
    list_all-append (λ x. not (p x)) (decimal r.first)
    (if nat_lt r.first r.last then 45 ∷ decimal r.last else [])
    ∙ and_from (lacks p (decimal r.first)) _
    (digits_all (λ x. not (p x)) digits (decimal r.first)
    (decimal_digits r.first good.low (omega (arith, good.on, good.high))))
    (by (nat_lt r.first r.last))
  where
    by : (t : Bool) → lacks p (if t then 45 ∷ decimal r.last else []) ≡ true
    by false = refl
    by true = and_from (not (p 45)) (lacks p (decimal r.last)) dash
        (digits_all (λ x. not (p x)) digits (decimal r.last)
        (decimal_digits r.last (omega (arith, good.low, good.on)) good.high))

held_word : (n : ℕ) (r : Range) → GoodRange r → word_holds n (word r) ≡ Some (range_holds n r)
held_word n r good = by (nat_lt r.first r.last) refl
  where
    first_is : number_of (decimal r.first) ≡ Some r.first
    first_is = number_decimal r.first good.low (omega (arith, good.on, good.high))

    last_is : number_of (decimal r.last) ≡ Some r.last
    last_is = number_decimal r.last (omega (arith, good.low, good.on)) good.high

    no_dash : lacks is_dash (decimal r.first) ≡ true
    no_dash = digits_all (λ x. not (is_dash x)) digit_no_dash (decimal r.first)
        (decimal_digits r.first good.low (omega (arith, good.on, good.high)))

    one_end : nat_lt r.first r.last ≡ false → r.first ≡ r.last
    one_end is =
        let low : r.last ≤ r.first = grind (arith, nat_tests, is) in
        omega (arith, low, good.on)

    up : nat_lt r.first r.last ≡ true → nat_le r.first r.last ≡ true
    up is = grind (arith, nat_tests, is)

    by : (t : Bool) → nat_lt r.first r.last ≡ t
        → word_holds n (word_if t r.first r.last) ≡ Some (nat_le r.first n && nat_le n r.last)
    by true is =
        ap (word_by n (word_if true r.first r.last)) (split_read 45 (decimal r.first)
        (decimal r.last) no_dash)
        ∙ (λ i. first_is i >>= λ a. last_is i >>= λ b. between_holds n a b)
        ∙ ap (λ (t : Bool). if t then Some (nat_le r.first n && nat_le n r.last) else None) (up is)
    by false is =
        ap (word_holds n) (append-nil (decimal r.first))
        ∙ ap (word_by n (decimal r.first)) (no_split 45 (decimal r.first) no_dash)
        ∙ (λ i. first_is i >>= λ a. Some (nat_le a n && nat_le n a))
        ∙ ap (λ (k : ℕ). Some (nat_le r.first n && nat_le n k)) (one_end is)

words_on : (so_far w rest : List ℕ) → lacks is_blank w ≡ true
    → words_of so_far (w ++ rest) ≡ words_of (so_far ++ w) rest
words_on so_far [] rest none = ap (λ (l : List ℕ). words_of l rest) (sym (append-nil so_far))
words_on so_far (b ∷ w) rest none =
    let both = and_parts (not (is_blank b)) (lacks is_blank w) none in
    by (is_blank b) both.0 (words_on (so_far ++ b ∷ []) w rest both.1)
  where
    by : (t : Bool) → not t ≡ true
        → words_of (so_far ++ b ∷ []) (w ++ rest) ≡ words_of ((so_far ++ b ∷ []) ++ w) rest
        → (if t then so_far ∷ words_of [] (w ++ rest) else words_of (so_far ++ b ∷ []) (w ++ rest))
        ≡ words_of (so_far ++ b ∷ w) rest
    by true other again = absurd (true_false (sym other))
    by false other again =
        again ∙ ap (λ (l : List ℕ). words_of l rest) (append_assoc so_far (b ∷ []) w)

ranges_cons : (n : ℕ) (w : List ℕ) (words : List (List ℕ)) (h m : Bool)
    → word_holds n w ≡ Some h → ranges_hold n words ≡ Some m
    → ranges_hold n (w ∷ words) ≡ Some (h || m)
ranges_cons n [] words h m held more = absurd (none_some h held)
ranges_cons n (b ∷ w) words h m held more =
    λ i. held i >>= λ x. more i >>= λ y. Some (x || y)

ranges_words : (n : ℕ) (r : Range) (ranges : List Range) → GoodRange r → GoodRanges ranges
    → ranges_hold n (words_of (word r) (ranges_text ranges))
    ≡ Some (range_holds n r || any_holds n ranges)
ranges_words n r [] good all = ranges_cons n (word r) [] (range_holds n r) false
    (held_word n r good) refl
ranges_words n r (s ∷ ranges) good all =
    ranges_cons n (word r) (words_of [] (word s ++ ranges_text ranges)) (range_holds n r)
    (any_holds n (s ∷ ranges)) (held_word n r good)
    (ap (ranges_hold n) (words_on [] (word s) (ranges_text ranges)
    (word_lacks is_blank digit_no_blank refl s all.0))
    ∙ ranges_words n s ranges all.0 all.1)

-- Lines.

named_has : (w : List ℕ) (n : ℕ) (own : List ℕ) (r : Range) (ranges : List Range) → GoodName own
    → GoodRange r → GoodRanges ranges
    → line_has w n (own ++ 58 ∷ ranges_text (r ∷ ranges))
    ≡ (bytes_eq own w && any_holds n (r ∷ ranges))
named_has w n own r ranges name good all =
    ap (split_holds w n) (split_read 58 own (ranges_text (r ∷ ranges)) name.colon)
    ∙ ap (λ (t : Bool). t && bytes_eq own w
    && unwrap_or (ranges_hold n (words_of [] (ranges_text (r ∷ ranges)))) false) name.named
    ∙ ap (λ (o : Option Bool). bytes_eq own w && unwrap_or o false)
    (ap (ranges_hold n) (words_on [] (word r) (ranges_text ranges)
    (word_lacks is_blank digit_no_blank refl r good))
    ∙ ranges_words n r ranges good all)

ranges_lack : (ranges : List Range) → GoodRanges ranges → lacks is_end (ranges_text ranges) ≡ true
ranges_lack [] all = refl
ranges_lack (r ∷ ranges) all =
    list_all-append (λ x. not (is_end x)) (word r) (ranges_text ranges)
    ∙ and_from (lacks is_end (word r)) _ (word_lacks is_end digit_no_end refl r all.0)
    (ranges_lack ranges all.1)

text_end : (so_far text rest : List ℕ) → lacks is_end text ≡ true
    → text_lines so_far (text ++ 10 ∷ rest) ≡ (so_far ++ text) ∷ text_lines [] rest
text_end so_far [] rest none =
    ap (λ (l : List ℕ). l ∷ text_lines [] rest) (sym (append-nil so_far))
text_end so_far (b ∷ text) rest none =
    let both = and_parts (not (is_end b)) (lacks is_end text) none in
    by (b == 10) both.0 (text_end (so_far ++ b ∷ []) text rest both.1)
  where
    by : (t : Bool) → not t ≡ true
        → text_lines (so_far ++ b ∷ []) (text ++ 10 ∷ rest)
        ≡ ((so_far ++ b ∷ []) ++ text) ∷ text_lines [] rest
        → (if t then so_far ∷ text_lines [] (text ++ 10 ∷ rest)
        else text_lines (so_far ++ b ∷ []) (text ++ 10 ∷ rest))
        ≡ (so_far ++ b ∷ text) ∷ text_lines [] rest
    by true other again = absurd (true_false (sym other))
    by false other again =
        again ∙ ap (λ (l : List ℕ). l ∷ text_lines [] rest) (append_assoc so_far (b ∷ []) text)

pub and_false : (t : Bool) → (t && false) ≡ false
and_false true = refl
and_false false = refl

-- the file of good lines holds what they hold
pub written_holds : (lines : List PlainLine) → AreGood lines → (w : List ℕ) (n : ℕ)
    → in_sequence w n (file_of lines) ≡ holds w n lines
written_holds [] good w n = refl
written_holds (Kept text ∷ lines) good w n =
    ap (λ (l : List ℕ). in_sequence w n l) (append_assoc text (10 ∷ []) (file_of lines))
    ∙ ap (list_any (line_has w n)) (text_end [] text (file_of lines) good.0.0)
    ∙ ap (λ (t : Bool). t || in_sequence w n (file_of lines)) (good.0.1 w n)
    ∙ written_holds lines good.1 w n
written_holds (Named own [] ∷ lines) good w n =
    written_holds lines good.1 w n
    ∙ sym (ap (λ (t : Bool). t || holds w n lines) (and_false (bytes_eq own w)))
written_holds (Named own (r ∷ ranges) ∷ lines) good w n =
    ap (λ (l : List ℕ). in_sequence w n l) whole
    ∙ ap (list_any (line_has w n))
    (text_end [] (own ++ 58 ∷ ranges_text (r ∷ ranges)) (file_of lines) no_end)
    ∙ ap (λ (t : Bool). t || in_sequence w n (file_of lines))
    (named_has w n own r ranges good.0.0 good.0.1.0 good.0.1.1)
    ∙ ap (λ (t : Bool). (bytes_eq own w && any_holds n (r ∷ ranges)) || t)
    (written_holds lines good.1 w n)
  where
    whole : named_text own (r ∷ ranges) ++ file_of lines
        ≡ (own ++ 58 ∷ ranges_text (r ∷ ranges)) ++ 10 ∷ file_of lines
    whole = append_assoc (own ++ 58 ∷ ranges_text (r ∷ ranges)) (10 ∷ []) (file_of lines)

    no_end : lacks is_end (own ++ 58 ∷ ranges_text (r ∷ ranges)) ≡ true
    no_end = list_all-append (λ x. not (is_end x)) own (58 ∷ ranges_text (r ∷ ranges))
        ∙ and_from (lacks is_end own) _ good.0.0.ends
        (ranges_lack (r ∷ ranges) good.0.1)
