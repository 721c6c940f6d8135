-- The words of a stamp, and what is read of each.
use Rattle.std.proofs.Common.{◌≡◌, ◌∙◌, sym, ap, refl, arith, ℕ, zero, suc, ◌+◌, ◌-◌, ◌*◌, ◌/◌, ◌%◌}
use Rattle.std.proofs.Common.{◌<◌, ◌&&◌, ◌==◌, not, cond, pos, Bool, true, false, List, [], ◌∷◌}
use Rattle.std.proofs.Common.{◌++◌, Some, length, length-append, take, drop, append_assoc, subst}
use Rattle.std.specs.Prelude.{if◌then◌else◌, nat_le, nat_lt, min}
use Rattle.std.specs.List.{list_all, position_or_len, prefix_len}
use Rattle.std.proofs.Math.Seq.{take-append_seam}
use Rattle.std.proofs.lemmas.Bool.{and_parts, le-leb}
use Rattle.std.proofs.lemmas.Bool.Decides.{nat_tests}
use Rattle.std.proofs.lemmas.List.{drop_at}
use Rattle.mail_base.specs.Blanks.{is_blank, without_blanks}
use Rattle.mail_base.specs.Words.{behind_word, first_word}
use Rattle.mail_base.specs.Zone as zone
use Rattle.folder_core.specs.Mbox.{clock_at, clock_of, day_of, ending_of, is_weekday, ending_with}
use Rattle.folder_core.specs.Mbox.{first_some, in_century, month_of, one_digit, year_of, zone_of}
use Rattle.folder_drivers.specs.MboxStamp.{clock_text, month_name, padded, two_digits, weekday_name}
use Rattle.folder_drivers.specs.MboxStamp.{year_text}

-- Words.

-- some bytes, and none of them a blank or LF
pub record IsWord (w : List ℕ) : Type 0 where
  pub some : 0 < length w
  pub none : list_all (λ b. not (is_blank b)) w ≡ true
  pub line : list_all (λ b. not (b == 10)) w ≡ true

-- the place of the first blank
blank_place : (w rest : List ℕ) → list_all (λ b. not (is_blank b)) w ≡ true
    → position_or_len is_blank (w ++ 32 ∷ rest) ≡ length w
blank_place [] rest none = refl
blank_place (b ∷ w) rest none =
    let both = and_parts (not (is_blank b)) (list_all (λ c. not (is_blank c)) w) none in
    ap (λ t. cond t (1 + prefix_len (λ c. not (is_blank c)) (w ++ 32 ∷ rest)) 0) both.0
    ∙ omega (arith, blank_place w rest both.1)

pub word_is : (w rest : List ℕ) → IsWord w → first_word (w ++ 32 ∷ rest) ≡ w
word_is w rest word =
    ap (λ n. take n (w ++ 32 ∷ rest)) (blank_place w rest word.none)
    ∙ take-append_seam w (32 ∷ rest)

pub behind_is : (w rest : List ℕ) → IsWord w → behind_word (w ++ 32 ∷ rest) ≡ without_blanks rest
behind_is w rest word =
    ap (λ n. without_blanks (drop (n + 1) (w ++ 32 ∷ rest))) (blank_place w rest word.none)
    ∙ ap (λ l. without_blanks (drop (length w + 1) l)) (sym (append_assoc w (32 ∷ []) rest))
    ∙ ap without_blanks
    (drop_at (w ++ 32 ∷ []) rest (length w + 1) (omega (arith, length-append w (32 ∷ []))))

-- a word begins with no blank
pub no_blank : (w rest : List ℕ) → IsWord w → without_blanks (w ++ rest) ≡ w ++ rest
no_blank [] rest word = absurd (omega (arith, word.some))
no_blank (b ∷ w) rest word =
    let both = and_parts (not (is_blank b)) (list_all (λ c. not (is_blank c)) w) word.none in
    by_blank (is_blank b) both.0
  where
    by_blank : (t : Bool) → not t ≡ true
        → (if t then without_blanks (w ++ rest) else b ∷ w ++ rest) ≡ b ∷ w ++ rest
    by_blank true e = absurd cc
    by_blank false e = refl

-- Names and numbers.

pub name_of_weekday : (n : ℕ) → n < 7
    → IsWord (weekday_name n) × (is_weekday (weekday_name n) ≡ true)
unfolding is_weekday
name_of_weekday zero h =
    (record { some = omega arith; none = refl; line = refl }, refl)
name_of_weekday (suc zero) h =
    (record { some = omega arith; none = refl; line = refl }, refl)
name_of_weekday (suc (suc zero)) h =
    (record { some = omega arith; none = refl; line = refl }, refl)
name_of_weekday (suc (suc (suc zero))) h =
    (record { some = omega arith; none = refl; line = refl }, refl)
name_of_weekday (suc (suc (suc (suc zero)))) h =
    (record { some = omega arith; none = refl; line = refl }, refl)
name_of_weekday (suc (suc (suc (suc (suc zero))))) h =
    (record { some = omega arith; none = refl; line = refl }, refl)
name_of_weekday (suc (suc (suc (suc (suc (suc zero)))))) h =
    (record { some = omega arith; none = refl; line = refl }, refl)
name_of_weekday (suc (suc (suc (suc (suc (suc (suc n))))))) h = absurd (omega arith)

abbrev pub NamesMonth : ℕ → Type 0
NamesMonth n = IsWord (month_name n) × (month_of (month_name n) ≡ Some n)

pub name_of_month : (n : ℕ) → n < 12 → NamesMonth (suc n)
unfolding month_of
name_of_month zero h =
    (record { some = omega arith; none = refl; line = refl }, refl)
name_of_month (suc zero) h =
    (record { some = omega arith; none = refl; line = refl }, refl)
name_of_month (suc (suc zero)) h =
    (record { some = omega arith; none = refl; line = refl }, refl)
name_of_month (suc (suc (suc zero))) h =
    (record { some = omega arith; none = refl; line = refl }, refl)
name_of_month (suc (suc (suc (suc zero)))) h =
    (record { some = omega arith; none = refl; line = refl }, refl)
name_of_month (suc (suc (suc (suc (suc zero))))) h =
    (record { some = omega arith; none = refl; line = refl }, refl)
name_of_month (suc (suc (suc (suc (suc (suc zero)))))) h =
    (record { some = omega arith; none = refl; line = refl }, refl)
name_of_month (suc (suc (suc (suc (suc (suc (suc zero))))))) h =
    (record { some = omega arith; none = refl; line = refl }, refl)
name_of_month (suc (suc (suc (suc (suc (suc (suc (suc zero)))))))) h =
    (record { some = omega arith; none = refl; line = refl }, refl)
name_of_month (suc (suc (suc (suc (suc (suc (suc (suc (suc zero))))))))) h =
    (record { some = omega arith; none = refl; line = refl }, refl)
name_of_month (suc (suc (suc (suc (suc (suc (suc (suc (suc (suc zero)))))))))) h =
    (record { some = omega arith; none = refl; line = refl }, refl)
name_of_month (suc (suc (suc (suc (suc (suc (suc (suc (suc (suc (suc zero))))))))))) h =
    (record { some = omega arith; none = refl; line = refl }, refl)
name_of_month (suc (suc (suc (suc (suc (suc (suc (suc (suc (suc (suc (suc n)))))))))))) h =
    absurd (omega arith)

-- a digit is no blank
digit_no_blank : (n : ℕ) → n < 10 → is_blank (48 + n) ≡ false
digit_no_blank n h = grind (arith, nat_tests)

-- nor LF
pub digit_no_feed : (n : ℕ) → (48 + n == 10) ≡ false
digit_no_feed n = grind (arith, nat_tests)

pub digits_are : (n : ℕ) → n < 100 → zone.two_digits (48 + n / 10) (48 + n % 10) ≡ Some n
digits_are n h =
    let low : n / 10 < 10 = omega arith in
    let high : n % 10 < 10 = omega arith in
    let whole : (48 + n / 10 - 48) * 10 + (48 + n % 10 - 48) ≡ n = omega arith in
    grind (arith, nat_tests)

pub digits_line : (n : ℕ) → list_all (λ b. not (b == 10)) (two_digits n) ≡ true
digits_line n =
    ap (λ t. not t && (not (48 + n % 10 == 10) && true)) (digit_no_feed (n / 10))
    ∙ ap (λ t. not t && true) (digit_no_feed (n % 10))

pub digits_word : (n : ℕ) → n < 100 → IsWord (two_digits n)
digits_word n h = record {
  some = omega arith;
  none = ap (λ t. not t && (not (is_blank (48 + n % 10)) && true))
      (digit_no_blank (n / 10) (omega arith))
      ∙ ap (λ t. not t && true) (digit_no_blank (n % 10) (omega arith));
  line = digits_line n;
}

-- what holds of the bytes of two texts
pub all_both : (p : ℕ → Bool) (v w : List ℕ) → list_all p v ≡ true → list_all p w ≡ true
    → list_all p (v ++ w) ≡ true
all_both p [] w a b = b
all_both p (c ∷ v) w a b =
    let both = and_parts (p c) (list_all p v) a in
    ap (λ t. t && list_all p (v ++ w)) both.0 ∙ all_both p v w both.1 b

pub both_words : (v w : List ℕ) → IsWord v → IsWord w → IsWord (v ++ w)
both_words v w a b = record {
  some = omega (arith, length-append v w, a.some);
  none = all_both (λ c. not (is_blank c)) v w a.none b.none;
  line = all_both (λ c. not (c == 10)) v w a.line b.line;
}

colon_word : IsWord (58 ∷ [])
colon_word = record { some = omega arith; none = refl; line = refl }

pub clock_word : (second : ℕ) → second < 86_400 → IsWord (clock_text second)
clock_word second h =
    let hour = two_digits (second / 3600) in
    let minute = two_digits (second % 3600 / 60) in
    let last = two_digits (second % 60) in
    both_words hour (58 ∷ (minute ++ 58 ∷ last)) (digits_word (second / 3600) (omega arith))
    (both_words (58 ∷ []) (minute ++ 58 ∷ last) colon_word
    (both_words minute (58 ∷ last) (digits_word (second % 3600 / 60) (omega arith))
    (both_words (58 ∷ []) last colon_word (digits_word (second % 60) (omega arith)))))

pub year_word : (year : ℕ) → year < 10_000 → IsWord (year_text year)
year_word year h =
    both_words (two_digits (year / 100)) (two_digits (year % 100))
    (digits_word (year / 100) (omega arith)) (digits_word (year % 100) (omega arith))

one_digit_is : (n : ℕ) → n < 10 → one_digit (48 + n) ≡ Some n
one_digit_is n small =
    let whole : 48 + n - 48 ≡ n = omega arith in
    grind (arith, nat_tests)

-- a day of one or two digits
abbrev pub day_text : ℕ → List ℕ
day_text day = if nat_lt day 10 then (48 + day % 10) ∷ [] else two_digits day

-- What a padded day is among other words.
pub record IsDay (day : ℕ) : Type 0 where
  pub word : IsWord (day_text day)
  pub padded : (rest : List ℕ) → without_blanks (padded day ++ rest) ≡ day_text day ++ rest
  pub reads : day_of (day_text day) ≡ Some day

pub day_is : (day : ℕ) → day < 100 → IsDay day
day_is day h = by_size (nat_lt day 10) refl
  where
    last_word : IsWord ((48 + day % 10) ∷ [])
    last_word = record {
      some = omega arith;
      none = ap (λ t. not t && true) (digit_no_blank (day % 10) (omega arith));
      line = ap (λ t. not t && true) (digit_no_feed (day % 10));
    }

    by_size : (t : Bool) → nat_lt day 10 ≡ t → IsDay day
    by_size true e =
        let small : day < 10 = grind (arith, nat_tests) in
        let same : day % 10 ≡ day = omega arith in
        let text : day_text day ≡ (48 + day % 10) ∷ [] =
        ap (λ t. if t then (48 + day % 10) ∷ [] else two_digits day) e in
        record {
          word = subst IsWord (sym text) last_word;
          padded = λ rest. ap (λ t. without_blanks ((if t then 32 else 48 + day / 10)
              ∷ (48 + day % 10) ∷ rest)) e
              ∙ no_blank ((48 + day % 10) ∷ []) rest last_word
              ∙ ap (λ l. l ++ rest) (sym text);
          reads = ap day_of text ∙ one_digit_is (day % 10) (omega arith) ∙ ap (λ n. Some n) same;
        }
    by_size false e =
        let text : day_text day ≡ two_digits day =
        ap (λ t. if t then (48 + day % 10) ∷ [] else two_digits day) e in
        record {
          word = subst IsWord (sym text) (digits_word day h);
          padded = λ rest. ap (λ t. without_blanks ((if t then 32 else 48 + day / 10)
              ∷ (48 + day % 10) ∷ rest)) e
              ∙ no_blank (two_digits day) rest (digits_word day h)
              ∙ ap (λ l. l ++ rest) (sym text);
          reads = ap day_of text ∙ digits_are day h;
        }

on_clock : (hour minute second : ℕ) → nat_le hour 23 ≡ true → nat_le minute 59 ≡ true
    → nat_le second 60 ≡ true → clock_at (Some hour) (Some minute) (Some second)
    ≡ Some (hour * 3600 + minute * 60 + min second 59)
on_clock hour minute second hours minutes seconds = rw (hours, minutes, seconds) refl

pub clock_is : (second : ℕ) → second < 86_400 → clock_of (clock_text second) ≡ Some second
clock_is second h =
    let hour = second / 3600 in
    let minute = second % 3600 / 60 in
    let last = second % 60 in
    let whole : hour * 3600 + minute * 60 + min last 59 ≡ second = omega arith in
    let hours : nat_le hour 23 ≡ true = le-leb hour 23 (omega arith) in
    let minutes : nat_le minute 59 ≡ true = le-leb minute 59 (omega arith) in
    let seconds : nat_le last 60 ≡ true = le-leb last 60 (omega arith) in
    ap (λ o. clock_at o (zone.two_digits (48 + minute / 10) (48 + minute % 10))
    (zone.two_digits (48 + last / 10) (48 + last % 10))) (digits_are hour (omega arith))
    ∙ ap (λ o. clock_at (Some hour) o (zone.two_digits (48 + last / 10) (48 + last % 10)))
    (digits_are minute (omega arith))
    ∙ ap (λ o. clock_at (Some hour) (Some minute) o) (digits_are last (omega arith))
    ∙ on_clock hour minute last hours minutes seconds ∙ ap (λ n. Some n) whole

pub year_is : (year : ℕ) → year < 10_000 → ending_of (year_text year) ≡ Some (year, pos 0)
year_is year h =
    let whole : year / 100 * 100 + year % 100 ≡ year = omega arith in
    let century = digits_are (year / 100) (omega arith) in
    let last = digits_are (year % 100) (omega arith) in
    let reads : year_of (year_text year) ≡ Some year =
    ap (λ o. in_century o (zone.two_digits (48 + year % 100 / 10) (48 + year % 100 % 10))) century
    ∙ ap (in_century (Some (year / 100))) last ∙ ap (λ n. Some n) whole in
    let text = year_text year in
    ap (λ o. first_some (ending_with o (Some (pos 0)))
    (first_some (ending_with (year_of (behind_word text)) (zone_of (first_word text)))
    (ending_with (year_of (first_word text)) (zone_of (behind_word text))))) reads
