-- A stamp is read as the moment that it was written for.
use Rattle.std.proofs.Common.{◌≡◌, ◌∙◌, sym, ap, refl, arith, ℕ, suc, ◌+◌, ◌-◌, ◌/◌, ◌%◌, ◌<◌, ◌&&◌}
use Rattle.std.proofs.Common.{◌==◌, not, ℤ, pos, negsuc, ◌+ℤ◌, ◌-ℤ◌, ◌*ℤ◌, ◌≤ℤ◌, Bool, true, false}
use Rattle.std.proofs.Common.{List, [], ◌∷◌, ◌++◌, Option, Some, None, append-nil, subst}
use Rattle.std.specs.Prelude.{if◌then◌else◌, nat_lt, option_map, unsigned_abs}
use Rattle.std.specs.List.{list_all}
use Rattle.std.proofs.lemmas.Int.{clamps, ints}
use Rattle.jiff_core.proofs.CalendarLemmas.{days_in_month_bounds, weekday_number_bound}
use Rattle.jiff_core.proofs.SignedLemmas.{one_part, signed_arith}
use Rattle.jiff_core.specs.Calendar.{days_from_civil, weekday_number}
use Rattle.jiff_core.specs.Date.{epoch_day}
use Rattle.jiff_core.specs.declared.civil.date.Date.{Date}
use Rattle.mail_base.specs.Blanks.{without_blanks}
use Rattle.mail_base.specs.Words.{behind_word, first_word}
use Rattle.folder_core.specs.Mbox.{clock_of, day_of, ending_of, is_weekday, moment_of, month_of}
use Rattle.folder_core.specs.Mbox.{stamp, in_clock_range}
use Rattle.folder_letters.specs.Moments.{IsClockMoment}
use Rattle.mbox_text.proofs.StampLemmas.{midnight-date}
use Rattle.folder_drivers.specs.MboxStamp.{asctime, clock_text, month_name, padded, two_digits}
use Rattle.folder_drivers.specs.MboxStamp.{weekday_name, day_of_month, month_of_day, spaced}
use Rattle.folder_drivers.specs.MboxStamp.{stamp_text}
use Rattle.folder_drivers.specs.MboxStamp.{year_text}
use Rattle.mbox_items.proofs.CalendarLemmas.{abs_is, from_1970, stamp_text_is}
use Rattle.mbox_items.proofs.Days.{date_of}
use Rattle.mbox_items.proofs.Words.{all_both, behind_is, clock_is, clock_word, day_is, day_text}
use Rattle.mbox_items.proofs.Words.{digit_no_feed, digits_line, name_of_month, name_of_weekday}
use Rattle.mbox_items.proofs.Words.{no_blank, word_is, year_is, year_word}

-- The whole stamp.

-- the moment of a stamp of these words
stamp_of : List ℕ → List ℕ → List ℕ → List ℕ → List ℕ → Option ℤ
stamp_of weekday month day clock ending =
    if is_weekday weekday
    then moment_of (month_of month) (day_of day) (clock_of clock) (ending_of ending)
    else None

-- a second of a day of the calendar
pub stamp_reads : (year month day second : ℕ) → year < 10_000 → month < 12
    → day < 100 → second < 86_400
    → stamp (asctime year (suc month) day second)
    ≡ moment_of (Some (suc month)) (Some day) (Some second) (Some (year, pos 0))
unfolding stamp stamp_of
stamp_reads year month day second short high few some =
    let number = weekday_number (days_from_civil (pos year) (suc month) day) in
    let w = weekday_name number in
    let m = month_name (suc month) in
    let d = day_text day in
    let c = clock_text second in
    let y = year_text year in
    let weekday = name_of_weekday number
    (weekday_number_bound (days_from_civil (pos year) (suc month) day)) in
    let named = name_of_month month high in
    let dated = day_is day few in
    let clock = clock_word second some in
    let ending = year_word year short in
    let at_year = y in
    let at_clock = c ++ 32 ∷ at_year in
    let at_day = d ++ 32 ∷ at_clock in
    let at_month = m ++ 32 ∷ (padded day ++ 32 ∷ at_clock) in
    let text = asctime year (suc month) day second in
    let e1 : behind_word text ≡ at_month =
    behind_is w at_month weekday.0 ∙ no_blank m (32 ∷ (padded day ++ 32 ∷ at_clock)) named.0 in
    let e2 : behind_word at_month ≡ at_day =
    behind_is m (padded day ++ 32 ∷ at_clock) named.0 ∙ dated.padded (32 ∷ at_clock) in
    let e3 : behind_word at_day ≡ at_clock =
    behind_is d at_clock dated.word ∙ no_blank c (32 ∷ at_year) clock in
    let e4 : behind_word at_clock ≡ at_year =
    behind_is c at_year clock ∙ ap without_blanks (sym (append-nil y)) ∙ no_blank y [] ending
    ∙ append-nil y in
    let p2 : behind_word (behind_word text) ≡ at_day = ap behind_word e1 ∙ e2 in
    let p3 : behind_word (behind_word (behind_word text)) ≡ at_clock = ap behind_word p2 ∙ e3 in
    ap (λ l. stamp_of l (first_word (behind_word text))
    (first_word (behind_word (behind_word text)))
    (first_word (behind_word (behind_word (behind_word text))))
    (behind_word (behind_word (behind_word (behind_word text))))) (word_is w at_month weekday.0)
    ∙ ap (λ l. stamp_of w (first_word l) (first_word (behind_word (behind_word text)))
    (first_word (behind_word (behind_word (behind_word text))))
    (behind_word (behind_word (behind_word (behind_word text))))) e1
    ∙ ap (λ l. stamp_of w (first_word at_month) (first_word l)
    (first_word (behind_word (behind_word (behind_word text))))
    (behind_word (behind_word (behind_word (behind_word text))))) p2
    ∙ ap (λ l. stamp_of w (first_word at_month) (first_word at_day) (first_word l)
    (behind_word l)) p3
    ∙ ap (λ l. stamp_of w l (first_word at_day) (first_word at_clock) (behind_word at_clock))
    (word_is m (padded day ++ 32 ∷ at_clock) named.0)
    ∙ ap (λ l. stamp_of w m l (first_word at_clock) (behind_word at_clock))
    (word_is d at_clock dated.word)
    ∙ ap (λ l. stamp_of w m d l (behind_word at_clock)) (word_is c at_year clock)
    ∙ ap (λ l. stamp_of w m d c l) e4
    ∙ ap (λ t. if t then moment_of (month_of m) (day_of d) (clock_of c) (ending_of y) else None)
    weekday.1
    ∙ ap (λ o. moment_of o (day_of d) (clock_of c) (ending_of y)) named.1
    ∙ ap (λ o. moment_of (Some (suc month)) o (clock_of c) (ending_of y)) dated.reads
    ∙ ap (λ o. moment_of (Some (suc month)) (Some day) o (ending_of y)) (clock_is second some)
    ∙ ap (λ o. moment_of (Some (suc month)) (Some day) (Some second) o) (year_is year short)

-- A stamp is a line.

-- bytes of which none is LF
abbrev pub IsPlain : List ℕ → Type 0
IsPlain s = list_all (λ b. not (b == 10)) s ≡ true

pub spaced_plain : (word rest : List ℕ) → IsPlain word → IsPlain rest → IsPlain (spaced word rest)
spaced_plain word rest a b = all_both (λ c. not (c == 10)) word (32 ∷ rest) a b

padded_plain : (day : ℕ) → IsPlain (padded day)
padded_plain day = by_size (nat_lt day 10)
  where
    last : (not (48 + day % 10 == 10) && true) ≡ true
    last = ap (λ t. not t && true) (digit_no_feed (day % 10))

    by_size : (t : Bool)
        → IsPlain ((if t then 32 else 48 + day / 10) ∷ (48 + day % 10) ∷ [])
    by_size true = last
    by_size false =
        ap (λ t. not t && (not (48 + day % 10 == 10) && true)) (digit_no_feed (day / 10)) ∙ last

asctime_plain : (year month day second : ℕ) → month < 12
    → IsPlain (asctime year (suc month) day second)
asctime_plain year month day second high =
    let number = weekday_number (days_from_civil (pos year) (suc month) day) in
    let weekday = name_of_weekday number
    (weekday_number_bound (days_from_civil (pos year) (suc month) day)) in
    let hour = two_digits (second / 3600) in
    let minute = two_digits (second % 3600 / 60) in
    let last = two_digits (second % 60) in
    let clock : IsPlain (clock_text second) =
    all_both (λ c. not (c == 10)) hour (58 ∷ (minute ++ 58 ∷ last)) (digits_line (second / 3600))
    (all_both (λ c. not (c == 10)) minute (58 ∷ last) (digits_line (second % 3600 / 60))
    (digits_line (second % 60))) in
    let ending : IsPlain (year_text year) =
    all_both (λ c. not (c == 10)) (two_digits (year / 100)) (two_digits (year % 100))
    (digits_line (year / 100)) (digits_line (year % 100)) in
    let at_clock = spaced (clock_text second) (year_text year) in
    let at_day = spaced (padded day) at_clock in
    spaced_plain (weekday_name number) (spaced (month_name (suc month)) at_day) weekday.0.line
    (spaced_plain (month_name (suc month)) at_day (name_of_month month high).0.line
    (spaced_plain (padded day) at_clock (padded_plain day)
    (spaced_plain (clock_text second) (year_text year) clock ending)))

pub stamp_plain : (moment : ℤ) → IsPlain (stamp_text moment)
unfolding stamp_text
stamp_plain moment =
    let day = pos (unsigned_abs moment / 86_400) in
    let month = month_of_day day in
    let next : suc (month % 12) ≡ month % 12 + 1 = omega arith in
    subst (λ m. IsPlain (asctime (1970 + month / 12) m (day_of_month month day)
    (unsigned_abs moment % 86_400))) next
    (asctime_plain (1970 + month / 12) (month % 12) (day_of_month month day)
    (unsigned_abs moment % 86_400) (omega arith))

-- The moment of a stamp.

-- a time of day on a date
on_date : (d : Date) (second : ℕ) → pos 1970 ≤ℤ d.year → second < 86_400
    → stamp (asctime (unsigned_abs d.year) d.month d.day second)
    ≡ Some (in_clock_range (epoch_day d *ℤ pos 86_400 +ℤ pos second -ℤ pos 0))
on_date d second from some =
    let year = unsigned_abs d.year in
    let high = d.month_in in
    let short : year < 10_000 = omega (arith, signed_arith, d.year_in, one_part d.year) in
    let month : suc (d.month - 1) ≡ d.month = omega arith in
    let few : d.day < 100 = omega (arith, d.day_in, days_in_month_bounds d.year d.month) in
    let is : pos year ≡ d.year = abs_is d.year (omega (arith, signed_arith)) in
    ap (λ m. stamp (asctime year m d.day second)) (sym month)
    ∙ stamp_reads year (d.month - 1) d.day second short (omega arith) few some
    ∙ ap (λ m. moment_of (Some m) (Some d.day) (Some second) (Some (year, pos 0))) month
    ∙ ap (option_map (λ start. in_clock_range (start +ℤ pos second -ℤ pos 0)))
    (sym (midnight-date d year d.month d.day (sym is, refl, refl)))

pub stamp_is_read : (moment : ℤ) → IsClockMoment moment → stamp (stamp_text moment) ≡ Some moment
stamp_is_read moment h =
    let day = unsigned_abs moment / 86_400 in
    let second = unsigned_abs moment % 86_400 in
    let there = date_of day (omega (arith, signed_arith, h.least, h.greatest, one_part moment)) in
    let d = there.0 in
    let from = from_1970 d (omega (arith, signed_arith, there.1)) in
    ap stamp (sym (stamp_text_is d moment there.1)) ∙ on_date d second from (omega arith)
    ∙ ap (λ z. Some (in_clock_range (z *ℤ pos 86_400 +ℤ pos second -ℤ pos 0))) there.1
    ∙ ap (λ (z : ℤ). Some z) (in_range moment h)
  where
    in_range : (moment : ℤ) → IsClockMoment moment
        → in_clock_range (pos (unsigned_abs moment / 86_400) *ℤ pos 86_400
        +ℤ pos (unsigned_abs moment % 86_400) -ℤ pos 0) ≡ moment
    in_range (pos n) h =
        let least = h.least in
        let greatest = h.greatest in
        omega (arith, ints, clamps)
    in_range (negsuc n) h = absurd (omega (arith, signed_arith, h.least))
