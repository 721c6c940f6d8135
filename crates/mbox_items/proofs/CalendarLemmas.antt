-- A date of the calendar is what the definitions say of its day.
use Rattle.std.proofs.Common.{◌≡◌, ◌∙◌, sym, ap, refl, arith, ℕ, zero, suc, ◌+◌, ◌-◌, ◌*◌, ◌/◌, ◌%◌}
use Rattle.std.proofs.Common.{◌^◌, ◌≤◌, ◌<◌, ℤ, pos, negsuc, ◌+ℤ◌, ◌-ℤ◌, ◌≤ℤ◌, ◌<ℤ◌, ⊎_elim, Bool}
use Rattle.std.proofs.Common.{true, false, w16, w64, to_z, of_z, unsigned_abs}
use Rattle.std.specs.Prelude.{int_le, if◌then◌else◌}
use Rattle.std.proofs.lemmas.Bool.{cases_lt}
use Rattle.std.proofs.lemmas.Int.{by_lt_z}
use Rattle.jiff_core.proofs.CalendarLemmas.{day_count-day, day_count-lt_month, day_count-lt_year}
use Rattle.jiff_core.proofs.CalendarLemmas.{day_count-epoch, days_from_civil-day_count}
use Rattle.jiff_core.proofs.DateLemmas.{civil, days_from_civil-day}
use Rattle.jiff_core.proofs.SignedLemmas.{back_small, one_part, signed_arith}
use Rattle.jiff_core.specs.Calendar.{IsYear, days_from_civil}
use Rattle.jiff_core.specs.Date.{epoch_day}
use Rattle.jiff_core.specs.declared.civil.date.Date.{Date}
use Rattle.folder_letters.specs.Moments.{IsClockMoment}
use Rattle.folder_drivers.specs.MboxStamp.{asctime, day_of_month, month_begun, month_of_day}
use Rattle.folder_drivers.specs.MboxStamp.{month_start}
use Rattle.folder_drivers.specs.MboxStamp.{stamp_on, stamp_text}

pub abs_is : (z : ℤ) → pos 0 ≤ℤ z → pos (unsigned_abs z) ≡ z
abs_is (pos n) h = refl
abs_is (negsuc n) h = absurd (omega (arith, signed_arith))

year_fits : (y : ℤ) → IsYear y → unsigned_abs y < 2 ^ 15
year_fits (pos n) h = omega (arith, signed_arith)
year_fits (negsuc n) h = omega (arith, signed_arith)

-- a year comes back from its bits
pub back_year : (y : ℤ) → IsYear y → to_z w16 (of_z w16 y) ≡ y
back_year y h = back_small w16 y (year_fits y h)

-- and so does a moment
pub back_moment : (moment : ℤ) → IsClockMoment moment → to_z w64 (of_z w64 moment) ≡ moment
back_moment moment h =
    back_small w64 moment (omega (arith, signed_arith, h.least, h.greatest, one_part moment))

-- a date from 1970 on
record IsLate (d : Date) : Type 0 where
  year : ℕ
  is : d.year ≡ pos year
  from : 1970 ≤ year
  to : year ≤ 9999

late : (d : Date) → pos 1970 ≤ℤ d.year → IsLate d
late d from = record {
  year = unsigned_abs d.year;
  is = sym (abs_is d.year (omega (arith, signed_arith)));
  from = omega (arith, signed_arith);
  to = omega (arith, signed_arith, d.year_in, one_part d.year);
}

-- a month, which is counted from January 1970
abbrev month_at : ℕ → ℕ → ℕ
month_at year month = (year - 1970) * 12 + (month - 1)

-- the first day of a month
start_is : (year month : ℕ) → 1970 ≤ year → 1 ≤ month → month ≤ 12
    → month_start (month_at year month) ≡ days_from_civil (pos year) month 1
start_is year month from low high =
    let y : 1970 + month_at year month / 12 ≡ year = omega arith in
    let m : month_at year month % 12 + 1 ≡ month = omega arith in
    ap (λ k. days_from_civil (pos k) (month_at year month % 12 + 1) 1) y
    ∙ ap (λ k. days_from_civil (pos year) k 1) m

-- a date's month starts no later than its days
starts_before : (d : Date) (l : IsLate d)
    → month_start (month_at l.year d.month) ≤ℤ epoch_day d
starts_before d l =
    let start = start_is l.year d.month l.from d.month_in.0 d.month_in.1
    ∙ ap (λ y. days_from_civil y d.month 1) (sym l.is) in
    let first = day_count-day d.year d.month d.day 1 d.day_in.0 (omega arith) in
    omega (arith, signed_arith, days_from_civil-day_count, first, d.day_in.0, start)

-- a later month starts later
starts_later : (d : Date) (l : IsLate d) (m : ℕ) → month_at l.year d.month < m
    → epoch_day d <ℤ month_start m
starts_later d l m later = ⊎_elim in_year in_month (cases_lt l.year (1970 + m / 12))
  where
    in_year : l.year < 1970 + m / 12 → epoch_day d <ℤ month_start m
    in_year less =
        let first = day_count-lt_year d.year d.month d.day (pos (1970 + m / 12)) (m % 12 + 1) 1
        (civil d) (omega arith) (omega (arith, signed_arith, l.is)) in
        omega (arith, signed_arith, days_from_civil-day_count, first)

    in_month : 1970 + m / 12 ≤ l.year → epoch_day d <ℤ month_start m
    in_month less =
        let some = d.month_in in
        let from = l.from in
        let same : 1970 + m / 12 ≡ l.year = omega arith in
        let more : d.month < m % 12 + 1 = omega arith in
        let start : month_start m ≡ days_from_civil d.year (m % 12 + 1) 1 =
        ap (λ k. days_from_civil (pos k) (m % 12 + 1) 1) same
        ∙ ap (λ y. days_from_civil y (m % 12 + 1) 1) (sym l.is) in
        let first = day_count-lt_month d.year d.month d.day (m % 12 + 1) 1 (civil d) (omega arith)
        more in
        omega (arith, signed_arith, days_from_civil-day_count, first, start)

-- a choice whose both sides are the same
chosen : (b : Bool) (x y z : ℕ) → (b ≡ true → x ≡ z) → (b ≡ false → y ≡ z)
    → (if b then x else y) ≡ z
chosen true x y z first second = first refl
chosen false x y z first second = second refl

-- the last month that has begun by a date's day is its own
begun_is : (d : Date) (l : IsLate d) (n : ℕ) → month_at l.year d.month ≤ n
    → month_begun (epoch_day d) n ≡ month_at l.year d.month
unfolding month_begun
begun_is d l zero within = omega arith
begun_is d l (suc n) within =
    chosen (int_le (month_start (suc n)) (epoch_day d)) _ _ _ now
    (λ ahead. begun_is d l n (before ahead))
  where
    now : int_le (month_start (suc n)) (epoch_day d) ≡ true → suc n ≡ month_at l.year d.month
    now begun = ⊎_elim
        (λ later.
        let less = starts_later d l (suc n) later in absurd (omega (arith, signed_arith)))
        (λ less. omega arith) (cases_lt (month_at l.year d.month) (suc n))

    before : int_le (month_start (suc n)) (epoch_day d) ≡ false → month_at l.year d.month ≤ n
    before ahead = ⊎_elim (λ less. omega arith)
        (λ more.
        let last : suc n ≡ month_at l.year d.month = omega arith in
        let same = ap month_start last in
        let begun = starts_before d l in absurd (omega (arith, signed_arith)))
        (cases_lt (month_at l.year d.month) (suc n))

-- the place of a day in its month
place_is : (a b : ℤ) (n : ℕ) → 1 ≤ n → a +ℤ pos 1 ≡ b +ℤ pos n → unsigned_abs (a -ℤ b) + 1 ≡ n
place_is a b n some e = omega (arith, signed_arith, one_part (a -ℤ b))

-- a second of a date's day
pub stamp_is : (d : Date) (second : ℕ) → pos 1970 ≤ℤ d.year
    → asctime (unsigned_abs d.year) d.month d.day second ≡ stamp_on (epoch_day d) second
stamp_is d second from =
    let l = late d from in
    let some = d.month_in in
    let low = l.from in
    let high = l.to in
    let n = month_at l.year d.month in
    let month : month_of_day (epoch_day d) ≡ n = begun_is d l 96_359 (omega arith) in
    let y : 1970 + n / 12 ≡ unsigned_abs d.year = omega (arith, ap unsigned_abs l.is) in
    let m : n % 12 + 1 ≡ d.month = omega arith in
    let start = start_is l.year d.month l.from d.month_in.0 d.month_in.1
    ∙ ap (λ y. days_from_civil y d.month 1) (sym l.is) in
    let day : day_of_month n (epoch_day d) ≡ d.day =
    place_is (epoch_day d) (month_start n) d.day d.day_in.0
    (days_from_civil-day d.year d.month d.day 1 d.day_in.0 (omega arith)
    ∙ ap (λ z. z +ℤ pos d.day) (sym start)) in
    sym (ap (λ k. asctime (1970 + k / 12) (k % 12 + 1) (day_of_month k (epoch_day d)) second) month
    ∙ ap (λ k. asctime k (n % 12 + 1) (day_of_month n (epoch_day d)) second) y
    ∙ ap (λ k. asctime (unsigned_abs d.year) k (day_of_month n (epoch_day d)) second) m
    ∙ ap (λ k. asctime (unsigned_abs d.year) d.month k second) day)

-- a day from 1970 on
pub from_1970 : (d : Date) → pos 0 ≤ℤ epoch_day d → pos 1970 ≤ℤ d.year
from_1970 d day = by_lt_z d.year (pos 1970)
    (λ less.
    let some : 1 ≤ 1 = omega arith in
    let first = day_count-lt_year d.year d.month d.day (pos 1970) 1 1 (civil d) some less in
    absurd (omega (arith, signed_arith, days_from_civil-day_count, first, day_count-epoch)))
    (λ more. more)

pub stamp_text_is : (d : Date) (moment : ℤ) → epoch_day d ≡ pos (unsigned_abs moment / 86_400)
    → asctime (unsigned_abs d.year) d.month d.day (unsigned_abs moment % 86_400)
    ≡ stamp_text moment
unfolding stamp_text
stamp_text_is d moment day =
    stamp_is d (unsigned_abs moment % 86_400) (from_1970 d (omega (arith, signed_arith, day)))
    ∙ ap (λ z. stamp_on z (unsigned_abs moment % 86_400)) day
