-- A date and a time of day are what the definitions say of the day and the second.
use Rattle.std.proofs.Common.{◌≡◌, ◌∙◌, sym, ap, refl, subst, w64, FitsSigned, arith, ◌+◌, ◌/◌, ◌%◌}
use Rattle.std.proofs.Common.{◌≤◌, ◌<◌, ℕ, zero, suc, ℤ, pos, ◌+ℤ◌, ◌-ℤ◌, ◌≤ℤ◌, ◌<ℤ◌, ⊎_elim}
use Rattle.std.proofs.lemmas.Bool.{and_from, and_parts, cases_Bool, cases_lt, false≢true}
use lib.Signed.{le_z_yes}
use Rattle.std.specs.Prelude.{Bool, neg_ℤ, true, false, Some, None, int_le, unsigned_abs}
use Rattle.std.specs.Prelude.{if◌then◌else◌}
use Rattle.std.specs.Int.{int_div_euclid, int_rem_euclid}
use Rattle.jiff_core.proofs.CalendarLemmas.{day_count-day, day_count-lt_month}
use Rattle.jiff_core.proofs.CalendarLemmas.{days_from_civil-day_count}
use Rattle.jiff_core.proofs.DateLemmas.{civil, days_from_civil-day, epoch_day-ordinal}
use Rattle.jiff_core.proofs.DateLemmas.{epoch_day_range}
use Rattle.jiff_core.proofs.SignedLemmas.{one_part, signed_arith}
use Rattle.jiff_core.specs.Calendar.{days_from_civil, IsEpochDay}
use Rattle.jiff_core.specs.Date.{epoch_day, ordinal, weekday_of}
use Rattle.jiff_core.specs.Time.{time_seconds}
use Rattle.jiff_core.specs.declared.civil.date.Date.{Date}
use Rattle.jiff_core.specs.declared.civil.time.Time.{Time}
use Rattle.jiff_core.specs.DateTime.{civil_seconds}
use Rattle.jiff_core.specs.declared.civil.datetime.DateTime.{DateTime}
use Rattle.jiff_strtime.specs.Text.{no_parts}
use Rattle.index_rows.specs.Laws.{parts_of_clock}
use Rattle.jiff_tz.proofs.YearLemmas.{year_of_day-date}
use Rattle.jiff_tz.specs.Year.{year_of_day}
use Rattle.index_rows.specs.Date.{has_day, month_of_day, months_begun, parts_at, parts_on}
use Rattle.index_rows.specs.Date.{place_from}

-- a choice whose both sides are the same
chosen : (b : Bool) (x y z : ℕ) → (b ≡ true → x ≡ z) → (b ≡ false → y ≡ z) → (if b then x else y)
    ≡ z
chosen true x y z first second = first refl
chosen false x y z first second = second refl

-- what a test tells
test_holds : (b : Bool) → b ≡ true → elim b as (λ _. Type 0) [ true ↦ Unit {0} | false ↦ ⊥ ]
test_holds true e = tt
test_holds false e = absurd cc

true_le : (a b : ℤ) → int_le a b ≡ true → a ≤ℤ b
true_le a b e = le_z_yes (test_holds (int_le a b) e)

le_true : (a b : ℤ) → a ≤ℤ b → int_le a b ≡ true
le_true a b h = elim (int_le a b) as (λ v. elim v as (λ _. Type 0) [ true ↦ Unit {0} | false ↦ ⊥ ]
    → v ≡ true)
    [ true ↦ λ _. refl | false ↦ λ f. absurd f ] h.le

-- the first of a month is no later than its days
first_of_month : (d : Date) → days_from_civil d.year d.month 1 ≤ℤ epoch_day d
first_of_month d =
    let first = day_count-day d.year d.month d.day 1 d.day_in.0 (omega arith) in
    omega (arith, signed_arith, days_from_civil-day_count, first, d.day_in.0)

-- the first of a later month is later
later_month : (d : Date) (m : ℕ) → d.month < m → epoch_day d <ℤ days_from_civil d.year m 1
later_month d m h =
    let first = day_count-lt_month d.year d.month d.day m 1 (civil d) (omega arith) h in
    omega (arith, signed_arith, days_from_civil-day_count, first)

-- no month has begun by a date's day that is later than its month
before_later : (d : Date) (m : ℕ) → int_le (days_from_civil d.year m 1) (epoch_day d) ≡ true
    → m ≤ d.month
before_later d m begun =
    let le = true_le (days_from_civil d.year m 1) (epoch_day d) begun in
    ⊎_elim (λ h. let lt = later_month d m h in absurd (omega (arith, signed_arith))) (λ h. h)
    (cases_lt d.month m)

-- a month that has not begun is later
month_begun : (d : Date) (m : ℕ) → int_le (days_from_civil d.year m 1) (epoch_day d) ≡ false
    → d.month ≤ m → d.month < m
month_begun d m later within =
    ⊎_elim (λ h. h)
    (λ h.
    let same : d.month ≡ m = omega arith in
    let first = ap (λ k. int_le (days_from_civil d.year k 1) (epoch_day d)) (sym same) in
    absurd (false≢true (sym later ∙ first ∙ le_true _ _ (first_of_month d))))
    (cases_lt d.month m)

-- the last month that has begun by a date's day is the date's
months_begun_is : (d : Date) (n : ℕ) → d.month ≤ n → months_begun d.year (epoch_day d) n ≡ d.month
months_begun_is d zero within = let some = d.month_in in absurd (omega arith)
months_begun_is d (suc n) within =
    chosen _ _ _ _ (λ begun. let low = before_later d (suc n) begun in omega arith)
    (λ later. let high = month_begun d (suc n) later within in months_begun_is d n (omega arith))

-- how far a day lies behind the one of place 1
place_of : (a b : ℤ) (n : ℕ) → 1 ≤ n → a +ℤ pos 1 ≡ b +ℤ pos n → unsigned_abs (a -ℤ b) + 1 ≡ n
place_of a b n some e = omega (arith, signed_arith, one_part (a -ℤ b))

-- the place of a date's day in its month
place_in_month : (d : Date) → place_from d.year d.month (epoch_day d) ≡ d.day
place_in_month d =
    place_of _ _ _ d.day_in.0 (days_from_civil-day d.year d.month d.day 1 d.day_in.0 (omega arith))

-- the place of a date's day in its year
place_in_year : (d : Date) → place_from d.year 1 (epoch_day d) ≡ ordinal d
place_in_year d = place_of _ _ _ (let some = d.day_in.0 in omega arith) (epoch_day-ordinal d)

-- the hour, minute and second of a second of a day
hour_is : (t : Time) → time_seconds t / 3600 ≡ t.hour
hour_is t = let h = t.hour_in in let m = t.minute_in in let s = t.second_in in omega arith

minute_is : (t : Time) → time_seconds t % 3600 / 60 ≡ t.minute
minute_is t = let h = t.hour_in in let m = t.minute_in in let s = t.second_in in omega arith

second_is : (t : Time) → time_seconds t % 60 ≡ t.second
second_is t = let h = t.hour_in in let m = t.minute_in in let s = t.second_in in omega arith

-- the parts of a date and a time
pub parts_on_clock : (c : DateTime) → parts_on (epoch_day c.date) (time_seconds c.time)
    ≡ parts_of_clock c
unfolding parts_on
parts_on_clock c =
    let d = c.date in
    let t = c.time in
    let day = epoch_day d in
    let year = year_of_day-date d in
    let month : month_of_day day ≡ d.month =
    let last = d.month_in in
    ap (λ y. months_begun y day 12) year ∙ months_begun_is d 12 (omega arith) in
    let in_month : place_from (year_of_day day) (month_of_day day) day ≡ d.day =
    (λ k. place_from (year k) (month k) day) ∙ place_in_month d in
    let in_year : place_from (year_of_day day) 1 day ≡ ordinal d =
    (λ k. place_from (year k) 1 day) ∙ place_in_year d in
    λ k. record no_parts {
      year = Some (year k);
      month = Some (month k);
      day = Some (in_month k);
      day_of_year = Some (in_year k);
      iso_week_year = Some (pos 0);
      iso_week = Some 0;
      hour = Some (hour_is t k);
      minute = Some (minute_is t k);
      second = Some (second_is t k);
      weekday = Some (weekday_of d);
    }

-- the parts of a date and a time are those at a second of which they are the day and the rest
pub clock_is : (seconds : ℤ) (d : Date) (t : Time) → epoch_day d
    ≡ int_div_euclid seconds (pos 86_400)
    → time_seconds t ≡ unsigned_abs (int_rem_euclid seconds (pos 86_400))
    → Some (parts_on (epoch_day d) (time_seconds t)) ≡ parts_at seconds
unfolding parts_at
clock_is seconds d t day rest =
    let within = subst IsEpochDay day (epoch_day_range d) in
    let there = and_from _ _ (le_true _ _ within.0) (le_true _ _ within.1) in
    let second = unsigned_abs (int_rem_euclid seconds (pos 86_400)) in
    let parts = parts_on (int_div_euclid seconds (pos 86_400)) second in
    (λ k. Some (parts_on (day k) (rest k))) ∙ sym (ap (λ b. if b then Some parts else None) there)

-- a moment whose day the calendar does not have
pub no_day : (seconds : ℤ) → ¬ (IsEpochDay (int_div_euclid seconds (pos 86_400)))
    → parts_at seconds ≡ None
unfolding parts_at
no_day seconds past =
    let day = int_div_euclid seconds (pos 86_400) in
    ⊎_elim
    (λ there.
    let low = neg_ℤ (pos 4_371_587) in
    let parts = and_parts (int_le low day) (int_le day (pos 2_932_896)) there in
    absurd (past (true_le low day parts.0, true_le day (pos 2_932_896) parts.1)))
    (λ off.
    let parts = parts_on day (unsigned_abs (int_rem_euclid seconds (pos 86_400))) in
    ap (λ b. if b then Some parts else None) off)
    (cases_Bool (has_day day))

-- a moment past what 64 bits hold
pub no_moment : (seconds : ℤ) → ¬ (FitsSigned w64 seconds) → parts_at seconds ≡ None
no_moment seconds past =
    no_day seconds (λ h. let low = h.0 in let high = h.1 in past (omega (arith, signed_arith)))

-- the day and the second of a clock's moment
day_of_moment : (c : DateTime) → int_div_euclid (civil_seconds c) (pos 86_400) ≡ epoch_day c.date
unfolding civil_seconds
day_of_moment c =
    let h = c.time.hour_in in let m = c.time.minute_in in let s = c.time.second_in in
    omega (arith, signed_arith)

second_of_moment : (c : DateTime) → unsigned_abs (int_rem_euclid (civil_seconds c) (pos 86_400))
    ≡ time_seconds c.time
unfolding civil_seconds
second_of_moment c =
    let h = c.time.hour_in in let m = c.time.minute_in in let s = c.time.second_in in
    omega (arith, signed_arith)

pub parts_at_moment : (c : DateTime) → parts_at (civil_seconds c) ≡ Some (parts_of_clock c)
parts_at_moment c =
    let day = sym (day_of_moment c) in
    let second = sym (second_of_moment c) in
    sym (clock_is (civil_seconds c) c.date c.time day second) ∙ ap Some (parts_on_clock c)
