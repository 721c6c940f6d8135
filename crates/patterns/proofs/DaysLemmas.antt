-- Days before others.
use Rattle.std.proofs.Common.{◌≡◌, ◌↔◌, ◌∙◌, ◌&&◌, ℕ, ℤ, pos, ◌+ℤ◌, ◌≤ℤ◌, neg_ℤ, Bool, true, false}
use Rattle.std.proofs.Common.{Some, None, Result, Ok, Err, IsOk, IfOk, option_map, refl, sym}
use Rattle.std.proofs.Common.{ap, subst, arith, int_le, if◌then◌else◌, ⊎_elim}
use Rattle.std.specs.Result.{result_ok}
use Rattle.std.proofs.lemmas.Bool.{cases_Bool, and_from, and_parts, false≢true}
use Rattle.jiff_core.specs.Calendar.{IsBetween, IsEpochDay}
use Rattle.jiff_core.specs.Date.{epoch_day}
use Rattle.jiff_core.specs.Span.{span_months}
use Rattle.jiff_core.specs.declared.civil.date.Date.{Date}
use Rattle.jiff_core.specs.declared.span.Span.{Span}
use Rattle.jiff_span.specs.Add.{CanAddToDate, date_add}
use Rattle.jiff_span.specs.Months.{IsShiftable}
use Rattle.jiff_core.specs.Span.{IsOnly, clock_days, magnitude, span_days}
use Rattle.jiff_core.specs.declared.unit.Unit.TheVariants.{Month, Day, Hour, Minute, Second}
use Rattle.jiff_core.specs.declared.unit.Unit.TheVariants.{Millisecond, Microsecond, Nanosecond}
use Rattle.jiff_span.specs.Months.{add_months, shifted_year}
use Rattle.jiff_span.proofs.DifferenceLemmas.{signed_zero}
use Rattle.jiff.proofs.SpanFacts.{date_add-days, signed_arith}
use Rattle.patterns.specs.Days.{days_back, has_day, has_year, in_calendar, months_back}
use lib.Signed.{le_z_yes}

yes : (b : Bool) → b ≡ true → elim b as (λ _. Type 0) [ true ↦ Unit {0} | false ↦ ⊥ ]
yes true e = tt
yes false e = absurd cc

pub le_true : (a b : ℤ) → a ≤ℤ b → int_le a b ≡ true
le_true a b h = elim (int_le a b) as (λ v. elim v as (λ _. Type 0) [ true ↦ Unit {0} | false ↦ ⊥ ]
    → v ≡ true)
    [ true ↦ λ _. refl | false ↦ λ no. absurd no ] h.le

pub true_le : (a b : ℤ) → int_le a b ≡ true → a ≤ℤ b
true_le a b e = le_z_yes (yes (int_le a b) e)

pub between_true : (low high z : ℤ) → IsBetween low high z → (int_le low z && int_le z high) ≡ true
between_true low high z h = and_from _ _ (le_true low z h.0) (le_true z high h.1)

pub true_between : (low high z : ℤ) → (int_le low z && int_le z high) ≡ true → IsBetween low high z
true_between low high z e =
    let parts = and_parts _ _ e in (true_le low z parts.0, true_le z high parts.1)

-- a date after a span, where the calendar has it
pub moved : {E : Type 0} (a : Date) (s : Span) (r : Result Date E) (reached : Bool) (day : ℤ)
    → (IsShiftable a (span_months s) → reached ≡ true)
    → (reached ≡ true → IsShiftable a (span_months s))
    → date_add a s ≡ day → (IsOk r ↔ CanAddToDate a s) → IfOk r (λ d. epoch_day d ≡ date_add a s)
    → option_map epoch_day (result_ok r) ≡ in_calendar reached day
moved a s (Ok d) reached day to from is succeeds value =
    let can = succeeds.0 refl in
    let there : (reached && has_day day) ≡ true =
    and_from _ _ (to can.0) (between_true _ _ day (subst IsEpochDay is can.1)) in
    ap Some (value ∙ is) ∙ sym (ap (λ b. if b then Some day else None) there)
moved a s (Err e) reached day to from is succeeds value = ⊎_elim
    (λ there.
    let parts = and_parts reached (has_day day) there in
    absurd (false≢true (succeeds.1
    (from parts.0, subst IsEpochDay (sym is) (true_between _ _ day parts.1)))))
    (λ off. sym (ap (λ b. if b then Some day else None) off))
    (cases_Bool (reached && has_day day))

pub back_days : {E : Type 0} (a : Date) (n : ℕ) (z : ℤ) (s : Span) (r : Result Date E)
    → IsOnly Day z s
    → z ≡ neg_ℤ (pos n) → (IsOk r ↔ CanAddToDate a s) → IfOk r (λ d. epoch_day d ≡ date_add a s)
    → option_map epoch_day (result_ok r) ≡ days_back a n
back_days a n z s r only is succeeds value =
    let none : span_months s ≡ pos 0 = omega (arith, signed_arith, only.months) in
    moved a s r true (epoch_day a +ℤ neg_ℤ (pos n)) (λ _. refl)
    (λ _. rw none (omega (arith, signed_arith, a.year_in, a.month_in)))
    (date_add-days a z s only ∙ ap (λ k. epoch_day a +ℤ k) is) succeeds value

-- a span of months moves the date by these alone
date_add-months : (a : Date) (z : ℤ) (s : Span) → IsOnly Month z s → date_add a s ≡ add_months a z
date_add-months a z s only =
    let months : span_months s ≡ z = omega (arith, signed_arith, only.months) in
    let days : span_days s ≡ pos 0 = omega (arith, signed_arith, only.days) in
    let clock : clock_days s ≡ pos 0 =
    no_clock s (only.others Hour (omega arith)) (only.others Minute (omega arith))
    (only.others Second (omega arith)) (only.others Millisecond (omega arith))
    (only.others Microsecond (omega arith)) (only.others Nanosecond (omega arith)) in
    rw (months, days, clock) (omega (arith, signed_arith))
  where
    no_clock : (s : Span) → magnitude Hour s ≡ 0 → magnitude Minute s ≡ 0 → magnitude Second s ≡ 0
        → magnitude Millisecond s ≡ 0 → magnitude Microsecond s ≡ 0 → magnitude Nanosecond s ≡ 0
        → clock_days s ≡ pos 0
    no_clock s a b c d e f = signed_zero s.negative _ (omega arith)

pub back_months : {E : Type 0} (a : Date) (n : ℕ) (z : ℤ) (s : Span) (r : Result Date E)
    → IsOnly Month z s
    → z ≡ neg_ℤ (pos n) → (IsOk r ↔ CanAddToDate a s) → IfOk r (λ d. epoch_day d ≡ date_add a s)
    → option_map epoch_day (result_ok r) ≡ months_back a n
back_months a n z s r only is succeeds value =
    let months : span_months s ≡ neg_ℤ (pos n) = omega (arith, signed_arith, only.months) in
    moved a s r (has_year (shifted_year a (neg_ℤ (pos n)))) (add_months a (neg_ℤ (pos n)))
    (λ can. between_true _ _ (shifted_year a (neg_ℤ (pos n))) (subst (IsShiftable a) months can))
    (λ yes. subst (IsShiftable a) (sym months)
    (true_between _ _ (shifted_year a (neg_ℤ (pos n))) yes))
    (date_add-months a z s only ∙ ap (add_months a) is) succeeds value
