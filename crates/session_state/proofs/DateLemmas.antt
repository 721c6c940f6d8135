-- Dates of days.
use Rattle.std.proofs.Common.{◌≡◌, ◌∙◌, sym, ap, refl, ℕ, ℤ, ◌≤ℤ◌}
use Rattle.std.proofs.lemmas.Bool.{and_from, le-leb}
use Rattle.std.specs.Prelude.{Bool, true, false, int_le}
use Rattle.std.proofs.lemmas.Bool.{false≢true}
use Rattle.std.proofs.Math.Bridge.{le_prop}
use Rattle.std.proofs.Math.Dec.{T_prop}
use mathlib.Core.HLevel.{is_prop→PathP}
use Rattle.jiff_core.proofs.DateLemmas.{civil, epoch_day_injective}
use Rattle.jiff_core.specs.Calendar.{days_in_month, IsCivilDate, IsYear}
use Rattle.std.specs.Int.{IsInRange}
use Rattle.jiff_core.specs.Date.{epoch_day}
use Rattle.jiff_core.specs.declared.civil.date.Date.{Date}
use Rattle.jiff_core.specs.declared.civil.time.Time.{Time}
use Rattle.jiff_core.specs.declared.civil.datetime.DateTime.{DateTime}
use Rattle.index_rows.specs.Date.{parts_on}
use Rattle.index_rows.proofs.ClockLemmas.{parts_on_clock}
use Rattle.std.proofs.Common.{Some, rules}
use Rattle.session_state.specs.Days.{date_from, date_on, is_civil}

year_prop : (y : ℤ) → IsProp (IsYear y)
year_prop y = hlevel T_prop

range_prop : (a b n : ℕ) → IsProp (IsInRange a b n)
range_prop a b n = hlevel le_prop

pub same_parts : (a b : Date) → a.year ≡ b.year → a.month ≡ b.month → a.day ≡ b.day → a ≡ b
same_parts a b year month day = λ i. record {
  year = year i;
  month = month i;
  day = day i;
  year_in = is_prop→PathP (λ j. IsYear (year j)) (λ j. year_prop (year j)) a.year_in b.year_in i;
  month_in = is_prop→PathP (λ j. IsInRange 1 12 (month j)) (λ j. range_prop 1 12 (month j))
      a.month_in b.month_in i;
  day_in = is_prop→PathP (λ j. IsInRange 1 (days_in_month (year j) (month j)) (day j))
      (λ j. range_prop 1 (days_in_month (year j) (month j)) (day j)) a.day_in b.day_in i;
}

pub same_date : (a b : Date) → epoch_day a ≡ epoch_day b → a ≡ b
same_date a b is =
    let same = epoch_day_injective a b is in same_parts a b same.0 same.1 same.2

le_true : (a b : ℤ) → a ≤ℤ b → int_le a b ≡ true
le_true a b h = elim (int_le a b) as (λ v. elim v as (λ _. Type 0) [ true ↦ Unit {0} | false ↦ ⊥ ]
    → v ≡ true)
    [ true ↦ λ _. refl | false ↦ λ f. absurd f ] h.le

civil_true : (y : ℤ) (m d : ℕ) → IsCivilDate y m d → is_civil y m d ≡ true
civil_true y m d h =
    and_from _ _ (and_from _ _ (le_true _ _ h.0.0) (le_true _ _ h.0.1))
    (and_from _ _ (and_from _ _ (le-leb _ _ h.1.0) (le-leb _ _ h.1.1))
    (and_from _ _ (le-leb _ _ h.2.0) (le-leb _ _ h.2.1)))

date_there : (d : Date) (y : ℤ) (m p : ℕ) (there : Bool) (is : is_civil y m p ≡ there)
    → y ≡ d.year → m ≡ d.month → p ≡ d.day → date_from y m p there is ≡ d
date_there d y m p true is year month day =
    same_parts (date_from y m p true is) d year month day
date_there d y m p false is year month day =
    absurd (false≢true (sym is ∙ (λ i. is_civil (year i) (month i) (day i))
    ∙ civil_true d.year d.month d.day (civil d)))

midnight : Time
midnight = record {
  hour = 0;
  minute = 0;
  second = 0;
  subsec_nanosecond = 0;
  hour_in = search rules;
  minute_in = search rules;
  second_in = search rules;
  subsec_in = search rules;
}

some_parts : {X : Type 0} (x y : X) → Some x ≡ Some y → x ≡ y
some_parts x y is = cc

pub date_on_day : (d : Date) → date_on (epoch_day d) ≡ d
unfolding date_on parts_on
date_on_day d =
    let c : DateTime = record { date = d; time = midnight } in
    let parts = parts_on_clock c in
    date_there d _ _ _ _ refl (some_parts _ _ (ap (λ p. p.year) parts))
    (some_parts _ _ (ap (λ p. p.month) parts)) (some_parts _ _ (ap (λ p. p.day) parts))
