-- Days that `jiff` has, in seconds from 1970.
use Rattle.std.proofs.Common.{◌≡◌, ◌≤◌, ◌&&◌, ℕ, ℤ, pos, ◌*ℤ◌, ◌-ℤ◌, true, leb, Some, sym, ap}
use Rattle.std.proofs.Common.{subst, ◌∙◌, arith}
use Rattle.std.specs.Prelude.{int_div}
use Rattle.std.proofs.lemmas.Bool.{cond-true}
use Rattle.std.proofs.lemmas.Bool.Decides.{nat_tests}
use Rattle.jiff_core.specs.declared.civil.date.Date.{Date}
use Rattle.jiff_core.specs.Calendar.{days_in_month, days_from_civil}
use Rattle.jiff_core.specs.Date.{epoch_day, IsYmd}
use Rattle.jiff_core.proofs.SignedLemmas.{signed_arith}
use Rattle.folder_core.specs.Mbox.{midnight}

in_month : (day last : ℕ) → 1 ≤ day → day ≤ last → (leb 1 day && leb day last) ≡ true
in_month day last low high = grind (arith, nat_tests)

first_day : days_from_civil (pos 1970) 1 1 ≡ pos 0
unfolding days_from_civil
first_day = omega (arith, signed_arith)

-- a date that `jiff` has
pub midnight-date : (d : Date) (year month day : ℕ) → IsYmd (pos year) (pos month) (pos day) d
    → Some (epoch_day d *ℤ pos 86_400) ≡ midnight year month day
midnight-date d year month day h =
    let m : d.month ≡ month = cc in
    let n : d.day ≡ day = cc in
    let in_year : d.day ≤ days_in_month (pos year) d.month =
    subst (λ (y : ℤ). d.day ≤ days_in_month y d.month) h.0 d.day_in.1 in
    let high : d.day ≤ days_in_month (pos year) month =
    subst (λ (k : ℕ). d.day ≤ days_in_month (pos year) k) m in_year in
    let low : 1 ≤ day = omega (arith, d.day_in) in
    let same : epoch_day d ≡ days_from_civil (pos year) month day =
    ap (λ y. days_from_civil y d.month d.day) h.0 ∙ ap (λ k. days_from_civil (pos year) k d.day) m
    ∙ ap (days_from_civil (pos year) month) n in
    ap (λ days. Some (days *ℤ pos 86_400)) same
    ∙ sym (cond-true _ _ _
    (in_month day (days_in_month (pos year) month) low (omega (arith, high, n))))

-- the day from which seconds are counted
pub unix_day : (d : Date) → IsYmd (pos 1970) (pos 1) (pos 1) d → epoch_day d ≡ pos 0
unix_day d h =
    let m : d.month ≡ 1 = cc in
    let n : d.day ≡ 1 = cc in
    ap (λ y. days_from_civil y d.month d.day) h.0 ∙ ap (λ k. days_from_civil (pos 1970) k d.day) m
    ∙ ap (days_from_civil (pos 1970) 1) n ∙ first_day

pub seconds_of_days : (days first nanos seconds : ℤ) → first ≡ pos 0
    → nanos ≡ (days -ℤ first) *ℤ pos 86_400_000_000_000
    → seconds ≡ int_div nanos (pos 1_000_000_000)
    → seconds ≡ days *ℤ pos 86_400
seconds_of_days days first nanos seconds z n s = omega (arith, signed_arith)
