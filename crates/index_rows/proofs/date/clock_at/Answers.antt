use Rattle.std.proofs.Common.{◌≡◌, ◌+ℤ◌, pos, rules, sym}
use Rattle.std.specs.Int.{int_div_euclid, int_rem_euclid}
use Rattle.std.specs.Prelude.{unsigned_abs}
use Rattle.std.proofs.lemmas.Bool.{false≢true}
use Rattle.jiff_core.specs.Date.{epoch_day}
use Rattle.jiff_core.specs.Time.{time_seconds}
use Rattle.index_rows.proofs.ClockLemmas.{clock_is, no_day, no_moment}
use Rattle.index_rows.proofs.date.clock_at.Goals as goal

pub returns-in_err-seconds : goal.returns-in_err-seconds
returns-in_err-seconds c =
    let moment = c.args.seconds +ℤ c.args.offset in
    let none = no_moment moment (λ fits. c.in_err-seconds.ensures (search rules)) in
    rw c.from_residual.ensures (sym none)

pub returns-in_default : goal.returns-in_default
returns-in_default c =
    let moment = c.args.seconds +ℤ c.args.offset in
    let day : c.div_euclid.result ≡ int_div_euclid moment (pos 86_400) = search rules in
    sym (no_day moment (λ h. false≢true (c.in_default.ensures.succeeds.1 (search rules))))

pub returns : goal.returns
returns c =
    let moment = c.args.seconds +ℤ c.args.offset in
    let day : epoch_day c.in-Ok.date ≡ int_div_euclid moment (pos 86_400) = search rules in
    let time = c.from_second-time.result in
    let rest : time_seconds time ≡ unsigned_abs (int_rem_euclid moment (pos 86_400)) =
    search rules in
    clock_is moment c.in-Ok.date time day rest
