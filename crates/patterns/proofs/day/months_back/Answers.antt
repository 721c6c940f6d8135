use Rattle.std.proofs.Common.{◌≡◌, ◌∙◌, pos, ◌-ℤ◌, FitsSigned, w64, arith, ap, sym, option_map}
use Rattle.std.specs.Result.{result_ok}
use Rattle.std.proofs.lemmas.Int.{to_z-of_z}
use Rattle.jiff.proofs.SpanFacts.{signed_arith}
use Rattle.jiff_core.specs.Date.{epoch_day}
use Rattle.patterns.proofs.DaysLemmas.{back_months}
use Rattle.patterns.proofs.day.months_back.Goals as goal

pub returns-in-Ok : goal.returns-in-Ok
returns-in-Ok c =
    let from : c.from.result ≡ pos c.args.count = c.from.ensures in
    let whole : FitsSigned w64 c.from.result = omega (arith, signed_arith) in
    let negative : FitsSigned w64 (pos 0 -ℤ c.from.result) = omega (arith, signed_arith) in
    let only = simp to_z-of_z at c.months.ensures in
    sym (ap (λ r. option_map epoch_day (result_ok r)) c.in-Ok.is)
    ∙ back_months c.args.today c.args.count (pos 0 -ℤ c.from.result) c.months.result
    c.checked_add.result only
    (omega (arith, signed_arith)) c.checked_add.ensures.succeeds c.checked_add.ensures.value

pub returns-in-Err : goal.returns-in-Err
returns-in-Err c =
    let from : c.from.result ≡ pos c.args.count = c.from.ensures in
    let whole : FitsSigned w64 c.from.result = omega (arith, signed_arith) in
    let negative : FitsSigned w64 (pos 0 -ℤ c.from.result) = omega (arith, signed_arith) in
    let only = simp to_z-of_z at c.months.ensures in
    sym (ap (λ r. option_map epoch_day (result_ok r)) c.in-Err.is)
    ∙ back_months c.args.today c.args.count (pos 0 -ℤ c.from.result) c.months.result
    c.checked_add.result only
    (omega (arith, signed_arith)) c.checked_add.ensures.succeeds c.checked_add.ensures.value
