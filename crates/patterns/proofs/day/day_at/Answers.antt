use Rattle.std.proofs.Common.{◌≡◌, ◌∙◌, ap, arith, FitsSigned, w32, w64, pos, ◌+ℤ◌}
use Rattle.std.specs.Int.{int_div_euclid}
use Rattle.std.proofs.lemmas.Int.{ints, to_z-of_z}
use Rattle.jiff.proofs.SpanFacts.{signed_arith}
use Rattle.jiff_core.specs.Date.{epoch_day}
use Rattle.patterns.proofs.day.day_at.Goals as goal

pub returns : goal.returns
returns c =
    let moment : FitsSigned w64 c.args.moment = omega (arith, signed_arith) in
    let offset : FitsSigned w32 c.args.offset = omega (arith, signed_arith) in
    let from : c.from.result ≡ c.args.offset = simp to_z-of_z at c.from.ensures in
    let east : FitsSigned w64 c.from.result = omega (arith, signed_arith) in
    let sum : FitsSigned w64 (c.args.moment +ℤ c.from.result) = omega (arith, signed_arith) in
    let divided : c.div_euclid-number.result
    ≡ int_div_euclid (c.args.moment +ℤ c.from.result) (pos 86_400) =
    simp to_z-of_z at c.div_euclid-number.ensures in
    let fits : FitsSigned w64 c.div_euclid-number.result = omega (arith, signed_arith, ints) in
    let value : epoch_day c.in-Ok.day ≡ c.div_euclid-number.result =
    simp to_z-of_z at c.in-Ok.ensures.value in
    ap epoch_day c.from_plain.ensures ∙ value ∙ divided
    ∙ ap (λ z. int_div_euclid (c.args.moment +ℤ z) (pos 86_400)) from
