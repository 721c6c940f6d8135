use Rattle.std.proofs.Common.{◌≤◌, length, ap, arith}
use Rattle.std.proofs.lemmas.Bool.Decides.{nat_tests}
use Rattle.headers.proofs.PeopleLemmas.{trimmed_whole}
use Rattle.headers.proofs.people.has_blank_end.Goals as goal

pub returns : goal.returns
returns c =
    let bytes = c.args.bytes.now in
    let size = ap length c.trimmed.ensures.value in
    λ no_end.
    let long : length bytes ≤ length c.trimmed.result.now = grind (arith, nat_tests) in
    trimmed_whole bytes (omega (arith, size, long))
