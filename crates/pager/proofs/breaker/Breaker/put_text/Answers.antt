use Rattle.std.proofs.Common.{◌≡◌, length, arith}
use Rattle.std.proofs.lemmas.Bool.Decides.{nat_tests}
use Rattle.pager.proofs.PrintableLemmas.{all_put}
use Rattle.pager.proofs.breaker.Breaker.put_text.Goals as goal

pub returns : goal.returns
returns c =
    let none : length c.loop-rest.rest.now ≡ 0 = grind (arith, nat_tests) in
    all_put c.loop-rest.self _ c.loop-rest.rest.now none c.loop-rest.invariant.put
