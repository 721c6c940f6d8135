use Rattle.std.proofs.Common.{◌≡◌}
use Rattle.expando.specs.Columns.{blanks}
use Rattle.pager.specs.Inner.{put_all}
use Rattle.pager.proofs.breaker.Breaker.put_blanks.Given as goal

abbrev pub invariant-loop-i : goal.invariant-loop-i
invariant-loop-i l = l.self ≡ put_all l.initial.self (blanks l._i)
