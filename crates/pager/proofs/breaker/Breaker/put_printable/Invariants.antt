use Rattle.std.proofs.Common.{◌≡◌, true, length}
use Rattle.std.specs.List.{list_all}
use Rattle.pager.specs.Inner.{is_printable, put_all}
use Rattle.pager.proofs.breaker.Breaker.put_printable.Given as goal

-- what is left, put behind the others, is the whole text
abbrev pub invariant-loop-rest : goal.invariant-loop-rest
invariant-loop-rest l = record {
  put : put_all l.self l.rest ≡ put_all l.initial.self l.text;
  printable : list_all is_printable l.rest ≡ true;
}

abbrev pub decreases-loop-rest : goal.decreases-loop-rest
decreases-loop-rest l = length l.rest
