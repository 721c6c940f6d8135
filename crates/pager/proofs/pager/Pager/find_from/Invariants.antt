use Rattle.std.proofs.Common.{◌≡◌, drop}
use Rattle.std.specs.List.{position_from}
use Rattle.people.specs.Expr.{finds}
use Rattle.pager.specs.Pager.{numbered}
use Rattle.pager.proofs.pager.Pager.find_from.Given as goal

abbrev pub invariant-loop-number : goal.invariant-loop-number
invariant-loop-number l =
    position_from (finds l.expr) l.number (drop l.number (numbered l.self))
    ≡ position_from (finds l.expr) l.from (drop l.from (numbered l.self))
