use Rattle.std.proofs.Common.{◌≡◌, false, take}
use Rattle.people.specs.People.{any_finds}
use Rattle.people.proofs.people.any_finds.Given as goal

-- none of the expressions so far is found
abbrev pub invariant-loop-expr : goal.invariant-loop-expr
invariant-loop-expr l = any_finds (take l.expr-index l.exprs) l.text ≡ false
