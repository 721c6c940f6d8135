use Rattle.std.proofs.Common.{sym, ◌∙◌, arith}
use Rattle.patterns_match.specs.Satisfies.{is_place}
use Rattle.patterns_match.proofs.ListingLemmas.{any_at, any_none}
use Rattle.patterns_match.proofs.tells.has_child.Goals as goal

pub returns-then-is_child : goal.returns-then-is_child
returns-then-is_child g c =
    let p = c.args.place in
    sym (any_at (λ m. is_place p m.parent) (g.T.Table.messages c.args.table.now) c.loop-other.other
    (sym c.is_child.ensures ∙ c.if-is_child.true))

pub returns : goal.returns
returns g c =
    let p = c.args.place in
    sym (any_none (λ m. is_place p m.parent) (g.T.Table.messages c.args.table.now)
    (λ k within. c.loop-other.invariant k (omega (
      arith,
      c.loop-other-test.false,
      c.len-other-end.ensures,
    ))))
