use Rattle.std.proofs.Common.{rules}
use Rattle.index_order.specs.Inner.{comes_before}
use Rattle.index_order.proofs.ThreadLemmas.{ids_strict}
use Rattle.index_order.proofs.listing.ids_by.Goals as goal

pub returns-clause-order : goal.returns-clause-order
returns-clause-order c =
    c.order_from.ensures.order (comes_before c.args.standing.now) (ids_strict c.args.standing.now)
    (λ a b r low high says. let met = says.met in search rules)
