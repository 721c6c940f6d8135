use Rattle.std.proofs.Common.{length, suc}
use Rattle.std.specs.Option.{option_map_or}
use Rattle.index_order.specs.Inner.{IsFilling, link_at}
use Rattle.index_order.proofs.LinkLemmas.{height}
use Rattle.index_order.proofs.greatest.fill.Given as goal

abbrev pub invariant-loop-here : goal.invariant-loop-here
invariant-loop-here l = IsFilling l.above l.initial.values.items l.values.items l.place l.next

abbrev pub decreases-loop-here : goal.decreases-loop-here
decreases-loop-here l =
    option_map_or (λ p. suc (height (link_at l.above) (length l.above) p)) l.next 0
