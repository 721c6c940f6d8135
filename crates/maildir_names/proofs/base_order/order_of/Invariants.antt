use Rattle.std.proofs.Common.{◌≡◌, ◌≤◌, length, min}
use Rattle.maildir_names.specs.BaseOrder.{last_order, number_behind, order_of as order_from}
use Rattle.maildir_names.proofs.base_order.order_of.Given as goal

abbrev pub invariant-loop-left : goal.invariant-loop-left
invariant-loop-left l =
    (min (number_behind l.order l.left) last_order ≡ order_from l.base) × (l.order ≤ last_order)

abbrev pub decreases-loop-left : goal.decreases-loop-left
decreases-loop-left l = length l.left
