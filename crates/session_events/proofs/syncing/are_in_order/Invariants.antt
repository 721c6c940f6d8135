use Rattle.std.proofs.Common.{◌≡◌, length}
use Rattle.index_items.specs.Changes.{plain_changes}
use Rattle.session_events.specs.Syncing as spec
use Rattle.session_events.proofs.syncing.are_in_order.Given as goal

-- what is left of the changes is in the order of what is left of the listing, or neither is
abbrev pub invariant-loop-listed : goal.invariant-loop-listed
invariant-loop-listed l = spec.are_in_order l.listed (plain_changes l.left)
    ≡ spec.are_in_order l.listing (plain_changes l.changes)

abbrev pub decreases-loop-listed : goal.decreases-loop-listed
decreases-loop-listed l = length l.listed
