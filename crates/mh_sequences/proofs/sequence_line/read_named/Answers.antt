use Rattle.mh_sequences.proofs.UprightLemmas.{ranges_upright}
use Rattle.mh_sequences.proofs.sequence_line.read_named.Goals as goal

pub in_order-requires : goal.in_order-requires
in_order-requires c =
    ranges_upright c.in-Some.text.now c.in-Some-2.ranges.items
    (rw c.in-Some-2.is at c.in_ok-ranges.ensures)
