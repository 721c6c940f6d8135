use Rattle.std.proofs.Common.{◌≡◌, length}
use Rattle.index_items.specs.Items.{plain_items}
use Rattle.index_items.specs.Tally.{HasRoom, tally_of}
use Rattle.index_items.proofs.TallyLemmas.{tally_from}
use Rattle.index_items.proofs.tally.tally_of.Given as goal

abbrev pub invariant-loop-first : goal.invariant-loop-first
invariant-loop-first l = record {
  counted : tally_from l.tally (plain_items l.left) ≡ tally_of (plain_items l.items);
  room : HasRoom (length l.left) l.tally;
}

abbrev pub decreases-loop-first : goal.decreases-loop-first
decreases-loop-first l = length l.left
