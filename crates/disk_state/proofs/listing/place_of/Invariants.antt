use Rattle.std.proofs.Common.{◌≡◌, ◌≤◌, ◌+◌, length}
use Rattle.disk_model.specs.Names.{place_of}
use Rattle.disk_state.specs.Plain.{plain_names}
use Rattle.disk_state.proofs.listing.place_of.Given as goal

abbrev pub invariant-loop-left : goal.invariant-loop-left
invariant-loop-left l = record {
  place : l.place + place_of l.name (plain_names l.left) ≡ place_of l.name (plain_names l.names);
  within : l.place + length l.left ≤ length l.names;
}

abbrev pub decreases-loop-left : goal.decreases-loop-left
decreases-loop-left l = length l.left
