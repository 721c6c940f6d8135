use Rattle.std.proofs.Common.{◌≡◌, length}
use Rattle.disk_model.specs.Names.{behind_slash, name_of}
use Rattle.disk_state.proofs.listing.name_of.Given as goal

abbrev pub invariant-loop-left : goal.invariant-loop-left
invariant-loop-left l = behind_slash l.found l.left ≡ name_of l.path

abbrev pub decreases-loop-left : goal.decreases-loop-left
decreases-loop-left l = length l.left
