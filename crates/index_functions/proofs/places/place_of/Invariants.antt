use Rattle.std.proofs.Common.{◌≡◌, ◌+◌, length, option_map}
use Rattle.index_listed.specs.Places.{place_in}
use Rattle.index_functions.proofs.places.place_of.Given as goal

abbrev pub invariant-loop-left : goal.invariant-loop-left
invariant-loop-left l = (option_map (λ p. l.place + p) (place_in l.left l.id) ≡ place_in l.ids l.id)
    × (l.place + length l.left ≡ length l.ids)

abbrev pub decreases-loop-left : goal.decreases-loop-left
decreases-loop-left l = length l.left
