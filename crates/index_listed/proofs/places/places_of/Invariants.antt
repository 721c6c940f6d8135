use Rattle.std.proofs.Common.{◌≡◌, ◌++◌, length, nat_eq}
use Rattle.std.specs.List.{IsDistinct}
use Rattle.index_listed.specs.Places.{numbers}
use Rattle.index_listed.proofs.places.places_of.Given as goal

abbrev pub invariant-loop-left : goal.invariant-loop-left
invariant-loop-left l = IsDistinct nat_eq (l.places ++ numbers l.left)
    × (l.places ++ numbers l.left ≡ numbers l.ids)

abbrev pub decreases-loop-left : goal.decreases-loop-left
decreases-loop-left l = length l.left
