use Rattle.std.proofs.Common.{◌≡◌, ◌++◌, List, length}
use Rattle.mail_base.specs.declared.kind.Id.{Id}
use Rattle.index_listed.specs.Places.{numbers}
use Rattle.index_view.specs.Ordering as spec
use Rattle.index_view.proofs.ordering.numbered.Given as goal

abbrev pub invariant-loop-left : goal.invariant-loop-left
invariant-loop-left l = (order : List Id) → l.places ≡ numbers order
    → l.all.items ++ spec.numbered order l.left ≡ spec.numbered order l.rows

abbrev pub decreases-loop-left : goal.decreases-loop-left
decreases-loop-left l = length l.left
