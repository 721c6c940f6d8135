use Rattle.std.proofs.Common.{◌≡◌, length, map}
use Rattle.headers.specs.Field.{plain_field}
use Rattle.headers.specs.Values as spec
use Rattle.headers.proofs.fields.first_value.Given as goal

-- it is the first in what is left
abbrev pub invariant-loop-left : goal.invariant-loop-left
invariant-loop-left l = spec.first_value l.name (map plain_field l.left)
    ≡ spec.first_value l.name (map plain_field l.fields)

abbrev pub decreases-loop-left : goal.decreases-loop-left
decreases-loop-left l = length l.left
