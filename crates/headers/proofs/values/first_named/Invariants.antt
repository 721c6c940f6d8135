use Rattle.std.proofs.Common.{◌≡◌, length, map}
use Rattle.std.specs.List.{find}
use Rattle.headers.specs.FoldedField.{plain_folded}
use Rattle.headers.specs.Values.{is_named}
use Rattle.headers.proofs.values.first_named.Given as goal

-- it is the first in what is left
abbrev pub invariant-loop-left : goal.invariant-loop-left
invariant-loop-left l = find (is_named l.name) (map plain_folded l.left)
    ≡ find (is_named l.name) (map plain_folded l.fields)

abbrev pub decreases-loop-left : goal.decreases-loop-left
decreases-loop-left l = length l.left
