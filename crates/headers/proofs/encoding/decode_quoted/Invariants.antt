use Rattle.std.proofs.Common.{◌≡◌, ◌++◌, length, option_map}
use Rattle.headers.specs.Encoding.{quoted_from}
use Rattle.headers.proofs.encoding.decode_quoted.Given as goal

abbrev pub invariant-loop-left : goal.invariant-loop-left
invariant-loop-left l =
    option_map (λ more. l.bytes.items ++ more) (quoted_from 0 l.left) ≡ quoted_from 0 l.text

abbrev pub decreases-loop-left : goal.decreases-loop-left
decreases-loop-left l = length l.left
