use Rattle.std.proofs.Common.{◌≡◌, ◌++◌, length}
use Rattle.mime_tree.specs.Quoted.{unquoted}
use Rattle.mime_tree.proofs.quoted.append_unquoted.Given as goal

abbrev pub invariant-loop-plain : goal.invariant-loop-plain
invariant-loop-plain l = l.bytes.items ++ unquoted l.left ≡ l.initial.bytes.items ++ unquoted l.text

abbrev pub decreases-loop-plain : goal.decreases-loop-plain
decreases-loop-plain l = length l.left
