use Rattle.std.proofs.Common.{◌≡◌, ◌++◌, filter, length}
use Rattle.mime_tree.specs.Base64Body.{is_solid}
use Rattle.mime_tree.proofs.base64_body.without_white_space.Given as goal

abbrev pub invariant-loop-line : goal.invariant-loop-line
invariant-loop-line l = l.solid.items ++ filter is_solid l.left ≡ filter is_solid l.text

abbrev pub decreases-loop-line : goal.decreases-loop-line
decreases-loop-line l = length l.left
