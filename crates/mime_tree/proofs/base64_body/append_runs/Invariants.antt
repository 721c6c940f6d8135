use Rattle.std.proofs.Common.{◌≡◌, ◌++◌, filter, length}
use Rattle.mime_tree.specs.Base64Body.{is_solid}
use Rattle.mime_tree.proofs.base64_body.append_runs.Given as goal

abbrev pub invariant-loop-run : goal.invariant-loop-run
invariant-loop-run l =
    l.solid.items ++ filter is_solid l.left ≡ l.initial.solid.items ++ filter is_solid l.text

abbrev pub decreases-loop-run : goal.decreases-loop-run
decreases-loop-run l = length l.left
