use Rattle.std.proofs.Common.{◌≡◌, length, map}
use Rattle.folder_core.specs.Kinds.{names_sequences}
use Rattle.folder_core.proofs.kinds.has_sequences.Given as goal

abbrev pub invariant-loop-left : goal.invariant-loop-left
invariant-loop-left l =
    names_sequences (map (λ name. name.items) l.left)
    ≡ names_sequences (map (λ name. name.items) l.names)

abbrev pub decreases-loop-left : goal.decreases-loop-left
decreases-loop-left l = length l.left
