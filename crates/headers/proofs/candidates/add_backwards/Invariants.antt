use Rattle.std.proofs.Common.{◌≡◌, ◌++◌, length, map, reverse}
use Rattle.headers.specs.Candidates.{new_ids}
use Rattle.headers.specs.Candidates.{texts}
use Rattle.headers.proofs.candidates.add_backwards.Given as goal

abbrev pub invariant-loop-last : goal.invariant-loop-last
invariant-loop-last l =
    texts l.names.items ++ new_ids (texts l.names.items) (reverse (map (λ n. n.items) l.left))
    ≡ texts l.initial.names.items
    ++ new_ids (texts l.initial.names.items) (reverse (map (λ n. n.items) l.ids))

abbrev pub decreases-loop-last : goal.decreases-loop-last
decreases-loop-last l = length l.left
