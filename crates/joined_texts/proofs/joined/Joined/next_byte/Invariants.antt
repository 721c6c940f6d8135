use Rattle.std.proofs.Common.{◌≡◌, ◌++◌, length}
use Rattle.std.specs.List.{flat_map}
use Rattle.headers.specs.FoldedField.{continued}
use Rattle.joined_texts.specs.Joined.{whole}
use Rattle.joined_texts.proofs.joined.Joined.next_byte.Given as goal

abbrev pub invariant-loop-rest : goal.invariant-loop-rest
invariant-loop-rest l =
    l.first ++ flat_map (λ piece. piece.now) l.rest ++ continued l.lines ≡ whole l.fn.self

abbrev pub decreases-loop-rest : goal.decreases-loop-rest
decreases-loop-rest l = length l.rest
