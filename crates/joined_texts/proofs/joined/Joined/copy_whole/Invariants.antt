use Rattle.std.proofs.Common.{◌≡◌, ◌++◌, length}
use Rattle.std.specs.List.{flat_map}
use Rattle.headers.specs.FoldedField.{continued}
use Rattle.joined_texts.specs.Joined.{whole}
use Rattle.joined_texts.proofs.joined.Joined.copy_whole.Given as goal

abbrev pub invariant-loop-left : goal.invariant-loop-left
invariant-loop-left l =
    l.text.items ++ flat_map (λ piece. piece.now) l.left ++ continued l.self.lines.now
    ≡ whole l.fn.self

abbrev pub decreases-loop-left : goal.decreases-loop-left
decreases-loop-left l = length l.left

abbrev pub invariant-loop-more : goal.invariant-loop-more
invariant-loop-more l = l.text.items ++ continued l.lines ≡ whole l.fn.self

abbrev pub decreases-loop-more : goal.decreases-loop-more
decreases-loop-more l = length l.lines
