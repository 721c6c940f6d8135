use Rattle.std.proofs.Common.{◌≡◌, ℕ, ◌≤◌, ◌++◌, length}
use Rattle.headers.specs.Decode.{decoded_from, decoded_words}
use Rattle.headers.proofs.decode.decode_words.Given as goal

abbrev pub invariant-loop-line : goal.invariant-loop-line
invariant-loop-line l =
    (n : ℕ) × (length l.left ≤ n) ×
    (l.line.items ++ decoded_from n l.after_word l.left ≡ decoded_words l.value)

abbrev pub decreases-loop-line : goal.decreases-loop-line
decreases-loop-line l = length l.left
