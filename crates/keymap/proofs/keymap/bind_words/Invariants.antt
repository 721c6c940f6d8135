use Rattle.std.proofs.Common.{◌≡◌, fold, length}
use Rattle.keymap.specs.Keymap.{bound_word, one_word}
use Rattle.keymap.specs.Pieces.{pieces}
use Rattle.keymap.proofs.keymap.bind_words.Given as goal

abbrev pub invariant-loop-left : goal.invariant-loop-left
invariant-loop-left l =
    fold (bound_word l.function) l.bindings (pieces one_word l.left)
    ≡ fold (bound_word l.function) l.initial.bindings (pieces one_word l.words)

abbrev pub decreases-loop-left : goal.decreases-loop-left
decreases-loop-left l = length l.left
