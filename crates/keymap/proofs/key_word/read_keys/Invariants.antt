use Rattle.std.proofs.Common.{◌≡◌, ◌++◌, length}
use Rattle.keymap.specs.KeyWords.{word_keys}
use Rattle.keymap.proofs.key_word.read_keys.Given as goal

abbrev pub invariant-loop-left : goal.invariant-loop-left
invariant-loop-left l = l.keys.items ++ word_keys l.functions l.left ≡ word_keys l.functions l.word

abbrev pub decreases-loop-left : goal.decreases-loop-left
decreases-loop-left l = length l.left
