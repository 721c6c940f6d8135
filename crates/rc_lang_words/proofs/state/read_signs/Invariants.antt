use Rattle.std.proofs.Common.{◌≡◌, ◌++◌, length}
use Rattle.rc_lang_words.specs.Signs.{signs_from, signs_of}
use Rattle.rc_lang_words.proofs.state.read_signs.Given as goal

abbrev pub invariant-loop-left : goal.invariant-loop-left
invariant-loop-left l = l.signs.items ++ signs_from l.state l.left ≡ signs_of l.text

abbrev pub decreases-loop-left : goal.decreases-loop-left
decreases-loop-left l = length l.left
