use Rattle.std.proofs.Common.{◌≡◌, ◌++◌, length}
use Rattle.rc_lang_words.specs.Words.{text_of}
use Rattle.rc_lang_words.proofs.word.text_of.Given as goal

abbrev pub invariant-loop-left : goal.invariant-loop-left
invariant-loop-left l = l.text.items ++ text_of l.left ≡ text_of l.signs

abbrev pub decreases-loop-left : goal.decreases-loop-left
decreases-loop-left l = length l.left
