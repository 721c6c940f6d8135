use Rattle.std.proofs.Common.{◌≡◌, [], ◌++◌, length}
use Rattle.rc_lang_words.specs.Words.{words_from, written_words}
use Rattle.rc_lang_words.proofs.split.split_words.Given as goal

abbrev pub invariant-loop-left : goal.invariant-loop-left
invariant-loop-left l =
    written_words l.words.items ++ words_from l.word.items l.left ≡ words_from [] l.signs

abbrev pub decreases-loop-left : goal.decreases-loop-left
decreases-loop-left l = length l.left
