use Rattle.std.proofs.Common.{◌≡◌, ◌++◌, length}
use Rattle.rc_lang_words.specs.Words.{joined_from, written_words}
use Rattle.rc_lang_words.proofs.split.push_joined.Given as goal

abbrev pub invariant-loop-left : goal.invariant-loop-left
invariant-loop-left l =
    written_words l.joined.items ++ joined_from l.word.items (written_words l.left)
    ≡ written_words l.initial.joined.items ++ joined_from l.first (written_words l.words)

abbrev pub decreases-loop-left : goal.decreases-loop-left
decreases-loop-left l = length l.left
