use Rattle.std.proofs.Common.{◌≡◌, ◌++◌, length, map}
use Rattle.rc_lang_words.specs.Words.{pieces_of, plain_words, written_words}
use Rattle.rc_lang_words.proofs.rc_line.read_words.Given as goal

abbrev pub invariant-loop-left : goal.invariant-loop-left
invariant-loop-left l =
    plain_words l.read ++ map pieces_of (written_words l.left)
    ≡ map pieces_of (written_words l.words)

abbrev pub decreases-loop-left : goal.decreases-loop-left
decreases-loop-left l = length l.left
