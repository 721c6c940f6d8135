use Rattle.std.proofs.Common.{◌≡◌, ◌++◌, length, map}
use Rattle.rc_lang.specs.Commands.{written_word}
use Rattle.rc_lang_words.specs.Words.{plain_piece, plain_word}
use Rattle.rc_lang.proofs.command.written_word.Given as goal

abbrev pub invariant-loop-piece : goal.invariant-loop-piece
invariant-loop-piece l = l.text.items ++ written_word (map plain_piece l.left)
    ≡ written_word (plain_word l.word)

abbrev pub decreases-loop-piece : goal.decreases-loop-piece
decreases-loop-piece l = length l.left
