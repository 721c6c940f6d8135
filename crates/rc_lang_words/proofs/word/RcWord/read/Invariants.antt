use Rattle.std.proofs.Common.{◌≡◌, ◌++◌, length}
use Rattle.rc_lang_words.specs.Words.{pieces_of, plain_pieces, with_text}
use Rattle.rc_lang_words.proofs.word.RcWord.read.Given as goal

abbrev pub invariant-loop-sign : goal.invariant-loop-sign
invariant-loop-sign l =
    plain_pieces l.pieces ++ with_text l.text.items (pieces_of l.left) ≡ pieces_of l.word

abbrev pub decreases-loop-sign : goal.decreases-loop-sign
decreases-loop-sign l = length l.left
