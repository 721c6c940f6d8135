use Rattle.std.proofs.Common.{◌≡◌, length, map}
use Rattle.rc_lang.specs.Expansion.{before_all, word_text}
use Rattle.rc_lang_words.specs.Words.{plain_piece}
use Rattle.rc_lang.proofs.settings.Settings.word_text.Given as goal

abbrev pub invariant-loop-piece : goal.invariant-loop-piece
invariant-loop-piece l =
    before_all l.text.items (word_text l.self (map plain_piece l.left))
    ≡ word_text l.self (map plain_piece l.pieces)

abbrev pub decreases-loop-piece : goal.decreases-loop-piece
decreases-loop-piece l = length l.left
