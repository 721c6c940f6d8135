use Rattle.std.proofs.Common.{◌≡◌, length, map}
use Rattle.rc_lang.specs.Expansion.{before_all, expanded_words}
use Rattle.rc_lang.specs.Settings.{plain_names}
use Rattle.rc_lang_words.specs.Words.{plain_word, plain_words}
use Rattle.rc_lang.proofs.settings.Settings.expand.Given as goal

abbrev pub invariant-loop-word : goal.invariant-loop-word
invariant-loop-word l =
    before_all (plain_names l.expanded.items) (expanded_words l.self (map plain_word l.left))
    ≡ expanded_words l.self (plain_words l.words)

abbrev pub decreases-loop-word : goal.decreases-loop-word
decreases-loop-word l = length l.left
