use Rattle.std.proofs.Common.{◌≡◌, None, length}
use Rattle.mail_base.specs.Series.{plain_texts}
use Rattle.mutt_words.specs.Options.{IsUsable, plain_options}
use Rattle.mutt_words.specs.Words.{options_of, read_from, texts}
use Rattle.mutt_words.proofs.words.read_words.Given as goal

abbrev pub invariant-loop-word : goal.invariant-loop-word
invariant-loop-word l = record {
  read : read_from (plain_options l.options) None (texts l.left)
      ≡ options_of (plain_texts l.words);
  usable : IsUsable l.options;
}

abbrev pub decreases-loop-word : goal.decreases-loop-word
decreases-loop-word l = length l.left
