use Rattle.rc_lang_words.proofs.ReadBack.{quoted_is_read}
use Rattle.rc_lang_words.proofs.laws.quoted_words_are_read.Goals as goal

pub returns : goal.returns
returns c = quoted_is_read
