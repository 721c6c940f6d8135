use Rattle.rc_lang.proofs.PrintedText.{printed_is_read}
use Rattle.rc_lang.proofs.SettingLaws.{assignment_sets, text_stays}
use Rattle.rc_lang.proofs.laws.printed_texts_are_set.Goals as goal

pub returns-clause-read : goal.returns-clause-read
returns-clause-read c = printed_is_read

pub returns-clause-stays : goal.returns-clause-stays
returns-clause-stays c = text_stays

pub returns-clause-sets : goal.returns-clause-sets
returns-clause-sets c = assignment_sets
