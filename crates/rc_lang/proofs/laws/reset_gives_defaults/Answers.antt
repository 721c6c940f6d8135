use Rattle.rc_lang.proofs.SettingLaws.{reset_gives_default}
use Rattle.rc_lang.proofs.laws.reset_gives_defaults.Goals as goal

pub returns : goal.returns
returns c = reset_gives_default
