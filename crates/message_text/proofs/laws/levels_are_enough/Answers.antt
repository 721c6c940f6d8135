use Rattle.message_text.proofs.LevelsLemmas.{levels_are_enough}
use Rattle.message_text.proofs.laws.levels_are_enough.Goals as goal

pub returns : goal.returns
returns c = levels_are_enough
