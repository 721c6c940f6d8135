use Rattle.keymap.proofs.KeyLaws.{call_is_read, function_is_found, names_are_read}
use Rattle.keymap.proofs.laws.names_are_read.Goals as goal

pub returns : goal.returns
returns c = record { keys = names_are_read; functions = function_is_found; calls = call_is_read }
