use Rattle.std.proofs.Common.{arith}
use Rattle.keymap.proofs.CharLemmas.{decoded_sized}
use Rattle.keymap.proofs.piece.KeyPiece.read_char.Goals as goal

pub overflow_sub-result : goal.overflow_sub-result
overflow_sub-result c = let sized = decoded_sized c.args.text.now c.requires in omega arith

pub returns-clause-within : goal.returns-clause-within
returns-clause-within c = let sized = decoded_sized c.args.text.now c.requires in omega arith
