use Rattle.keymap.proofs.KeyLaws.{bound_counts, others_stay, text_is_first}
use Rattle.keymap.proofs.laws.last_binding_counts.Goals as goal

pub returns : goal.returns
returns c = record { bound = bound_counts; others = others_stay; text = text_is_first }
