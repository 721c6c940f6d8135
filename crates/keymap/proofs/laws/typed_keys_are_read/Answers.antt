use Rattle.keymap.proofs.KeyLaws.{chars_are_read, closed_tells, forms_are_read}
use Rattle.keymap.proofs.laws.typed_keys_are_read.Goals as goal

pub returns : goal.returns
returns c = record { chars = chars_are_read; forms = forms_are_read; closed = closed_tells }
