use Rattle.expando.proofs.PrintedLemmas.{formats_are_read}
use Rattle.expando.proofs.laws.printed_formats_are_read.Goals as goal

pub returns : goal.returns
returns c = formats_are_read
