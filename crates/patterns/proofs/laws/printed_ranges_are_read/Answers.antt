use Rattle.patterns.proofs.RangeLemmas.{ranges_are_read}
use Rattle.patterns.proofs.laws.printed_ranges_are_read.Goals as goal

pub returns : goal.returns
returns c = ranges_are_read
