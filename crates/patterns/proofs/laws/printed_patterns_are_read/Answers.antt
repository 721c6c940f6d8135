use Rattle.patterns.proofs.PlacedLemmas.{patterns_are_placed}
use Rattle.patterns.proofs.PrintedLemmas.{patterns_are_read}
use Rattle.patterns.proofs.laws.printed_patterns_are_read.Goals as goal

pub returns-clause-read : goal.returns-clause-read
returns-clause-read c = patterns_are_read

pub returns-clause-placed : goal.returns-clause-placed
returns-clause-placed c = patterns_are_placed
