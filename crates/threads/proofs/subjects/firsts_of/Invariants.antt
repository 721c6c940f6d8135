use Rattle.threads.specs.Inner.{SubjectsBelow}
use Rattle.threads.proofs.subjects.firsts_of.Given as goal

abbrev pub invariant-loop-place : goal.invariant-loop-place
invariant-loop-place l = SubjectsBelow l.messages l.parents l.firsts l.place
