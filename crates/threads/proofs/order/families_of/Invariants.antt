use Rattle.std.proofs.Common.{take}
use Rattle.threads.specs.Families.{AreFamilies, places}
use Rattle.threads.proofs.order.families_of.Given as goal

abbrev pub invariant-loop-entry : goal.invariant-loop-entry
invariant-loop-entry l = AreFamilies l.parents (places (take l.entry-index l.entries)) l.families
