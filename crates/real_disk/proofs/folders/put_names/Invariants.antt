use Rattle.disk_model.specs.Answers.{AreText}
use Rattle.real_disk.proofs.folders.put_names.Given as goal

abbrev pub invariant-loop-name : goal.invariant-loop-name
invariant-loop-name l = AreText l.put.items
