use Rattle.real_disk.proofs.Counting.{makes_step}
use Rattle.real_disk.proofs.disk.RealDiskDisk.rename.Goals as goal

pub returns-clause-step : goal.returns-clause-step
returns-clause-step g c = makes_step c.count.ensures.counts c.rename_at-answer.ensures
