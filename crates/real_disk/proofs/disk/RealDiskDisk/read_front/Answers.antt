use Rattle.real_disk.proofs.Counting.{fronts_step}
use Rattle.real_disk.proofs.disk.RealDiskDisk.read_front.Goals as goal

pub returns-clause-step : goal.returns-clause-step
returns-clause-step g c = fronts_step _ c.count.ensures.counts c.read_front_at-answer.ensures.errors
