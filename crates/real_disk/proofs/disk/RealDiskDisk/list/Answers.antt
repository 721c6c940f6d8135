use Rattle.real_disk.proofs.Counting.{lists_step}
use Rattle.real_disk.proofs.disk.RealDiskDisk.list.Goals as goal

pub returns-clause-step : goal.returns-clause-step
returns-clause-step g c = lists_step c.count.ensures.counts c.list_at-answer.ensures.errors
