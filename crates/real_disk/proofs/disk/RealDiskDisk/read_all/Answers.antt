use Rattle.real_disk.proofs.Counting.{reads_step}
use Rattle.real_disk.proofs.disk.RealDiskDisk.read_all.Goals as goal

pub returns-clause-step : goal.returns-clause-step
returns-clause-step g c = reads_step c.count.ensures.counts c.read_all_at-answer.ensures.errors
