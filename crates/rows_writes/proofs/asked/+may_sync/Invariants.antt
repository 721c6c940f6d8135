use Rattle.std.proofs.Common.{length}
use Rattle.rows_writes.proofs.asked.+may_sync.Given as goal

-- proposed from what the function passes where it calls itself
abbrev pub decreases-may_sync : goal.decreases-may_sync
decreases-may_sync l = length l.changes.now
