use Rattle.std.proofs.Common.{sym}
use Rattle.mbox_writes.proofs.FrontLemmas.{same_core}
use Rattle.mbox_writes.proofs.same_cores.is_same.Goals as goal

pub returns-then-first-region-2 : goal.returns-then-first-region-2
returns-then-first-region-2 c =
    sym (same_core c.args.known.now c.args.bytes.now c.args.first c.args.region c.requires.front
    c.requires.known c.if-first-region.true c.if-first-region-2.true)
