use Rattle.std.proofs.Common.{sym}
use Rattle.drafts.proofs.LoopLemmas.{behind_end, behind_on, behind_stops}
use Rattle.drafts.proofs.reading.behind_bytes.Goals as goal

pub returns-in_default : goal.returns-in_default
returns-in_default c =
    behind_stops c.args.bytes.now c.loop-byte.left.now c.loop-byte.byte-index _
    c.loop-byte-test.true (sym c.in_default.ensures.value) c.loop-byte.invariant

pub loop-byte-preserved : goal.loop-byte-preserved
loop-byte-preserved c =
    behind_on c.args.bytes.now c.loop-byte.left.now c.in-Some.rest.now c.loop-byte.byte-index _
    c.loop-byte-test.true (sym c.in-Some.ensures.value) c.loop-byte.invariant

pub returns : goal.returns
returns c =
    behind_end c.args.bytes.now c.loop-byte.left.now c.loop-byte.byte-index _
    c.loop-byte-test.false c.loop-byte.invariant
