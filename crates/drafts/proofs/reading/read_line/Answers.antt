use Rattle.std.proofs.Common.{sym}
use Rattle.drafts.proofs.LoopLemmas.{line_done, line_on, line_out}
use Rattle.drafts.proofs.reading.read_line.Goals as goal

pub returns-in_default-clause-value : goal.returns-in_default-clause-value
returns-in_default-clause-value c =
    let none = sym c.in_default.ensures in
    rw (line_done c.args.text.now c.loop-at.state c.loop-at.at _ c.loop-at-test.true none
    c.loop-at.invariant)
    c.line_at.ensures.value

pub loop-at-preserved : goal.loop-at-preserved
loop-at-preserved c =
    line_on c.args.text.now c.loop-at.state c.in-Some.next c.loop-at.at _ c.loop-at-test.true
    (sym c.in-Some.ensures) c.loop-at.invariant

pub returns-clause-value : goal.returns-clause-value
returns-clause-value c =
    line_out c.args.text.now c.loop-at.state c.loop-at.at _ c.loop-at-test.false
    c.loop-at.invariant
