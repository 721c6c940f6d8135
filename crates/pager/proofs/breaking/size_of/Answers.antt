use Rattle.std.proofs.Common.{arith}
use Rattle.pager.proofs.PagerLemmas.{size_all, size_turn}
use Rattle.pager.proofs.breaking.size_of.Goals as goal

pub loop-line-preserved : goal.loop-line-preserved
loop-line-preserved c = record {
  fits = omega (arith, c.saturating_add-size.ensures);
  counted = size_turn c.loop-line.size c.saturating_add-size.result c.len.result _ c.args.lines.now
      c.loop-line.line-index c.line-item.result c.loop-line-test.true c.line-item.is c.len.ensures
      c.saturating_add-size.ensures c.loop-line.invariant.counted;
}

pub returns : goal.returns
returns c =
    size_all c.loop-line.size _ c.args.lines.now c.loop-line.line-index c.loop-line-test.false
    c.loop-line.invariant.fits c.loop-line.invariant.counted
