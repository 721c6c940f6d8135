use Rattle.std.proofs.Common.{◌∙◌, sym, arith}
use Rattle.message_text.proofs.PartsLemmas.{child_at, child_behind, no_child_at}
use Rattle.message_text.proofs.parts.next_child.Goals as goal

pub returns-then-part-nesting-clause-value : goal.returns-then-part-nesting-clause-value
returns-then-part-nesting-clause-value c =
    sym c.loop-at.invariant.same
    ∙ no_child_at c.args.parts.now c.args.nesting c.loop-at.at c.index-parts-at.result
    c.index-parts-at.is c.loop-at-test.true c.if-part-nesting.true

pub returns-then-part-nesting-eq1-clause-value : goal.returns-then-part-nesting-eq1-clause-value
returns-then-part-nesting-eq1-clause-value c =
    sym c.loop-at.invariant.same
    ∙ child_at c.args.parts.now c.args.nesting c.loop-at.at c.index-parts-at.result
    c.index-parts-at.is c.loop-at-test.true c.if-part-nesting.false c.if-part-nesting-eq1.true

pub loop-at-preserved : goal.loop-at-preserved
loop-at-preserved c = record {
  same = sym (child_behind c.args.parts.now c.args.nesting c.loop-at.at c.index-parts-at.result
      c.index-parts-at.is c.loop-at-test.true c.if-part-nesting.false c.if-part-nesting-eq1.false)
      ∙ c.loop-at.invariant.same;
  from = omega (arith, c.loop-at.invariant.from);
}
