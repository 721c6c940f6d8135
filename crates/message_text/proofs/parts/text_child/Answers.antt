use Rattle.std.proofs.Common.{◌∙◌, sym, arith}
use Rattle.message_text.proofs.PartsLemmas.{found_at, passed_at}
use Rattle.message_text.proofs.parts.text_child.Goals as goal

pub returns-then-has-clause-value : goal.returns-then-has-clause-value
returns-then-has-clause-value c =
    found_at c.args.kind c.args.parts.now c.args.nesting c.loop-at.from c.in-Some.at
    c.index-parts-at.result c.index-parts-at.is c.in-Some.ensures.within c.in-Some.ensures.value
    (sym c.has.ensures ∙ c.if-has.true)
    ∙ c.loop-at.invariant.same

pub loop-at-preserved : goal.loop-at-preserved
loop-at-preserved c = record {
  same = passed_at c.args.kind c.args.parts.now c.args.nesting c.loop-at.from c.in-Some.at
      c.index-parts-at.result c.index-parts-at.is c.in-Some.ensures.within c.in-Some.ensures.value
      (sym c.has.ensures ∙ c.if-has.false)
      ∙ c.loop-at.invariant.same;
  behind = omega (arith, c.in-Some.ensures.from, c.loop-at.invariant.behind);
}
