use Rattle.std.proofs.Common.{◌∙◌, ◌<◌, subst, sym}
use Rattle.std.proofs.lemmas.List.{nil_from_length}
use Rattle.index_order.specs.Inner.{ArePlaced}
use Rattle.index_order.proofs.GreatestLemmas.{AreSoFar, greatest_ends, greatest_more}
use Rattle.index_order.proofs.GreatestLemmas.{greatest_starts, last_within}
use Rattle.index_order.proofs.greatest.greatest.Goals as goal

pub loop-last-init : goal.loop-last-init
loop-last-init c =
    let keys = c.args.keys.now in
    let above = c.args.above.now in
    let waiting = c.in_ok-waiting.waiting.items in
    subst (λ l. AreSoFar c.args.sort keys above l waiting) (sym c.in_ok-values.ensures)
    (greatest_starts c.args.sort keys above waiting c.requires.long c.in_ok-waiting.ensures.placed
    c.in_ok-waiting.ensures.sorted)

pub fill-requires-clause-within : goal.fill-requires-clause-within
fill-requires-clause-within c =
    let keys = c.args.keys.now in
    subst (λ n. c.in-Some.last.place < n) (sym c.requires.long)
    (last_within keys c.pop.new.self.items c.in-Some.last
    (subst (ArePlaced keys) c.in-Some.ensures.items c.loop-last.invariant.placed))

pub fill-requires-clause-values : goal.fill-requires-clause-values
fill-requires-clause-values c = c.loop-last.invariant.filled

pub loop-last-preserved : goal.loop-last-preserved
loop-last-preserved c =
    let keys = c.args.keys.now in
    let above = c.args.above.now in
    let values = c.loop-last.values.items in
    greatest_more c.args.sort keys above values c.fill.new.values.items c.pop.new.self.items
    c.in-Some.last (subst (AreSoFar c.args.sort keys above values) c.in-Some.ensures.items
    c.loop-last.invariant) c.fill.ensures

pub returns : goal.returns
returns c =
    let values = c.loop-last.values.items in
    greatest_ends c.args.sort c.args.keys.now c.args.above.now values c.requires.long
    (subst (AreSoFar c.args.sort c.args.keys.now c.args.above.now values)
    (nil_from_length c.loop-last.waiting.items (sym c.loop-last.waiting.ok.0
    ∙ c.in_default.ensures.cases.0)) c.loop-last.invariant)
