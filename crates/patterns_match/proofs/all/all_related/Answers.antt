use Rattle.std.proofs.Common.{rules}
use Rattle.patterns_match.proofs.AllLemmas.{related_more}
use Rattle.patterns_match.proofs.all.all_related.Goals as goal

pub loop-place-preserved : goal.loop-place-preserved
loop-place-preserved g c =
    related_more (g.T.Table.messages c.args.table.now) c.args.relation c.args.answers.now
    c.in_ok-marked.marked.items c.deref.result.now c.loop-place.found.items c.push.new.self.items
    c.loop-place.place c.is_marked.result c.deref.ensures.value c.in_ok-push.ensures.items
    (search rules) c.in_ok-marked.ensures c.is_marked.ensures c.loop-place.invariant
