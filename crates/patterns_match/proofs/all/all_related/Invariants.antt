use Rattle.patterns_match.specs.All.{AreRelated}
use Rattle.patterns_match.proofs.all.all_related.Given as goal

-- what was found for the messages so far
abbrev pub invariant-loop-place : goal.invariant-loop-place
invariant-loop-place g l =
    AreRelated (g.T.Table.messages l.table) l.relation l.answers l.place l.found.items
