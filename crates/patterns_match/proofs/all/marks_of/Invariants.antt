use Rattle.patterns_match.specs.All.{AreMarks}
use Rattle.patterns_match.proofs.all.marks_of.Given as goal

-- what the messages so far have marked
abbrev pub invariant-loop-other : goal.invariant-loop-other
invariant-loop-other g l =
    AreMarks (g.T.Table.messages l.table) l.relation l.answers l.other l.marked.items
