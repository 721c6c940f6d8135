use Rattle.std.proofs.Common.{◌+◌, subst, sym}
use Rattle.patterns_match.specs.All.{AreMarks}
use Rattle.patterns_match.proofs.AllLemmas.{marks_more, marks_same}
use Rattle.patterns_match.proofs.all.marks_of.Goals.{then-answers-other, else-answers-other}
use Rattle.patterns_match.proofs.all.marks_of.Goals as goal

pub loop-other-preserved : goal.loop-other-preserved
loop-other-preserved g c =
    let listing = g.T.Table.messages c.args.table.now in
    let answers = c.args.answers.now in
    let other = c.loop-other.other in
    elim c.if-answers-other.branch [
      | then-answers-other w ↦
          subst (λ v. AreMarks listing c.args.relation answers (other + 1) v.items)
          (sym w.marked-is)
          (marks_more listing c.args.relation answers c.loop-other.marked.items _ other
          w.if-answers-other.true w.mark.ensures c.loop-other.invariant)
      | else-answers-other w ↦
          subst (λ v. AreMarks listing c.args.relation answers (other + 1) v.items)
          (sym w.marked-is)
          (marks_same listing c.args.relation answers c.loop-other.marked.items other
          w.if-answers-other.false c.loop-other.invariant)
    ]
