use Rattle.std.proofs.Common.{rules}
use Rattle.patterns_match.specs.Pattern.{pattern_tree}
use Rattle.patterns_match.specs.Satisfies.{satisfies}
use Rattle.patterns_match.proofs.AllLemmas.{answers_more}
use Rattle.patterns_match.proofs.all.each_answer.Goals as goal

pub loop-place-preserved : goal.loop-place-preserved
loop-place-preserved g c =
    let value = rw c.loop-place.invariant.same at c.in_ok-is_matched.ensures.value in
    record {
      items =
          answers_more (satisfies c.args.people.now c.args.pattern.now.offset
          (g.T.Table.messages c.args.table.now) (pattern_tree c.args.pattern.now))
          c.loop-place.place c.loop-place.answers.items c.push.new.self.items
          c.in_ok-is_matched.field-0 c.in_ok-push.ensures.items c.loop-place.invariant.items value;
      same = search rules;
    }
