use Rattle.std.proofs.Common.{◌≡◌, map}
use Rattle.std.specs.List.{range_with_len}
use Rattle.patterns_match.specs.Pattern.{pattern_tree}
use Rattle.patterns_match.specs.Satisfies.{satisfies}
use Rattle.patterns_match.proofs.all.each_answer.Given as goal

-- the answers for the messages so far
abbrev pub invariant-loop-place : goal.invariant-loop-place
invariant-loop-place g l = record {
  items : l.answers.items ≡ map (satisfies l.fn.people l.fn.pattern.offset
      (g.T.Table.messages l.table) (pattern_tree l.pattern)) (range_with_len 0 l.place);
  same : l.people ≡ l.fn.people;
}
