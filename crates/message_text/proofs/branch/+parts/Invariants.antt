use Rattle.std.proofs.Common.{◌≡◌, ◌+◌, ◌-◌, ◌*◌, ◌≤◌, ◌++◌, drop, length}
use Rattle.mail_base.specs.Series.{plain_texts}
use Rattle.message_text.specs.Branch.{children, mixed_lines}
use Rattle.message_text.specs.Source.{lines_of_branch, parts_of_source}
use Rattle.message_text.proofs.branch.+parts.Given as goal

abbrev pub decreases-add_part : goal.decreases-add_part
decreases-add_part l = 4 * l.levels

abbrev pub decreases-add_children : goal.decreases-add_children
decreases-add_children l = 4 * l.levels + 1

abbrev pub decreases-add_chosen : goal.decreases-add_chosen
decreases-add_chosen l = 4 * l.levels + 2

abbrev pub decreases-add_looked : goal.decreases-add_looked
decreases-add_looked l = 4 * l.levels + 3

-- the lines so far, and those of the parts that are left
abbrev pub invariant-add_children-loop-at : goal.invariant-add_children-loop-at
invariant-add_children-loop-at l = record {
  lines : plain_texts l.lines
      ++ mixed_lines (lines_of_branch l.levels l.source) l.before
      (children l.nesting (drop l.from (parts_of_source l.source)))
      ≡ plain_texts l.fn.lines
      ++ mixed_lines (lines_of_branch l.levels l.source) 0
      (children l.nesting (drop l.behind (parts_of_source l.source)));
  before : l.before ≤ l.from;
}

abbrev pub decreases-add_children-loop-at : goal.decreases-add_children-loop-at
decreases-add_children-loop-at l = length l.source.parts.now - l.from
