use Rattle.std.proofs.Common.{◌≡◌, ◌+◌, ◌-◌, ◌≤◌, length, Ok}
use Rattle.patterns.specs.Dates.{days_of}
use Rattle.patterns.specs.Patterns.{at_first, read_from}
use Rattle.patterns.specs.States.{plain_state}
use Rattle.patterns.proofs.draft_text.read_terms.Given as goal

abbrev pub invariant-loop-first : goal.invariant-loop-first
invariant-loop-first l = record {
  within : l.state.side.nots + length l.left ≤ length l.text;
  read : read_from (days_of l.today) 0 (length l.text - length l.left) (Ok (plain_state l.state))
      l.left ≡ read_from (days_of l.today) 0 0 (Ok at_first) l.text;
}

abbrev pub decreases-loop-first : goal.decreases-loop-first
decreases-loop-first l = length l.left
