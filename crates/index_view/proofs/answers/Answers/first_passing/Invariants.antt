use Rattle.std.proofs.Common.{◌≡◌, find, length}
use Rattle.index_view.specs.Answers as spec
use Rattle.patterns_match.specs.Pattern.{plain_pattern}
use Rattle.index_view.specs.Tables.{seen_of}
use Rattle.index_view.proofs.answers.Answers.first_passing.Given as goal

abbrev pub invariant-loop-left : goal.invariant-loop-left
invariant-loop-left l = (l.pattern ≡ l.initial.pattern) × (l.people ≡ l.initial.people)
    × (find (spec.id_passes l.initial.people (plain_pattern l.initial.pattern)
    (seen_of l.messages) l.self) l.left
    ≡ find (spec.id_passes l.initial.people (plain_pattern l.initial.pattern)
    (seen_of l.messages) l.self) l.ids)

abbrev pub decreases-loop-left : goal.decreases-loop-left
decreases-loop-left l = length l.left
