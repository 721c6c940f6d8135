use Rattle.std.proofs.Common.{◌≡◌, ◌++◌, length}
use Rattle.std.specs.List.{filter}
use Rattle.index_listed.specs.Seen.{visible_ids}
use Rattle.index_view.specs.Answers as spec
use Rattle.patterns_match.specs.Pattern.{plain_pattern}
use Rattle.index_view.specs.Tables.{seen_of}
use Rattle.index_view.proofs.answers.Answers.picked.Given as goal

abbrev pub invariant-loop-left : goal.invariant-loop-left
invariant-loop-left l = (l.pattern ≡ l.initial.pattern) × (l.people ≡ l.initial.people)
    × (l.ids.items ++ filter (spec.id_passes l.initial.people (plain_pattern l.initial.pattern)
    (seen_of l.messages) l.self) l.left
    ≡ filter (spec.id_passes l.initial.people (plain_pattern l.initial.pattern)
    (seen_of l.messages) l.self) (visible_ids l.self.sight))

abbrev pub decreases-loop-left : goal.decreases-loop-left
decreases-loop-left l = length l.left
