use Rattle.std.proofs.Common.{◌≡◌, map}
use Rattle.std.specs.List.{range_with_len}
use Rattle.threads.specs.Subjects.{parent_of}
use Rattle.threads.specs.Message.{plain_messages}
use Rattle.threads.proofs.subjects.with_subjects.Given as goal

abbrev pub invariant-loop-place : goal.invariant-loop-place
invariant-loop-place l =
    l.all.items ≡ map (parent_of l.options (plain_messages l.messages) l.parents)
    (range_with_len 0 l.place)
