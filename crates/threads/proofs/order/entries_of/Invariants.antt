use Rattle.std.proofs.Common.{◌≡◌, map}
use Rattle.std.specs.List.{range_with_len}
use Rattle.threads.specs.Families.{entry_at}
use Rattle.threads.specs.Message.{plain_messages}
use Rattle.threads.proofs.order.entries_of.Given as goal

abbrev pub invariant-loop-place : goal.invariant-loop-place
invariant-loop-place l =
    l.entries.items ≡ map (entry_at (plain_messages l.messages)) (range_with_len 0 l.place)
