use Rattle.std.proofs.Common.{◌≡◌, ◌++◌, false, length, map, nat_eq}
use Rattle.std.specs.List.{IsDistinct}
use Rattle.threads.specs.Message.{numbers}
use Rattle.index_listed.specs.Listed.{ids, plain_listed}
use Rattle.index_listed.specs.Threading as spec
use Rattle.index_listed.proofs.threading.add_all.Given as goal

abbrev pub invariant-loop-left : goal.invariant-loop-left
invariant-loop-left l = (l.threads.is_finished ≡ false)
    × IsDistinct nat_eq (numbers l.threads.messages ++ ids (map plain_listed l.left))
    × (l.threads.options ≡ l.initial.threads.options)
    × (l.threads.messages ++ map spec.thread_message (map plain_listed l.left)
    ≡ map spec.thread_message (map plain_listed l.listed))

abbrev pub decreases-loop-left : goal.decreases-loop-left
decreases-loop-left l = length l.left
