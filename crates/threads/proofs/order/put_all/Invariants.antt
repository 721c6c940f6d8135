use Rattle.std.proofs.Common.{◌≡◌, ◌++◌, take}
use Rattle.threads.proofs.order.put_all.Given as goal

abbrev pub invariant-loop-place : goal.invariant-loop-place
invariant-loop-place l = l.stack.items ≡ l.initial.stack.items ++ take l.place-index l.places
