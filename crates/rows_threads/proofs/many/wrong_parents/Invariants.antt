use Rattle.std.proofs.Common.{◌≡◌, false, true}
use Rattle.rows_threads.proofs.many.wrong_parents.Given as goal

abbrev pub invariant-loop-number : goal.invariant-loop-number
invariant-loop-number l = l.threads.is_finished ≡ false
