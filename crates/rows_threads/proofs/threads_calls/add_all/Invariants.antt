use Rattle.std.proofs.Common.{◌≡◌, false}
use Rattle.rows_threads.proofs.threads_calls.add_all.Given as goal

abbrev pub invariant-loop-entry : goal.invariant-loop-entry
invariant-loop-entry l = l.threads.is_finished ≡ false
