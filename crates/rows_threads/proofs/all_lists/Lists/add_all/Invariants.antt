use Rattle.std.proofs.Common.{◌≡◌, false}
use Rattle.rows_threads.proofs.all_lists.Lists.add_all.Given as goal

abbrev pub invariant-loop-number : goal.invariant-loop-number
invariant-loop-number l = l.threads.is_finished ≡ false
