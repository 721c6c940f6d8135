use Rattle.index_listed.specs.Visibility.{AreThreadsWith, is_hidden}
use Rattle.index_listed.proofs.visibility.threads_with_hidden.Given as goal

abbrev pub invariant-loop-place : goal.invariant-loop-place
invariant-loop-place l = AreThreadsWith (is_hidden l.entries) l.entries l.place l.hidden.items
