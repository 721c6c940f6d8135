use Rattle.std.proofs.Common.{Bool, IsTrue, not, subst}
use Rattle.rows_writes.proofs.AskedLemmas.{no_change}
use Rattle.rows_writes.proofs.asked.is_alone.Goals as goal

-- src/asked.rt:31:1
pub returns-then-is_listed-clause-once : goal.returns-then-is_listed-clause-once
returns-then-is_listed-clause-once c = λ alone. no_change c.args.others.now c.args.id.0
    (subst (λ (t : Bool). IsTrue (not t)) c.is_changed.ensures alone)
