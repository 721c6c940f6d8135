use Rattle.std.proofs.Common.{subst, sym}
use Rattle.threads.specs.Forest.{IsForest}
use Rattle.threads.specs.Subjects.{parents}
use Rattle.index_listed.proofs.threading.threads_of.Goals as goal

pub returns-clause-forest : goal.returns-clause-forest
returns-clause-forest c = subst (λ t. IsForest (parents t.options t.messages))
    (sym c.in_ok-finish.ensures.ok) c.in_ok-finish.ensures.forest
