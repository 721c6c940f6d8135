use Rattle.session_events.proofs.VisitLemmas.{visits_scanned, visits_stopped}
use Rattle.session_events.proofs.visit.visit.Goals as goal

pub recover-requires-clause-has : goal.recover-requires-clause-has
recover-requires-clause-has g c = rw c.kind-kind.ensures c.requires.has

pub scan-requires-clause-has : goal.scan-requires-clause-has
scan-requires-clause-has g c = rw c.kind-kind.ensures c.requires.has

pub returns-in-Ok : goal.returns-in-Ok
returns-in-Ok g c =
    visits_scanned c.kind-kind.ensures c.in-Ok.is c.recover.ensures c.scan.ensures

pub returns-in-Err : goal.returns-in-Err
returns-in-Err g c =
    visits_stopped c.kind-kind.ensures c.in-Err.is c.recover.ensures c.requires.right
