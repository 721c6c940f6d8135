use Rattle.session.proofs.WorksLemmas.{whole_then, works_then}
use Rattle.session.proofs.session_type.Session.sync_next.Goals as goal

pub returns-in_err-check_behind-clause-works : goal.returns-in_err-check_behind-clause-works
returns-in_err-check_behind-clause-works g c =
    works_then c.sync.ensures.works c.in_ok-sync.ensures.whole c.check_behind.ensures.works

pub returns-clause-works : goal.returns-clause-works
returns-clause-works g c =
    works_then c.sync.ensures.works c.in_ok-sync.ensures.whole c.check_behind.ensures.works

pub returns-clause-whole : goal.returns-clause-whole
returns-clause-whole g c =
    whole_then c.sync.ensures.works c.in_ok-sync.ensures.whole c.check_behind.ensures.works
    c.in_ok-check_behind.ensures.whole
