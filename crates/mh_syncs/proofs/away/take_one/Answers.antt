use Rattle.mh_syncs.proofs.Causing.{key_cause}
use Rattle.mh_syncs.proofs.away.take_one.Goals as goal

pub returns-in-Err-clause-cause : goal.returns-in-Err-clause-cause
returns-in-Err-clause-cause g c =
    key_cause c.args.path.now c.in-Some.name.now c.args.key.now c.in-Err.why _ _
    c.in-Some.ensures.name c.in-Err.ensures.cause
