use Rattle.mh_syncs.proofs.Calling.{named_leaves, unnamed_leaves}
use Rattle.std.proofs.Common.{◌≡◌, refl}
use Rattle.disk_model.specs.Journal.{SyncDir}
use Rattle.mh_syncs.proofs.Causing.{call_cause}
use Rattle.mh_syncs.proofs.away.keep_names.Goals as goal

pub returns-in-Ok-clause-leaves : goal.returns-in-Ok-clause-leaves
returns-in-Ok-clause-leaves g c =
    named_leaves c.args.path.now c.args.path.now _ _ c.in-Ok.ensures.called

pub returns-in-Err-clause-leaves : goal.returns-in-Err-clause-leaves
returns-in-Err-clause-leaves g c =
    unnamed_leaves c.args.path.now c.args.path.now c.in-Err.why _ _ c.in-Err.ensures.called

pub returns-in-Err-clause-cause : goal.returns-in-Err-clause-cause
returns-in-Err-clause-cause g c =
    call_cause (λ call. call ≡ SyncDir c.args.path.now) c.in-Err.why (SyncDir c.args.path.now)
    c.error_at.result _ _ refl c.error_at.ensures.changed c.in-Err.ensures.called.goes
