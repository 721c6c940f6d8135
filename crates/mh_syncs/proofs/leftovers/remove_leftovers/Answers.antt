use Rattle.mh_syncs.proofs.Calling.{all_then}
use Rattle.folder_drivers.specs.MhNames.{append_path, new_sequences_path}
use Rattle.mh_syncs.proofs.Clearing.{gone_if, gone_later, on_ok}
use Rattle.std.proofs.Common.{inl, inr}
use Rattle.folder_changes.proofs.TraceLemmas.{calls_for, calls_then}
use Rattle.mh_syncs.specs.Causes.{IsClearing, IsRemove}
use Rattle.mh_syncs.proofs.Causing.{append_stays, new_stays}
use Rattle.mh_syncs.proofs.leftovers.remove_leftovers.Goals as goal

pub returns-clause-leaves : goal.returns-clause-leaves
returns-clause-leaves g c =
    all_then c.args.path.now _ _ _ c.in-Ok.ensures.leaves c.remove_side-2.ensures.leaves

pub returns-clause-new_gone : goal.returns-clause-new_gone
returns-clause-new_gone g c =
    on_ok c.remove_side-2.result (gone_later (new_sequences_path c.args.path.now) _ _ _
    c.in-Ok.ensures.gone c.remove_side-2.ensures.serves.grows)

pub returns-clause-append_gone : goal.returns-clause-append_gone
returns-clause-append_gone g c =
    gone_if (append_path c.args.path.now) c.remove_side-2.result _ _ _
    c.in-Ok.ensures.serves.grows c.remove_side-2.ensures.gone

pub returns-in-Err-clause-calls : goal.returns-in-Err-clause-calls
returns-in-Err-clause-calls g c =
    calls_for (IsRemove (new_sequences_path c.args.path.now)) (IsClearing c.args.path.now) _ _
    (λ call is. inl is) c.in-Err.ensures.calls

pub returns-clause-calls : goal.returns-clause-calls
returns-clause-calls g c =
    calls_then (IsClearing c.args.path.now) _ _ _
    (calls_for (IsRemove (new_sequences_path c.args.path.now)) (IsClearing c.args.path.now) _ _
    (λ call is. inl is) c.in-Ok.ensures.calls)
    (calls_for (IsRemove (append_path c.args.path.now)) (IsClearing c.args.path.now) _ _
    (λ call is. inr is) c.remove_side-2.ensures.calls)

pub returns-in-Err-clause-cause : goal.returns-in-Err-clause-cause
returns-in-Err-clause-cause g c =
    new_stays c.args.path.now c.in-Err.why _ _ c.in-Err.ensures.cause

pub returns-clause-cause : goal.returns-clause-cause
returns-clause-cause g c =
    append_stays c.args.path.now c.remove_side-2.result _ _ _ c.in-Ok.ensures.calls
    c.remove_side-2.ensures.serves.grows c.remove_side-2.ensures.cause
