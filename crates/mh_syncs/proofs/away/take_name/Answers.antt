use Rattle.std.proofs.Common.{◌∙◌, Err, Ok}
use Rattle.mh_syncs.proofs.Calling.{away_refused, away_taken, keeps_away}
use Rattle.mh_syncs.proofs.Causing.{took_calls, took_cause}
use Rattle.mh_syncs.proofs.away.take_name.Goals as goal

pub returns-in-Ok-call_away-clause-takes : goal.returns-in-Ok-call_away-clause-takes
returns-in-Ok-call_away-clause-takes g c =
    away_taken c.args.purge c.args.path.now c.args.name.now _ _ c.requires
    (c.in-Ok-call_away.ensures c.args.path.now c.args.name.now
    (c.as_str.ensures.value ∙ c.in-Ok.ensures)
    (c.as_str-2.ensures.value ∙ c.in-Ok-away_path.ensures)).called

pub returns-in-Ok-call_away-clause-holds : goal.returns-in-Ok-call_away-clause-holds
returns-in-Ok-call_away-clause-holds g c keys one_of =
    keeps_away c.args.path.now keys c.args.purge c.args.name.now c.requires one_of
    (c.in-Ok-call_away.ensures c.args.path.now c.args.name.now
    (c.as_str.ensures.value ∙ c.in-Ok.ensures)
    (c.as_str-2.ensures.value ∙ c.in-Ok-away_path.ensures)).called

pub returns-clause-takes : goal.returns-clause-takes
returns-clause-takes g c =
    away_refused c.args.purge c.args.path.now c.args.name.now c.in-Err-call_away.why _ _
    (c.in-Err-call_away.ensures c.args.path.now c.args.name.now
    (c.as_str.ensures.value ∙ c.in-Ok.ensures)
    (c.as_str-2.ensures.value ∙ c.in-Ok-away_path.ensures)).called

pub returns-clause-holds : goal.returns-clause-holds
returns-clause-holds g c keys one_of =
    keeps_away c.args.path.now keys c.args.purge c.args.name.now c.requires one_of
    (c.in-Err-call_away.ensures c.args.path.now c.args.name.now
    (c.as_str.ensures.value ∙ c.in-Ok.ensures)
    (c.as_str-2.ensures.value ∙ c.in-Ok-away_path.ensures)).called

pub returns-in-Ok-call_away-clause-calls : goal.returns-in-Ok-call_away-clause-calls
returns-in-Ok-call_away-clause-calls g c =
    took_calls c.args.purge c.args.path.now c.args.name.now (Ok _) _ _ c.requires
    (c.in-Ok-call_away.ensures c.args.path.now c.args.name.now
    (c.as_str.ensures.value ∙ c.in-Ok.ensures)
    (c.as_str-2.ensures.value ∙ c.in-Ok-away_path.ensures)).called.goes

pub returns-clause-calls : goal.returns-clause-calls
returns-clause-calls g c =
    took_calls c.args.purge c.args.path.now c.args.name.now (Err c.in-Err-call_away.why) _ _
    c.requires
    (c.in-Err-call_away.ensures c.args.path.now c.args.name.now
    (c.as_str.ensures.value ∙ c.in-Ok.ensures)
    (c.as_str-2.ensures.value ∙ c.in-Ok-away_path.ensures)).called.goes

pub returns-clause-cause : goal.returns-clause-cause
returns-clause-cause g c =
    took_cause c.args.purge c.args.path.now c.args.name.now c.in-Err-call_away.why
    c.error_at.result _ _ c.error_at.ensures.changed
    (c.in-Err-call_away.ensures c.args.path.now c.args.name.now
    (c.as_str.ensures.value ∙ c.in-Ok.ensures)
    (c.as_str-2.ensures.value ∙ c.in-Ok-away_path.ensures)).called.goes
