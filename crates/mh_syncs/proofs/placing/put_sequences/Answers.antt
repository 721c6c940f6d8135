use Rattle.std.proofs.Common.{◌∙◌}
use Rattle.mh_syncs.proofs.Beginning.{put_cause}
use Rattle.mh_syncs.proofs.placing.put_sequences.Goals as goal

pub returns-in-Ok-put_over-clause-puts : goal.returns-in-Ok-put_over-clause-puts
returns-in-Ok-put_over-clause-puts g c =
    (c.in-Ok-put_over.ensures.puts c.args.path.now (c.as_str.ensures.value ∙ c.in-Ok.ensures)
    (c.as_str-2.ensures.value ∙ c.in-Ok-path_in.ensures)).done

pub returns-in-Ok-put_over-clause-holds : goal.returns-in-Ok-put_over-clause-holds
returns-in-Ok-put_over-clause-holds g c =
    (c.in-Ok-put_over.ensures.puts c.args.path.now (c.as_str.ensures.value ∙ c.in-Ok.ensures)
    (c.as_str-2.ensures.value ∙ c.in-Ok-path_in.ensures)).holds

pub returns-clause-puts : goal.returns-clause-puts
returns-clause-puts g c =
    (c.in-Err-put_over.ensures.puts c.args.path.now (c.as_str.ensures.value ∙ c.in-Ok.ensures)
    (c.as_str-2.ensures.value ∙ c.in-Ok-path_in.ensures)).refused

pub returns-clause-holds : goal.returns-clause-holds
returns-clause-holds g c =
    (c.in-Err-put_over.ensures.puts c.args.path.now (c.as_str.ensures.value ∙ c.in-Ok.ensures)
    (c.as_str-2.ensures.value ∙ c.in-Ok-path_in.ensures)).holds

pub returns-clause-cause : goal.returns-clause-cause
returns-clause-cause g c before clears =
    put_cause c.args.path.now c.error_at.result c.in-Err-put_over.why before _
    (c.in-Err-put_over.ensures.cause c.args.path.now (c.as_str.ensures.value ∙ c.in-Ok.ensures)
    (c.as_str-2.ensures.value ∙ c.in-Ok-path_in.ensures) before clears)
    c.error_at.ensures.changed
