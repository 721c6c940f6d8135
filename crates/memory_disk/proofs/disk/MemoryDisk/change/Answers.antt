use Rattle.std.proofs.Common.{refl, Ok}
use Rattle.disk_model.specs.Judge.{done_by}
use Rattle.memory_disk.specs.Plain.{plain_asked}
use Rattle.memory_disk.proofs.Turns.{err_step, no_bytes, refused_plays, turns, value_step}
use Rattle.memory_disk.proofs.Turns.{waits_plays}
use Rattle.memory_disk.proofs.disk.MemoryDisk.change.Goals as goal

pub returns-in-Ok-None-clause-step : goal.returns-in-Ok-None-clause-step
returns-in-Ok-None-clause-step c =
    value_step (Ok tt) (done_by (plain_asked c.args.asked)) (λ tree. tt) 0
    (turns c.in-Ok.ensures.ok c.in-Ok-None.ensures.ok) c.in-Ok-None.field-0-is
    (record { is = λ tree. refl }) refl
    (no_bytes (plain_asked c.args.asked) _ c.requires)

pub returns-in-Ok-Some-clause-step : goal.returns-in-Ok-Some-clause-step
returns-in-Ok-Some-clause-step c =
    err_step (done_by (plain_asked c.args.asked)) (λ tree. tt)
    (turns c.in-Ok.ensures.ok c.in-Ok-Some.ensures.ok)
    c.in-Ok-Some.field-0-is (record { is = λ tree. refl })

pub returns-in-Ok-Some-clause-plays : goal.returns-in-Ok-Some-clause-plays
returns-in-Ok-Some-clause-plays c =
    refused_plays (turns c.in-Ok.ensures.ok c.in-Ok-Some.ensures.ok) c.in-Ok-Some.field-0-is

pub returns-in-Err-clause-plays : goal.returns-in-Err-clause-plays
returns-in-Err-clause-plays c = waits_plays c.in-Ok.ensures.ok c.in-Err.ensures.err
