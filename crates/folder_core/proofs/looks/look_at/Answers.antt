use Rattle.std.proofs.Common.{false, refl, true}
use Rattle.disk_model.specs.Tree.{node_at}
use Rattle.disk_model.specs.declared.answers.DiskError.TheVariants.{Missing}
use Rattle.folder_core.proofs.FirstLookLemmas.{found_err, found_fault, found_ok, no_stat_stands}
use Rattle.folder_core.proofs.FirstLookLemmas.{stat_stands}
use Rattle.folder_core.proofs.LookedLemmas.{looked_err, looked_ok, stat_missing, stat_tells}
use Rattle.folder_core.proofs.looks.look_at.Goals as goal

pub returns-in-Ok-clause-looked : goal.returns-in-Ok-clause-looked
returns-in-Ok-clause-looked g c = looked_ok _ c.in-Ok.stat c.in-Ok.ensures.0 c.stat.ensures.1.0
    (λ tree is. stat_tells tree c.args.path.now c.in-Ok.stat is)

pub returns-in-Err-Missing-clause-looked : goal.returns-in-Err-Missing-clause-looked
returns-in-Err-Missing-clause-looked g c =
    looked_err _ c.in-Err-Missing.field-0 Missing c.in-Err-Missing.field-0-is refl
    c.in-Err-Missing.ensures.0 c.stat.ensures.1.0 (λ tree is. stat_missing tree c.args.path.now is)

pub returns-in-Ok-clause-first : goal.returns-in-Ok-clause-first
returns-in-Ok-clause-first g c =
    found_ok c.args.path.now true c.in-Ok.stat c.in-Ok.ensures.0
    (λ tree is. stat_stands (node_at tree c.args.path.now) c.in-Ok.stat
    (stat_tells tree c.args.path.now c.in-Ok.stat is))

pub returns-in-Err-Missing-clause-first : goal.returns-in-Err-Missing-clause-first
returns-in-Err-Missing-clause-first g c =
    found_err c.args.path.now false c.in-Err-Missing.field-0 Missing c.in-Err-Missing.field-0-is
    (λ e. (cc)) (λ e. (cc)) c.in-Err-Missing.ensures.0
    (λ tree is. no_stat_stands (node_at tree c.args.path.now)
    (stat_missing tree c.args.path.now is))

pub returns-in-Err-Fault-clause-first : goal.returns-in-Err-Fault-clause-first
returns-in-Err-Fault-clause-first g c =
    found_fault c.args.path.now c.in-Err-Fault.field-0 c.in-Err-Fault.field-0-is
    c.in-Err-Fault.ensures.0
