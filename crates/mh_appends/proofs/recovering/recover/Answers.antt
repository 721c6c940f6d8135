use Rattle.std.proofs.Common.{arith, refl}
use Rattle.disk_model.proofs.Looking.{called_looks}
use Rattle.mh_appends.proofs.Taking.{left_misses, path_misses}
use Rattle.mh_appends.proofs.Leaving as L
use Rattle.mh_appends.proofs.recovering.recover.Goals as goal

pub returns-in-Err : goal.returns-in-Err
returns-in-Err g c =
    L.left_refused c.args.path.now c.in-Err.why c.left_error.result c.left_error.ensures
    (L.takes_looked c.args.path.now c.in-Err.ensures.0.called) (omega arith) (omega arith)
    c.in-Err.ensures.0.counts
    (L.look_refused c.args.path.now c.in-Err.why c.left_error.result _ _ _ c.left_error.ensures
    c.in-Err.ensures.0.called)
    (path_misses c.args.path.now c.left_error.result c.in-Err.why c.left_error.ensures _ _
    c.in-Err.ensures.0.called)

pub returns-in-Ok-take_leftovers : goal.returns-in-Ok-take_leftovers
returns-in-Ok-take_leftovers g c =
    L.left_taken c.args.path.now (L.takes_looked c.args.path.now c.in-Ok.ensures.0.called)
    c.in-Ok-take_leftovers.ensures.takes c.in-Ok-take_leftovers.ensures.taken
    c.in-Ok.ensures.0.counts c.in-Ok-take_leftovers.ensures.counts
    (L.stat_found c.args.path.now c.in-Ok.ensures.0.called)

pub returns-in-Err-take_leftovers : goal.returns-in-Err-take_leftovers
returns-in-Err-take_leftovers g c =
    L.left_refused c.args.path.now c.in-Err-take_leftovers.why
    c.left_error-in-Err-take_leftovers.result
    c.left_error-in-Err-take_leftovers.ensures
    (L.takes_then c.args.path.now (L.takes_looked c.args.path.now c.in-Ok.ensures.0.called)
    c.in-Err-take_leftovers.ensures.takes) c.in-Ok.ensures.0.counts.marks
    c.in-Ok.ensures.0.counts.faults c.in-Err-take_leftovers.ensures.counts
    (L.found_refused c.args.path.now c.left_error-in-Err-take_leftovers.result _ _ _ _
    (L.stat_found c.args.path.now c.in-Ok.ensures.0.called)
    c.in-Err-take_leftovers.ensures.takes.only)
    (left_misses c.args.path.now c.left_error-in-Err-take_leftovers.result
    c.in-Err-take_leftovers.why c.left_error-in-Err-take_leftovers.ensures _ _ _
    (called_looks refl c.in-Ok.ensures.0.called) c.in-Err-take_leftovers.ensures.fails)
