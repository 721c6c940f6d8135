use Rattle.std.proofs.Common.{◌∙◌}
use Rattle.folder_tails.specs.Sides.{home_of}
use Rattle.disk_model.proofs.Looking.{looks_grows}
use Rattle.folder_tails.proofs.Finishes as F
use Rattle.folder_tails.proofs.Reasons as R
use Rattle.folder_tails.proofs.recover.finish_by_lock.Goals as goal

pub returns-in-Ok-true-clause-part : goal.returns-in-Ok-true-clause-part
returns-in-Ok-true-clause-part g c =
    F.then_own (home_of c.args.sides.now) c.args.owner.now c.args.held.now c.finish_held.new.held
    c.finish_held.result _ _ _ (c.in-Ok-true.ensures.own c.in-Ok-true.field-0-test)
    c.in-Ok-true.ensures.looks c.in-Ok-true.ensures.counts.marks c.in-Ok-true.ensures.counts.faults
    c.finish_held.ensures

pub returns-in-Ok-false-clause-part : goal.returns-in-Ok-false-clause-part
returns-in-Ok-false-clause-part g c =
    F.then_finishes (home_of c.args.sides.now) c.args.owner.now c.args.held.now c.has_lock.new.held
    c.has_lock.new.held c.leave_foreign.result _ _ _
    (λ ours. F.unheld (home_of c.args.sides.now) ours c.args.held.now c.has_lock.new.held _ _
    (c.in-Ok-false.ensures.held ∙ c.in-Ok-false.field-0-test) (c.in-Ok-false.ensures.stays ours))
    c.in-Ok-false.ensures.looks c.in-Ok-false.ensures.counts.marks
    c.in-Ok-false.ensures.counts.faults (c.leave_foreign.ensures.part c.args.owner.now)

pub returns-in-Err-clause-part : goal.returns-in-Err-clause-part
returns-in-Err-clause-part g c =
    F.look_refused (home_of c.args.sides.now) c.args.owner.now c.args.held.now c.has_lock.new.held _
    c.scan_error.result _ _ c.scan_error.ensures c.in-Err.ensures.stays c.in-Err.ensures.looks
    c.in-Err.ensures.counts

pub returns-in-Ok-true-clause-why : goal.returns-in-Ok-true-clause-why
returns-in-Ok-true-clause-why g c =
    R.own_for (home_of c.args.sides.now) c.args.owner.now c.args.held.now c.finish_held.new.held
    c.finish_held.result _ _ (looks_grows _ _ c.in-Ok-true.ensures.looks)
    (c.in-Ok-true.ensures.tells.ours c.in-Ok-true.field-0-test) c.finish_held.ensures

pub returns-in-Ok-false-clause-why : goal.returns-in-Ok-false-clause-why
returns-in-Ok-false-clause-why g c =
    R.foreign_for (home_of c.args.sides.now) c.args.owner.now c.args.held.now
    c.leave_foreign.result (looks_grows _ _ c.in-Ok-false.ensures.looks)
    (c.leave_foreign.ensures.part c.args.owner.now).serves.grows
    (c.in-Ok-false.ensures.tells.not_ours c.in-Ok-false.field-0-test) c.leave_foreign.ensures.why

pub returns-in-Err-clause-why : goal.returns-in-Err-clause-why
returns-in-Err-clause-why g c =
    R.refused_for (home_of c.args.sides.now) c.args.owner.now c.args.held.now _ c.scan_error.result
    c.scan_error.ensures c.in-Err.ensures.tells.why
