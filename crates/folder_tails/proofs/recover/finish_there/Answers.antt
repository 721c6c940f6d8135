use Rattle.std.proofs.Common.{inl, refl}
use Rattle.folder_tails.specs.Sides.{home_of}
use Rattle.folder_tails.proofs.Finishes as F
use Rattle.folder_tails.proofs.Firsts.{found_refused, found_there}
use Rattle.folder_tails.proofs.Causes.{stat_around}
use Rattle.folder_tails.proofs.Leads as L
use Rattle.folder_tails.proofs.Reasons as R
use Rattle.folder_tails.proofs.recover.finish_there.Goals as goal

pub returns-in-Ok : goal.returns-in-Ok
returns-in-Ok g c =
    let path = home_of c.args.sides.now in
    F.finishes path c.args.owner.now c.args.held.now c.finish_by_lock.new.held
    c.finish_by_lock.result _ _
    (F.then_finishes path c.args.owner.now c.args.held.now c.args.held.now
    c.finish_by_lock.new.held c.finish_by_lock.result _ _ _
    (λ ours. L.looked path ours c.stat_mail.ensures.step.called refl tt
    (L.entered path ours c.args.held.now))
    c.stat_mail.ensures.looks c.stat_mail.ensures.step.counts.marks
    c.stat_mail.ensures.step.counts.faults c.finish_by_lock.ensures.part)
    (found_there path c.finish_by_lock.result c.in-Ok.field-0 _ _ _ c.in-Ok.ensures.step.called
    c.finish_by_lock.ensures.part.serves.grows)
    (R.then_for path c.args.owner.now c.args.held.now c.finish_by_lock.result
    c.stat_mail.ensures.step.grows c.finish_by_lock.ensures.why)

pub returns-in-Err : goal.returns-in-Err
returns-in-Err g c =
    let path = home_of c.args.sides.now in
    F.finishes path c.args.owner.now c.args.held.now c.args.held.now _ _ _
    (F.look_refused path c.args.owner.now c.args.held.now c.args.held.now _ c.scan_error.result _ _
    c.scan_error.ensures
    (λ ours. L.looked path ours c.stat_mail.ensures.step.called refl tt
    (L.entered path ours c.args.held.now))
    c.in-Err.ensures.looks c.in-Err.ensures.step.counts)
    (found_refused path _ c.scan_error.result _ _ c.scan_error.ensures c.in-Err.ensures.step.called
    c.in-Err.ensures.step.grows)
    (R.refused_for path c.args.owner.now c.args.held.now _ c.scan_error.result c.scan_error.ensures
    (stat_around path (inl refl) c.in-Err.ensures.step.called))
