use Rattle.std.proofs.Common.{◌∙◌}
use Rattle.folder_tails.specs.Sides.{home_of}
use Rattle.folder_tails.proofs.Leads as L
use Rattle.folder_tails.proofs.Takes as T
use Rattle.folder_tails.proofs.lock.take_over.Goals as goal

pub returns-in-Ok : goal.returns-in-Ok
returns-in-Ok g c =
    T.take_owned (home_of c.args.sides.now) c.args.owner.now c.args.line.now c.args.held.now
    c.has_lock.new.held _ _ _ c.requires.line
    (c.in-Ok-true.ensures.held ∙ c.in-Ok-true.field-0-test)
    (c.in-Ok-true.ensures.own c.in-Ok-true.field-0-test) c.in-Ok-true.ensures.looks
    c.in-Ok-true.ensures.counts.marks c.in-Ok-true.ensures.counts.faults c.in-Ok.ensures.ok
    c.in-Ok.ensures.counts

pub returns-in-Err-take_own : goal.returns-in-Err-take_own
returns-in-Err-take_own g c =
    T.take_unowned (home_of c.args.sides.now) c.args.owner.now c.args.held.now
    c.has_lock.new.held _ c.tail_error.result _ _ _ c.tail_error.ensures
    (c.in-Ok-true.ensures.own c.in-Ok-true.field-0-test) c.in-Ok-true.ensures.looks
    c.in-Ok-true.ensures.counts.marks c.in-Ok-true.ensures.counts.faults
    c.in-Err-take_own.ensures.stays c.in-Err-take_own.ensures.counts

pub returns-in-Ok-false : goal.returns-in-Ok-false
returns-in-Ok-false g c =
    T.take_locked (home_of c.args.sides.now) c.args.owner.now c.args.held.now
    c.has_lock.new.held c.in-Ok-false.field-0 _ _
    (c.in-Ok-false.ensures.held ∙ c.in-Ok-false.field-0-test) c.in-Ok-false.ensures.stays
    c.in-Ok-false.ensures.looks c.in-Ok-false.ensures.counts
    (c.in-Ok-false.ensures.tells.not_ours c.in-Ok-false.field-0-test)

pub returns-in-Err : goal.returns-in-Err
returns-in-Err g c =
    let path = home_of c.args.sides.now in
    T.take_refused path c.args.owner.now c.args.held.now c.has_lock.new.held _
    c.tail_error-in-Err.result _ _ c.tail_error-in-Err.ensures
    (λ ours knows. L.only path ours (c.in-Err.ensures.stays ours)
    (L.entered path ours c.args.held.now))
    (T.looks_grow _ _ c.in-Err.ensures.looks) c.in-Err.ensures.counts
