use Rattle.std.proofs.Common.{false, inl, refl}
use Rattle.mbox_writes.proofs.Adding.{adds_locked}
use Rattle.mbox_writes.proofs.Causes.{serves_locked, serves_tail}
use Rattle.mbox_writes.proofs.Unread.{taken_at, untaken}
use Rattle.mbox_writes.proofs.appending.append_file.Goals as goal

pub returns-in-Ok-clause-adds : goal.returns-in-Ok-clause-adds
returns-in-Ok-clause-adds g c =
    adds_locked c.args.path.now c.args.owner.now c.args.item.now c.append_locked.result _ _ _
    c.in-Ok.ensures.serves.grows
    (taken_at c.args.path.now c.args.owner.now false c.args.path.now _ _ refl c.in-Ok.ensures.takes)
    c.append_locked.ensures.adds

pub returns-in-Ok-clause-serves : goal.returns-in-Ok-clause-serves
returns-in-Ok-clause-serves g c =
    serves_locked c.append_locked.result _ _ _ c.in-Ok.ensures.serves c.append_locked.ensures.serves

pub returns-in-Err-clause-adds : goal.returns-in-Err-clause-adds
returns-in-Err-clause-adds g c =
    inl (untaken c.args.path.now c.args.owner.now false c.take_lock_on.new.held c.args.path.now
    c.args.path.now c.in-Err.why c.refused_tail.result _ _ refl refl c.in-Err.ensures
    c.refused_tail.ensures)

pub returns-in-Err-clause-serves : goal.returns-in-Err-clause-serves
returns-in-Err-clause-serves g c =
    serves_tail c.args.path.now c.in-Err.why c.refused_tail.result _ _ c.refused_tail.ensures
    c.in-Err.ensures.serves
