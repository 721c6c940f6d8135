use Rattle.std.proofs.Common.{inl, refl}
use Rattle.folder_changes.proofs.ServingLemmas.{serves_then}
use Rattle.mbox_writes.proofs.Causes.{serves_back}
use Rattle.mbox_writes.proofs.Unread.{unreadable}
use Rattle.mbox_writes.proofs.appending.append_locked.Goals as goal

pub returns-in-Ok-clause-serves : goal.returns-in-Ok-clause-serves
returns-in-Ok-clause-serves g c =
    serves_then c.in-Ok.bytes c.append_read.result _ _ _ c.in-Ok.ensures.serves
    c.append_read.ensures.serves

pub returns-in-Err-clause-adds : goal.returns-in-Err-clause-adds
returns-in-Err-clause-adds g c =
    inl (unreadable c.args.path.now c.args.owner.now c.args.held.now c.args.path.now
    c.args.path.now c.in-Err.why c.give_back_unwritten.result _ _ _ refl refl c.in-Err.ensures.stays
    c.in-Err.ensures.unread c.give_back_unwritten.ensures.told c.give_back_unwritten.ensures.stays
    c.give_back_unwritten.ensures.goes.grows)

pub returns-in-Err-clause-serves : goal.returns-in-Err-clause-serves
returns-in-Err-clause-serves g c =
    serves_back c.in-Err.why c.give_back_unwritten.result _ _ _ c.give_back_unwritten.ensures.told
    c.in-Err.ensures.serves c.give_back_unwritten.ensures.goes
