use Rattle.mbox_writes.proofs.Adding.{adds_done, adds_not}
use Rattle.mbox_writes.proofs.appending.append_mailbox.Goals as goal

pub returns-in-Ok : goal.returns-in-Ok
returns-in-Ok g c =
    adds_done c.args.path.now c.args.owner.now c.args.item.now _ _ c.in-Ok.ensures.adds
    c.in-Ok.ensures.serves

pub returns-in-Err : goal.returns-in-Err
returns-in-Err g c =
    adds_not c.args.path.now c.args.owner.now c.args.item.now c.in-Err.why c.as_folder.result _ _
    c.as_folder.ensures c.in-Err.ensures.adds c.in-Err.ensures.serves
