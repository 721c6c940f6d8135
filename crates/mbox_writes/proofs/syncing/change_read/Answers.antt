use Rattle.index_items.specs.Changes.{plain_changes}
use Rattle.folder_drivers.specs.MboxSync.{UnchangedFor}
use Rattle.mbox_writes.proofs.Causes.{given_for, serves_unplanned, unplanned_blames, unplanned_for}
use Rattle.mbox_writes.proofs.Rewriting.{unplanned}
use Rattle.mbox_writes.proofs.Unread.{back_at}
use Rattle.mbox_writes.proofs.syncing.change_read.Goals as goal

pub returns-in-Err-clause-rewrote : goal.returns-in-Err-clause-rewrote
returns-in-Err-clause-rewrote g c =
    let known = c.args.known.now in
    let changes = plain_changes c.args.changes.now in
    unplanned known c.args.owner.now changes c.args.bytes.items c.give_back_unwritten.new.held
    c.give_back_unwritten.result _ _
    (back_at known.path c.path.result.now c.args.owner.now _ _ c.path.ensures
    c.give_back_unwritten.ensures.stays)
    (given_for (UnchangedFor known.path known changes c.args.bytes.items) c.in-Err.why
    c.give_back_unwritten.result c.give_back_unwritten.ensures.told
    (unplanned_for known.path known changes c.args.bytes.items c.in-Err.why c.in-Err.ensures.err)
    tt)

pub returns-in-Err-clause-serves : goal.returns-in-Err-clause-serves
returns-in-Err-clause-serves g c =
    serves_unplanned c.in-Err.why c.give_back_unwritten.result _ _
    c.give_back_unwritten.ensures.told
    (unplanned_blames c.args.known.now (plain_changes c.args.changes.now) c.args.bytes.items
    c.in-Err.why c.in-Err.ensures.err) c.give_back_unwritten.ensures.goes
