use Rattle.std.proofs.Common.{inl}
use Rattle.folder_changes.proofs.ServingLemmas.{serves_then}
use Rattle.index_items.specs.Changes.{plain_changes}
use Rattle.mbox_writes.proofs.Causes.{serves_back}
use Rattle.mbox_writes.proofs.Rewriting.{read_so}
use Rattle.mbox_writes.proofs.Unread.{unreadable}
use Rattle.mbox_writes.proofs.syncing.change_locked.Goals as goal

pub returns-in-Ok-clause-serves : goal.returns-in-Ok-clause-serves
returns-in-Ok-clause-serves g c =
    serves_then c.in-Ok.bytes c.change_read.result _ _ _ c.in-Ok.ensures.serves
    c.change_read.ensures.serves

pub returns-in-Ok-clause-changes : goal.returns-in-Ok-clause-changes
returns-in-Ok-clause-changes g c =
    read_so c.args.known.now c.args.owner.now (plain_changes c.args.changes.now)
    c.change_read.new.held c.in-Ok.bytes.items c.path.result.now c.change_read.result _ _ _
    c.path.ensures c.in-Ok.ensures.reads c.change_read.ensures.rewrote

pub returns-in-Err-clause-changes : goal.returns-in-Err-clause-changes
returns-in-Err-clause-changes g c =
    inl (unreadable c.args.known.now.path c.args.owner.now c.args.held.now c.path.result.now
    c.path-in-Err.result.now c.in-Err.why c.give_back_unwritten.result _ _ _ c.path.ensures
    c.path-in-Err.ensures c.in-Err.ensures.stays c.in-Err.ensures.unread
    c.give_back_unwritten.ensures.told
    c.give_back_unwritten.ensures.stays c.give_back_unwritten.ensures.goes.grows)

pub returns-in-Err-clause-serves : goal.returns-in-Err-clause-serves
returns-in-Err-clause-serves g c =
    serves_back c.in-Err.why c.give_back_unwritten.result _ _ _ c.give_back_unwritten.ensures.told
    c.in-Err.ensures.serves c.give_back_unwritten.ensures.goes
