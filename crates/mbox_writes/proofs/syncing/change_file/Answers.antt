use Rattle.std.proofs.Common.{inl}
use Rattle.index_items.specs.Changes.{plain_changes}
use Rattle.mbox_writes.proofs.Causes.{serves_locked, serves_tail}
use Rattle.mbox_writes.proofs.Rewriting.{lock_at}
use Rattle.mbox_writes.proofs.Unread.{untaken}
use Rattle.mbox_writes.proofs.syncing.change_file.Goals as goal

pub returns-in-Ok-clause-changes : goal.returns-in-Ok-clause-changes
returns-in-Ok-clause-changes g c =
    lock_at c.args.known.now c.args.owner.now (plain_changes c.args.changes.now)
    c.change_locked.new.held c.args.held.now c.path.result.now c.change_locked.result _ _ _
    c.path.ensures c.in-Ok.ensures.serves.grows c.in-Ok.ensures.takes
    c.change_locked.ensures.changes

pub returns-in-Ok-clause-serves : goal.returns-in-Ok-clause-serves
returns-in-Ok-clause-serves g c =
    serves_locked c.change_locked.result _ _ _ c.in-Ok.ensures.serves c.change_locked.ensures.serves

pub returns-in-Err-clause-changes : goal.returns-in-Err-clause-changes
returns-in-Err-clause-changes g c =
    inl (untaken c.args.known.now.path c.args.owner.now c.args.held.now c.take_lock_on.new.held
    c.path.result.now c.path-in-Err.result.now c.in-Err.why c.refused_tail.result _ _
    c.path.ensures c.path-in-Err.ensures c.in-Err.ensures c.refused_tail.ensures)

pub returns-in-Err-clause-serves : goal.returns-in-Err-clause-serves
returns-in-Err-clause-serves g c =
    serves_tail c.path-in-Err.result.now c.in-Err.why c.refused_tail.result _ _
    c.refused_tail.ensures c.in-Err.ensures.serves
