use Rattle.std.proofs.Common.{map}
use Rattle.folder_letters.specs.Letters.{plain_letter}
use Rattle.index_items.specs.Changes.{plain_changes}
use Rattle.mbox_writes.proofs.Ending.{letters_below, refused, synced}
use Rattle.mbox_writes.proofs.syncing.sync_mailbox.Goals as goal

pub change_file-requires : goal.change_file-requires
change_file-requires g c =
    letters_below c.args.archive.now.items c.len.result c.args.known.now _ c.args.changes.now
    c.len.ensures c.requires.right c.requires.listed

pub returns-in-Ok : goal.returns-in-Ok
returns-in-Ok g c purge =
    synced c.args.owner.now purge (map plain_letter c.args.archive.now.items)
    (plain_changes c.args.changes.now) c.args.known.now c.put_plan.new.known _ _
    c.held-held.result
    c.change_file.new.held c.in-Ok.plan
    c.held-held.ensures c.in-Ok.ensures.changes c.put_plan.ensures
    c.in-Ok.ensures.serves c.requires.right

pub returns-in-Err : goal.returns-in-Err
returns-in-Err g c purge =
    refused c.args.owner.now purge (map plain_letter c.args.archive.now.items)
    (plain_changes c.args.changes.now) c.args.known.now c.set_held.new.self _ _
    c.held-held.result
    c.change_file.new.held c.in-Err.why
    c.held-held.ensures c.in-Err.ensures.changes c.set_held.ensures
    c.in-Err.ensures.serves c.requires.right
