use Rattle.std.proofs.Common.{Err, Ok, List, ap, length, map, refl, subst, sym}
use Rattle.folder_letters.specs.Letters.{plain_letter}
use Rattle.folder_letters.specs.declared.letter.Letter.{Letter}
use Rattle.index_items.specs.Changes.{plain_changes}
use Rattle.folder_changes.specs.Asked.{AreApart}
use Rattle.mh_syncs.proofs.Ending as Y
use Rattle.mh_syncs.proofs.syncing.sync_folder.Goals as goal

pub known_synced-requires : goal.known_synced-requires
known_synced-requires g c =
    Y.letters_below c.args.archive.now.items c.len.result c.args.known.now _ c.args.changes.now
    c.len.ensures c.requires.right c.requires.listed

pub change_messages-requires-clause-within : goal.change_messages-requires-clause-within
change_messages-requires-clause-within g c =
    Y.letters_below c.args.archive.now.items (length c.as_slice.result.now) c.args.known.now _
    c.args.changes.now (ap length c.as_slice.ensures) c.requires.right c.requires.listed

pub change_messages-requires-clause-apart : goal.change_messages-requires-clause-apart
change_messages-requires-clause-apart g c =
    subst (λ (l : List Letter). AreApart (map plain_letter l) (plain_changes c.args.changes.now))
    (sym c.as_slice.ensures)
    (Y.right_apart (map plain_letter c.args.archive.now.items) c.args.known.now _
    (plain_changes c.args.changes.now) c.requires.right c.requires.listed c.requires.once)

pub returns-in-Err : goal.returns-in-Err
returns-in-Err g c =
    Y.syncs_none c.args.purge_files (map plain_letter c.args.archive.now.items)
    (plain_changes c.args.changes.now) c.args.known.now _ c.requires.right

pub returns-in-Err-change_messages : goal.returns-in-Err-change_messages
returns-in-Err-change_messages g c =
    Y.syncs_not c.args.purge_files (plain_changes c.args.changes.now) c.args.known.now _ _ _
    (map plain_letter c.args.archive.now.items) c.in-Err-change_messages.why refl
    c.requires.right
    (Y.did_letters c.args.purge_files c.as_slice.result.now c.args.archive.now.items
    (plain_changes c.args.changes.now) c.args.known.now.path (Err c.in-Err-change_messages.why)
    _ _ c.as_slice.ensures c.in-Err-change_messages.ensures.works)
    (Y.keeps_letters c.as_slice.result.now c.args.archive.now.items c.args.known.now
    (plain_changes c.args.changes.now) _ _ c.as_slice.ensures
    c.in-Err-change_messages.ensures.keeps)
    c.in-Err-change_messages.ensures.here
    (Y.names_letters c.as_slice.result.now c.args.archive.now.items c.args.known.now
    (plain_changes c.args.changes.now) c.in-Err-change_messages.why c.as_slice.ensures
    c.in-Err-change_messages.ensures.names)
    (Y.cause_letters c.as_slice.result.now c.args.archive.now.items c.args.known.now
    (plain_changes c.args.changes.now) c.in-Err-change_messages.why _ _ c.as_slice.ensures
    c.requires.right c.requires.listed c.in-Err-change_messages.ensures.cause)
    c.in-Err-change_messages.ensures.serves

pub returns-in-Ok-change_messages : goal.returns-in-Ok-change_messages
returns-in-Ok-change_messages g c =
    Y.syncs_done c.args.purge_files (plain_changes c.args.changes.now) c.args.known.now
    c.put.new.self _ _ (map plain_letter c.args.archive.now.items) c.in-Ok.synced.0.items
    c.new.result.items c.in-Ok.synced.1.items c.in-Ok.ensures.listing c.new.ensures
    c.in-Ok.ensures.stamps c.put.ensures c.requires.right
    (Y.did_letters c.args.purge_files c.as_slice.result.now c.args.archive.now.items
    (plain_changes c.args.changes.now) c.args.known.now.path (Ok tt)
    _ _ c.as_slice.ensures c.in-Ok-change_messages.ensures.works)
    (Y.keeps_letters c.as_slice.result.now c.args.archive.now.items c.args.known.now
    (plain_changes c.args.changes.now) _ _ c.as_slice.ensures
    c.in-Ok-change_messages.ensures.keeps)
    c.in-Ok-change_messages.ensures.here c.in-Ok-change_messages.ensures.serves
