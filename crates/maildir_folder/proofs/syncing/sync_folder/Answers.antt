use Rattle.mail_base.specs.declared.kind.Kind.TheVariants.{Maildir}
use Rattle.std.proofs.Common.{◌∙◌, Err, List, Ok, ap, length, map, refl, subst, sym}
use Rattle.folder_letters.specs.Letters.{plain_letter}
use Rattle.folder_letters.specs.declared.letter.Letter.{Letter}
use Rattle.index_items.specs.Changes.{plain_changes}
use Rattle.folder_changes.specs.Left.{listing_synced}
use Rattle.folder_changes.specs.Asked.{AreApart, ids_of}
use Rattle.maildir_folder.proofs.SyncedLemmas.{right_apart}
use Rattle.maildir_folder.proofs.StopLemmas.{here_only, holds_letters}
use Rattle.maildir_folder.proofs.SyncedLemmas.{cause_letters, did_letters, letters_below}
use Rattle.maildir_folder.proofs.SyncedLemmas.{names_letters}
use Rattle.maildir_folder.proofs.SyncedLemmas.{syncs_done, syncs_none, syncs_not}
use Rattle.maildir_folder.proofs.syncing.sync_folder.Goals as goal

pub listing_synced-requires : goal.listing_synced-requires
listing_synced-requires g c =
    letters_below c.args.archive.now.items c.len.result c.args.known.now _ c.args.changes.now
    c.len.ensures c.requires.right c.requires.listed

pub change_files-requires-clause-within : goal.change_files-requires-clause-within
change_files-requires-clause-within g c =
    letters_below c.args.archive.now.items (length c.as_slice.result.now) c.args.known.now _
    c.args.changes.now (ap length c.as_slice.ensures) c.requires.right c.requires.listed

pub change_files-requires-clause-apart : goal.change_files-requires-clause-apart
change_files-requires-clause-apart g c =
    subst (λ (l : List Letter). AreApart (map plain_letter l) (plain_changes c.args.changes.now))
    (sym c.as_slice.ensures)
    (right_apart (map plain_letter c.args.archive.now.items) c.args.known.now _
    (plain_changes c.args.changes.now) c.requires.right c.requires.listed c.requires.once)

pub returns-in-Ok-change_files : goal.returns-in-Ok-change_files
returns-in-Ok-change_files g c =
    syncs_done (map plain_letter c.args.archive.now.items) (plain_changes c.args.changes.now)
    c.args.known.now c.put.new.self c.in-Ok.synced.items c.new.result.items
    c.new-in-Ok-change_files.result.items _ _
    (c.in-Ok.ensures ∙ ap (listing_synced Maildir (plain_changes c.args.changes.now))
    (c.as_slice-listing.ensures ∙ c.listing.ensures))
    c.new.ensures c.new-in-Ok-change_files.ensures c.put.ensures c.requires.right
    (did_letters c.as_slice.result.now c.args.archive.now.items
    (plain_changes c.args.changes.now) c.args.known.now.path (Ok tt) _ _ c.as_slice.ensures
    c.in-Ok-change_files.ensures.does)
    (holds_letters c.as_slice.result.now c.args.archive.now.items
    (plain_changes c.args.changes.now) c.args.known.now.path _ _ c.as_slice.ensures
    c.in-Ok-change_files.ensures.holds)
    (here_only c.args.known.now.path _ c.in-Ok-change_files.ensures.holds)
    c.in-Ok-change_files.ensures.serves

pub returns-in-Err-change_files : goal.returns-in-Err-change_files
returns-in-Err-change_files g c =
    syncs_not (map plain_letter c.args.archive.now.items) (plain_changes c.args.changes.now)
    c.args.known.now _ c.in-Err-change_files.why _ _ refl c.requires.right
    (did_letters c.as_slice.result.now c.args.archive.now.items
    (plain_changes c.args.changes.now) c.args.known.now.path (Err c.in-Err-change_files.why) _ _
    c.as_slice.ensures c.in-Err-change_files.ensures.does)
    (holds_letters c.as_slice.result.now c.args.archive.now.items
    (plain_changes c.args.changes.now) c.args.known.now.path _ _ c.as_slice.ensures
    c.in-Err-change_files.ensures.holds)
    (here_only c.args.known.now.path _ c.in-Err-change_files.ensures.holds)
    (names_letters c.as_slice.result.now c.args.archive.now.items
    (ids_of (plain_changes c.args.changes.now)) c.args.known.now.path c.in-Err-change_files.why
    c.as_slice.ensures c.in-Err-change_files.ensures.names)
    (cause_letters c.as_slice.result.now c.args.archive.now.items
    (plain_changes c.args.changes.now) c.args.known.now c.in-Err-change_files.why _ _
    c.as_slice.ensures c.in-Err-change_files.ensures.cause)
    c.in-Err-change_files.ensures.serves

pub returns-in-Err : goal.returns-in-Err
returns-in-Err g c =
    syncs_none (map plain_letter c.args.archive.now.items) (plain_changes c.args.changes.now)
    c.args.known.now _ c.requires.right
