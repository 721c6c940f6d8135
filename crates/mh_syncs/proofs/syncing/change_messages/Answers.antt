use Rattle.std.proofs.Common.{Err, map, refl, sym}
use Rattle.folder_letters.specs.Letters.{plain_letter}
use Rattle.index_items.specs.Changes.{plain_changes}
use Rattle.disk_model.proofs.Looking.{grows_then}
use Rattle.folder_changes.proofs.ServingLemmas.{serves_then}
use Rattle.mh_syncs.proofs.Flagging.{flags_follow}
use Rattle.mh_syncs.proofs.Whole as W
use Rattle.mh_syncs.proofs.Causing.{clears_at, folder_refused, names_refused, take_refused}
use Rattle.mh_syncs.proofs.syncing.change_messages.Goals as goal

pub returns-in-Err-put_sequences-clause-serves : goal.returns-in-Err-put_sequences-clause-serves
returns-in-Err-put_sequences-clause-serves g c =
    serves_then c.in-Ok.text (Err c.in-Err-put_sequences.why) _ _ _ c.in-Ok.ensures.serves
    c.in-Err-put_sequences.ensures.serves

pub returns-in-Err-take_all-clause-serves : goal.returns-in-Err-take_all-clause-serves
returns-in-Err-take_all-clause-serves g c =
    serves_then c.in-Ok.text (Err c.in-Err-take_all.why) _ _ _ c.in-Ok.ensures.serves
    (serves_then tt (Err c.in-Err-take_all.why) _ _ _ c.in-Ok-put_sequences.ensures.serves
    c.in-Err-take_all.ensures.serves)

pub returns-clause-serves : goal.returns-clause-serves
returns-clause-serves g c =
    serves_then c.in-Ok.text c.keep_names.result _ _ _ c.in-Ok.ensures.serves
    (serves_then tt c.keep_names.result _ _ _ c.in-Ok-put_sequences.ensures.serves
    (serves_then tt c.keep_names.result _ _ _ c.in-Ok-take_all.ensures.serves
    c.keep_names.ensures.serves))

pub returns-in-Err-clause-works : goal.returns-in-Err-clause-works
returns-in-Err-clause-works g c =
    (W.not_prepared c.args.purge c.args.known.now (map plain_letter c.args.archive.now)
    (plain_changes c.args.changes.now) c.in-Err.why _ _ c.in-Err.ensures.leaves).works

pub returns-in-Err-clause-keeps : goal.returns-in-Err-clause-keeps
returns-in-Err-clause-keeps g c =
    (W.not_prepared c.args.purge c.args.known.now (map plain_letter c.args.archive.now)
    (plain_changes c.args.changes.now) c.in-Err.why _ _ c.in-Err.ensures.leaves).keeps

pub returns-in-Err-clause-here : goal.returns-in-Err-clause-here
returns-in-Err-clause-here g c =
    (W.not_prepared c.args.purge c.args.known.now (map plain_letter c.args.archive.now)
    (plain_changes c.args.changes.now) c.in-Err.why _ _ c.in-Err.ensures.leaves).here

pub returns-in-Err-put_sequences-clause-works : goal.returns-in-Err-put_sequences-clause-works
returns-in-Err-put_sequences-clause-works g c =
    (W.not_put c.args.purge c.args.known.now (map plain_letter c.args.archive.now)
    (plain_changes c.args.changes.now) c.path.result.now c.as_slice.result.now
    c.in-Err-put_sequences.why _ _ _ c.path.ensures c.in-Ok.ensures.leaves
    c.in-Err-put_sequences.ensures.puts c.in-Err-put_sequences.ensures.holds).works

pub returns-in-Err-put_sequences-clause-keeps : goal.returns-in-Err-put_sequences-clause-keeps
returns-in-Err-put_sequences-clause-keeps g c =
    (W.not_put c.args.purge c.args.known.now (map plain_letter c.args.archive.now)
    (plain_changes c.args.changes.now) c.path.result.now c.as_slice.result.now
    c.in-Err-put_sequences.why _ _ _ c.path.ensures c.in-Ok.ensures.leaves
    c.in-Err-put_sequences.ensures.puts c.in-Err-put_sequences.ensures.holds).keeps

pub returns-in-Err-put_sequences-clause-here : goal.returns-in-Err-put_sequences-clause-here
returns-in-Err-put_sequences-clause-here g c =
    (W.not_put c.args.purge c.args.known.now (map plain_letter c.args.archive.now)
    (plain_changes c.args.changes.now) c.path.result.now c.as_slice.result.now
    c.in-Err-put_sequences.why _ _ _ c.path.ensures c.in-Ok.ensures.leaves
    c.in-Err-put_sequences.ensures.puts c.in-Err-put_sequences.ensures.holds).here

pub returns-in-Err-take_all-clause-works : goal.returns-in-Err-take_all-clause-works
returns-in-Err-take_all-clause-works g c =
    let mails = map plain_letter c.args.archive.now in
    let changes = plain_changes c.args.changes.now in
    let found = c.in-Ok.ensures.prepares in
    (W.not_gone c.args.purge c.args.known.now mails changes c.path.result.now
    c.path-2.result.now c.in-Ok.text.items c.as_slice.result.now c.path.ensures
    c.path-2.ensures c.as_slice.ensures _ _ _ _
    c.in-Ok.ensures.leaves found
    (λ name number. flags_follow mails changes found.sequences c.requires.apart found.numbers
    name number)
    c.in-Ok-put_sequences.ensures.puts c.in-Ok-put_sequences.ensures.holds
    c.in-Err-take_all.ensures.holds c.in-Err-take_all.why
    (grows_then _ _ _ c.in-Ok-put_sequences.ensures.serves.grows
    c.in-Err-take_all.ensures.serves.grows)
    c.in-Err-take_all.ensures.takes).works

pub returns-in-Err-take_all-clause-keeps : goal.returns-in-Err-take_all-clause-keeps
returns-in-Err-take_all-clause-keeps g c =
    let mails = map plain_letter c.args.archive.now in
    let changes = plain_changes c.args.changes.now in
    let found = c.in-Ok.ensures.prepares in
    (W.not_gone c.args.purge c.args.known.now mails changes c.path.result.now
    c.path-2.result.now c.in-Ok.text.items c.as_slice.result.now c.path.ensures
    c.path-2.ensures c.as_slice.ensures _ _ _ _
    c.in-Ok.ensures.leaves found
    (λ name number. flags_follow mails changes found.sequences c.requires.apart found.numbers
    name number)
    c.in-Ok-put_sequences.ensures.puts c.in-Ok-put_sequences.ensures.holds
    c.in-Err-take_all.ensures.holds c.in-Err-take_all.why
    (grows_then _ _ _ c.in-Ok-put_sequences.ensures.serves.grows
    c.in-Err-take_all.ensures.serves.grows)
    c.in-Err-take_all.ensures.takes).keeps

pub returns-in-Err-take_all-clause-here : goal.returns-in-Err-take_all-clause-here
returns-in-Err-take_all-clause-here g c =
    let mails = map plain_letter c.args.archive.now in
    let changes = plain_changes c.args.changes.now in
    let found = c.in-Ok.ensures.prepares in
    (W.not_gone c.args.purge c.args.known.now mails changes c.path.result.now
    c.path-2.result.now c.in-Ok.text.items c.as_slice.result.now c.path.ensures
    c.path-2.ensures c.as_slice.ensures _ _ _ _
    c.in-Ok.ensures.leaves found
    (λ name number. flags_follow mails changes found.sequences c.requires.apart found.numbers
    name number)
    c.in-Ok-put_sequences.ensures.puts c.in-Ok-put_sequences.ensures.holds
    c.in-Err-take_all.ensures.holds c.in-Err-take_all.why
    (grows_then _ _ _ c.in-Ok-put_sequences.ensures.serves.grows
    c.in-Err-take_all.ensures.serves.grows)
    c.in-Err-take_all.ensures.takes).here

pub returns-clause-works : goal.returns-clause-works
returns-clause-works g c =
    let mails = map plain_letter c.args.archive.now in
    let changes = plain_changes c.args.changes.now in
    let found = c.in-Ok.ensures.prepares in
    (W.all_gone c.args.purge c.args.known.now mails changes c.path.result.now
    c.path-2.result.now c.in-Ok.text.items c.as_slice.result.now c.path.ensures
    c.path-2.ensures c.as_slice.ensures _ _ _ _
    c.in-Ok.ensures.leaves found
    (λ name number. flags_follow mails changes found.sequences c.requires.apart found.numbers
    name number)
    c.in-Ok-put_sequences.ensures.puts c.in-Ok-put_sequences.ensures.holds
    c.in-Ok-take_all.ensures.holds c.keep_names.result c.path-3.result.now _ c.path-3.ensures
    (grows_then _ _ _ c.in-Ok-put_sequences.ensures.serves.grows
    (grows_then _ _ _ c.in-Ok-take_all.ensures.serves.grows c.keep_names.ensures.serves.grows))
    c.in-Ok-take_all.ensures.takes c.keep_names.ensures.leaves).works

pub returns-clause-keeps : goal.returns-clause-keeps
returns-clause-keeps g c =
    let mails = map plain_letter c.args.archive.now in
    let changes = plain_changes c.args.changes.now in
    let found = c.in-Ok.ensures.prepares in
    (W.all_gone c.args.purge c.args.known.now mails changes c.path.result.now
    c.path-2.result.now c.in-Ok.text.items c.as_slice.result.now c.path.ensures
    c.path-2.ensures c.as_slice.ensures _ _ _ _
    c.in-Ok.ensures.leaves found
    (λ name number. flags_follow mails changes found.sequences c.requires.apart found.numbers
    name number)
    c.in-Ok-put_sequences.ensures.puts c.in-Ok-put_sequences.ensures.holds
    c.in-Ok-take_all.ensures.holds c.keep_names.result c.path-3.result.now _ c.path-3.ensures
    (grows_then _ _ _ c.in-Ok-put_sequences.ensures.serves.grows
    (grows_then _ _ _ c.in-Ok-take_all.ensures.serves.grows c.keep_names.ensures.serves.grows))
    c.in-Ok-take_all.ensures.takes c.keep_names.ensures.leaves).keeps

pub returns-clause-here : goal.returns-clause-here
returns-clause-here g c =
    let mails = map plain_letter c.args.archive.now in
    let changes = plain_changes c.args.changes.now in
    let found = c.in-Ok.ensures.prepares in
    (W.all_gone c.args.purge c.args.known.now mails changes c.path.result.now
    c.path-2.result.now c.in-Ok.text.items c.as_slice.result.now c.path.ensures
    c.path-2.ensures c.as_slice.ensures _ _ _ _
    c.in-Ok.ensures.leaves found
    (λ name number. flags_follow mails changes found.sequences c.requires.apart found.numbers
    name number)
    c.in-Ok-put_sequences.ensures.puts c.in-Ok-put_sequences.ensures.holds
    c.in-Ok-take_all.ensures.holds c.keep_names.result c.path-3.result.now _ c.path-3.ensures
    (grows_then _ _ _ c.in-Ok-put_sequences.ensures.serves.grows
    (grows_then _ _ _ c.in-Ok-take_all.ensures.serves.grows c.keep_names.ensures.serves.grows))
    c.in-Ok-take_all.ensures.takes c.keep_names.ensures.leaves).here

pub returns-in-Err-take_all-clause-names : goal.returns-in-Err-take_all-clause-names
returns-in-Err-take_all-clause-names g c =
    c.in-Err-take_all.ensures.names c.args.known.now c.path-2.ensures

-- Why it is refused.

pub returns-in-Err-put_sequences-clause-cause : goal.returns-in-Err-put_sequences-clause-cause
returns-in-Err-put_sequences-clause-cause g c stamped =
    folder_refused c.args.known.now (map plain_letter c.args.archive.now)
    (plain_changes c.args.changes.now) c.path.result.now c.in-Err-put_sequences.why _ _
    c.path.ensures c.in-Err-put_sequences.ensures.at
    (c.in-Err-put_sequences.ensures.cause _
    (clears_at c.args.known.now.path c.path.result.now _ _ (sym c.path.ensures)
    c.in-Ok.ensures.calls))

pub returns-in-Err-take_all-clause-cause : goal.returns-in-Err-take_all-clause-cause
returns-in-Err-take_all-clause-cause g c stamped =
    take_refused c.args.known.now (map plain_letter c.args.archive.now)
    (plain_changes c.args.changes.now) c.path-2.result.now c.args.known.now.path c.path.result.now
    c.in-Err-take_all.why _ _ _ _ c.path-2.ensures refl c.path.ensures
    (c.in-Err-take_all.ensures.names c.args.known.now c.path-2.ensures)
    c.in-Ok.ensures.calls c.in-Ok-put_sequences.ensures.calls
    (grows_then _ _ _ c.in-Ok-put_sequences.ensures.serves.grows
    c.in-Err-take_all.ensures.serves.grows)
    c.in-Err-take_all.ensures.serves.grows c.in-Err-take_all.ensures.cause

pub returns-clause-cause : goal.returns-clause-cause
returns-clause-cause g c stamped =
    names_refused c.args.known.now (map plain_letter c.args.archive.now)
    (plain_changes c.args.changes.now) c.path-3.result.now c.args.known.now.path c.path.result.now
    c.path-2.result.now c.keep_names.result _ _ _ _ _ c.path-3.ensures refl c.path.ensures
    c.path-2.ensures c.in-Ok.ensures.calls c.in-Ok-put_sequences.ensures.calls
    c.in-Ok-take_all.ensures.calls
    (grows_then _ _ _ c.in-Ok-put_sequences.ensures.serves.grows
    (grows_then _ _ _ c.in-Ok-take_all.ensures.serves.grows c.keep_names.ensures.serves.grows))
    (grows_then _ _ _ c.in-Ok-take_all.ensures.serves.grows c.keep_names.ensures.serves.grows)
    c.keep_names.ensures.serves.grows c.keep_names.ensures.at c.keep_names.ensures.cause
