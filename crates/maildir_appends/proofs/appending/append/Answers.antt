use Rattle.std.proofs.Common.{◌∙◌, List, subst, ℕ}
use Rattle.std.specs.String.{string_bytes}
use Rattle.folder_changes.specs.Serving.{IsErrorAt}
use Rattle.folder_drivers.specs.MaildirAppend.{beside_at}
use Rattle.maildir_appends.proofs.Freeing.{put_refused, way_at}
use Rattle.maildir_appends.proofs.Causing.{for_append}
use Rattle.maildir_appends.proofs.Placed.{are_apart, put_for}
use Rattle.maildir_appends.proofs.Standing.{beside_unmade}
use Rattle.std.proofs.Common.{map}
use Rattle.folder_letters.specs.Letters.{plain_letter}
use Rattle.folder_shapes.specs.Maildir.{maildir_files}
use Rattle.maildir_appends.proofs.Answering as A
use Rattle.maildir_appends.proofs.Paths.{are_placed}
use Rattle.folder_drivers.proofs.Refusing as R
use Rattle.maildir_appends.proofs.appending.append.Goals as goal

pub returns-in-Err : goal.returns-in-Err
returns-in-Err g c =
    A.not_chosen c.args.path.now (map plain_letter c.args.archive.now.items) c.args.item.now
    c.in-Err.why _ _ c.in-Err.ensures.prepares c.in-Err.ensures.first c.in-Err.ensures.blames
    (for_append c.args.path.now c.in-Err.why _ _ c.in-Err.ensures.cause)

pub put-requires-clause-placed : goal.put-requires-clause-placed
put-requires-clause-placed g c = let chosen = c.in-Ok.ensures.chosen in
    are_placed c.args.path.now chosen.base c.args.item.now.flags c.in-Ok.places
    chosen.is_base chosen.paths

pub returns-in-Ok-put : goal.returns-in-Ok-put
returns-in-Ok-put g c =
    A.was_put c.args.path.now c.as_slice-letters.result.now c.args.archive.now.items
    c.args.item.now c.seconds_of-moment.result c.in-Ok.places c.as_slice.result.now _ _ _
    c.as_slice-letters.ensures c.seconds_of-moment.ensures c.as_slice.ensures
    c.in-Ok.ensures.prepares c.in-Ok.ensures.first c.in-Ok.ensures.chosen c.in-Ok-put.ensures.some
    c.in-Ok-put.ensures.ok c.in-Ok-put.ensures.puts
    (R.blames_none _ c.in-Ok.ensures.blames c.in-Ok-put.ensures.counts)

pub returns-in-Err-Exists : goal.returns-in-Err-Exists
returns-in-Err-Exists g c =
    A.not_put c.args.path.now (map plain_letter c.args.archive.now.items) c.args.item.now
    c.name_changed.result c.as_slice.result.now _ _ _ c.as_slice.ensures c.in-Ok.ensures.prepares
    c.in-Ok.ensures.first c.in-Err-Exists.ensures.some
    (R.blames_named _ c.as_str.result.now c.name_changed.result c.in-Ok.ensures.blames
    c.in-Err-Exists.field-0-is c.in-Err-Exists.ensures.counts c.name_changed.ensures.at
    c.name_changed.ensures.no_fault)
    (let chosen = c.in-Ok.ensures.chosen in
    let beside = c.as_str.ensures.value ∙ chosen.paths.beside in
    put_refused c.args.path.now chosen.base chosen.is_base
    (beside_unmade c.args.path.now chosen.base chosen.is_base) c.name_changed.result _ _ _
    (subst (λ (p : List ℕ). IsErrorAt p c.name_changed.result) beside c.name_changed.ensures.at)
    c.in-Ok.ensures.calls chosen.met
    (R.adds_grows (maildir_files c.args.path.now) c.as_slice.result.now c.in-Err-Exists.ensures.some)
    (way_at (string_bytes c.in-Ok.places.beside) (beside_at c.args.path.now chosen.base) _ _
    chosen.paths.beside (c.in-Err-Exists.ensures.in_way c.in-Err-Exists.field-0-is)))

pub returns : goal.returns
returns g c =
    A.not_put c.args.path.now (map plain_letter c.args.archive.now.items) c.args.item.now
    c.from.result c.as_slice.result.now _ _ _ c.as_slice.ensures c.in-Ok.ensures.prepares
    c.in-Ok.ensures.first c.in-Err-put.ensures.some
    (R.blamed _ c.in-Err-put.why c.from.result c.from.ensures c.in-Ok.ensures.blames
    c.in-Err-put.ensures.counts)
    (let chosen = c.in-Ok.ensures.chosen in
    for_append c.args.path.now c.from.result _ _
    (put_for c.args.path.now chosen.base c.args.item.now.flags c.in-Ok.places c.in-Err-put.why
    c.from.result _ _ _ chosen.is_base chosen.paths c.from.ensures c.in-Ok.ensures.calls
    (R.adds_grows (maildir_files c.args.path.now) c.as_slice.result.now c.in-Err-put.ensures.some)
    c.in-Err-put.ensures.cause))

pub put-requires-clause-apart : goal.put-requires-clause-apart
put-requires-clause-apart g c =
    let chosen = c.in-Ok.ensures.chosen in
    are_apart c.args.path.now chosen.base c.args.item.now.flags c.in-Ok.places chosen.is_base
    chosen.paths
