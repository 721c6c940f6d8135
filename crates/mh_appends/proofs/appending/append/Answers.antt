use Rattle.std.proofs.Common.{ap, map, ◌∙◌}
use Rattle.folder_drivers.specs.MhAppend.{mh_core}
use Rattle.folder_letters.specs.Letters.{plain_letter}
use Rattle.mh_appends.proofs.Answering as A
use Rattle.mh_appends.proofs.Causing.{put_refused}
use Rattle.mh_appends.proofs.appending.append.Goals as goal

pub returns-in-Err : goal.returns-in-Err
returns-in-Err g c =
    A.not_chosen c.args.path.now (map plain_letter c.args.archive.now.items) c.args.item.now
    c.in-Err.why _ _ c.in-Err.ensures.ready.prepares c.in-Err.ensures.first c.in-Err.ensures.blames
    c.in-Err.ensures.cause

pub put-requires : goal.put-requires
put-requires g c =
    A.are_placed c.args.path.now c.core_of-core.result.now _ c.in-Ok.places _ _
    c.core_of-core.ensures c.in-Ok.ensures.chosen

pub returns : goal.returns
returns g c =
    A.answered c.args.path.now (map plain_letter c.args.archive.now.items) c.args.item.now
    c.in-Ok.places c.core_of-core.result.now _ _ _
    (c.core_of-core.ensures ∙ ap mh_core c.as_slice.ensures) c.in-Ok.ensures.ready
    c.in-Ok.ensures.chosen c.put.ensures.some c.in-Ok.places c.put.result c.in-Ok.ensures.first
    c.put.ensures.ok c.put.ensures.puts c.in-Ok.ensures.blames
    c.put.ensures.blames
    (put_refused c.args.path.now c.core_of-core.result.now c.in-Ok.places c.args.item.now.flags
    (A.are_placed c.args.path.now c.core_of-core.result.now _ c.in-Ok.places _ _
    c.core_of-core.ensures c.in-Ok.ensures.chosen) _ _ _ c.in-Ok.ensures.ready
    c.in-Ok.ensures.chosen c.put.result c.put.ensures.fails)
