use Rattle.folder_makes.proofs.Leaving.{kept_all}
use Rattle.folder_makes.proofs.Parting.{keep_part, keep_then}
use Rattle.folder_makes.proofs.directories.keep_directories.Goals as goal

pub returns-in-Err-keep_in-clause-part : goal.returns-in-Err-keep_in-clause-part
returns-in-Err-keep_in-clause-part g c =
    keep_then tt _ c.in-Ok.ensures.part c.in-Err-keep_in.ensures.part

pub returns-in-Err-keep_in-2-clause-part : goal.returns-in-Err-keep_in-2-clause-part
returns-in-Err-keep_in-2-clause-part g c =
    keep_then tt _ (keep_then tt _ c.in-Ok.ensures.part c.in-Ok-keep_in.ensures.part)
    c.in-Err-keep_in-2.ensures.part

pub returns-clause-part : goal.returns-clause-part
returns-clause-part g c =
    keep_then tt _ (keep_then tt _ (keep_then tt _ c.in-Ok.ensures.part
    c.in-Ok-keep_in.ensures.part) c.in-Ok-keep_in-2.ensures.part)
    (keep_part c.args.path.now c.keep.result c.keep.ensures.part)

pub returns-clause-there : goal.returns-clause-there
returns-clause-there g c =
    kept_all c.args.path.now c.keep.result _ _ _ _ _ c.keep_in.ensures.part.calls
    c.keep_in-2.ensures.part.calls c.in-Ok-keep_in.ensures.there
    c.keep_in-3.ensures.part.calls c.in-Ok-keep_in-2.ensures.there
    c.keep.ensures.part.calls c.keep.ensures.there
