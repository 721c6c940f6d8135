use Rattle.folder_core.specs.Mh.{sequences_path}
use Rattle.folder_makes.specs.Parts.{IsAt, Nowhere}
use Rattle.folder_makes.proofs.MhMade.{finished_not, finished_then, leaves_if, sequences_if}
use Rattle.folder_makes.proofs.mh.finish.Goals as goal

pub returns-in-Ok-clause-part : goal.returns-in-Ok-clause-part
returns-in-Ok-clause-part g c =
    finished_then c.args.path.now c.keep.result c.in-Ok.ensures.part c.keep.ensures.part

pub returns-in-Ok-clause-there : goal.returns-in-Ok-clause-there
returns-in-Ok-clause-there g c =
    leaves_if Nowhere (IsAt (sequences_path c.args.path.now)) c.args.path.now c.keep.result _ _ _
    c.in-Ok.ensures.part.calls c.keep.ensures.there

pub returns-in-Ok-clause-sequences : goal.returns-in-Ok-clause-sequences
returns-in-Ok-clause-sequences g c =
    sequences_if c.args.path.now c.keep.result _ _ _ c.in-Ok.ensures.there
    c.keep.ensures.part.calls

pub returns-in-Err-clause-part : goal.returns-in-Err-clause-part
returns-in-Err-clause-part g c = finished_not c.args.path.now c.in-Err.why c.in-Err.ensures.part
