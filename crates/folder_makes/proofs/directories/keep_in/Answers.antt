use Rattle.folder_makes.proofs.Parting.{keep_part}
use Rattle.folder_makes.proofs.directories.keep_in.Goals as goal

pub returns-in-Ok-clause-part : goal.returns-in-Ok-clause-part
returns-in-Ok-clause-part g c = keep_part _ c.keep.result c.keep.ensures.part
