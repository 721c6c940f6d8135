use Rattle.folder_makes.specs.Parts.{IsKeep, Nowhere}
use Rattle.folder_makes.proofs.Leaving.{kept_leaves, names_kept}
use Rattle.folder_makes.proofs.Parting.{part_met, part_refused}
use Rattle.std.proofs.Common.{Ok, refl}
use Rattle.folder_makes.proofs.directories.keep.Goals as goal

pub returns-in-Ok-clause-part : goal.returns-in-Ok-clause-part
returns-in-Ok-clause-part g c =
    part_met Nowhere Nowhere (IsKeep c.args.dir.now) tt (Ok tt) tt c.in-Ok.ensures

pub returns-in-Ok-clause-there : goal.returns-in-Ok-clause-there
returns-in-Ok-clause-there g c = kept_leaves c.args.dir.now c.in-Ok.ensures.called

pub returns-in-Ok-clause-kept : goal.returns-in-Ok-clause-kept
returns-in-Ok-clause-kept g c = names_kept c.args.dir.now c.in-Ok.ensures.called

pub returns-in-Err-clause-part : goal.returns-in-Err-clause-part
returns-in-Err-clause-part g c =
    part_refused Nowhere Nowhere (IsKeep c.args.dir.now) (λ tree. tt {0}) c.in-Err.why c.from.result
    tt refl c.from.ensures c.in-Err.ensures
