use Rattle.std.proofs.Common.{Ok, inl, refl}
use Rattle.folder_makes.specs.Parts.{IsAt, IsCreate, NeedsEither, NeedsKept, Nowhere}
use Rattle.folder_makes.proofs.MboxKept.{kept_if}
use Rattle.folder_makes.proofs.MboxMade.{around_if, created_around, created_empty, empty_if, rooted}
use Rattle.folder_makes.proofs.MboxParts.{made_then}
use Rattle.folder_makes.proofs.Parting.{part_met, part_refused}
use Rattle.folder_makes.proofs.mbox.make_file.Goals as goal

pub returns-in-Ok-clause-part : goal.returns-in-Ok-clause-part
returns-in-Ok-clause-part g c = let path = c.args.path.now in
    made_then path c.folder_of.result.now c.folder_of.ensures c.keep.result
    (part_met Nowhere (IsAt path) (IsCreate path) tt (Ok tt) refl c.in-Ok.ensures)
    c.keep.ensures.part (rooted path _ _ c.in-Ok.ensures.called)

pub returns-in-Ok-clause-there : goal.returns-in-Ok-clause-there
returns-in-Ok-clause-there g c = let path = c.args.path.now in
    empty_if path c.keep.result _ _ _ (created_empty path c.in-Ok.ensures.called)
    c.keep.ensures.part.calls

pub returns-in-Ok-clause-around : goal.returns-in-Ok-clause-around
returns-in-Ok-clause-around g c = let path = c.args.path.now in
    around_if path c.keep.result _ _ _ (created_around path c.in-Ok.ensures.called)
    c.keep.ensures.part.calls

pub returns-in-Ok-clause-kept : goal.returns-in-Ok-clause-kept
returns-in-Ok-clause-kept g c =
    kept_if c.args.path.now c.keep.result _ _ _ c.in-Ok.ensures.called c.keep.ensures.part.calls
    c.keep.ensures.kept

pub returns-in-Err-clause-part : goal.returns-in-Err-clause-part
returns-in-Err-clause-part g c = let path = c.args.path.now in
    part_refused Nowhere (IsAt path) (NeedsEither (IsCreate path) NeedsKept) (λ tree. tt {0})
    c.in-Err.why c.from.result refl (inl refl) c.from.ensures c.in-Err.ensures
