use Rattle.std.proofs.Common.{Ok, Err, ap, ◌∙◌}
use Rattle.disk_model.specs.Journal.{MakeDir}
use Rattle.folder_core.specs.Directory.{path_in}
use Rattle.folder_makes.specs.Parts.{IsAt, Nowhere}
use Rattle.folder_makes.proofs.Parting.{part_met, part_refused}
use Rattle.folder_drivers.specs.Refusing.{IsMake}
use Rattle.folder_makes.proofs.directories.make_missing.Goals as goal

pub returns-in-Ok-make_dir : goal.returns-in-Ok-make_dir
returns-in-Ok-make_dir g c = let dir = path_in c.args.path.now c.args.name.now in
    part_met (IsAt dir) Nowhere (IsMake dir) tt (Ok tt) (c.as_str.ensures.value ∙ c.in-Ok.ensures)
    c.in-Ok-make_dir.ensures

pub returns-in-Err-Exists : goal.returns-in-Err-Exists
returns-in-Err-Exists g c = let dir = path_in c.args.path.now c.args.name.now in
    part_met (IsAt dir) Nowhere (IsMake dir) tt (Err c.in-Err-Exists.field-0)
    (c.as_str.ensures.value ∙ c.in-Ok.ensures) c.in-Err-Exists.ensures

pub returns : goal.returns
returns g c = let dir = path_in c.args.path.now c.args.name.now in
    part_refused (IsAt dir) Nowhere (IsMake dir) (λ tree. tt {0}) c.in-Err-make_dir.why
    c.from.result (c.as_str.ensures.value ∙ c.in-Ok.ensures)
    (ap MakeDir (c.as_str.ensures.value ∙ c.in-Ok.ensures)) c.from.ensures
    c.in-Err-make_dir.ensures
