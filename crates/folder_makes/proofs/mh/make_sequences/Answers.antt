use Rattle.std.proofs.Common.{Ok, Err, ap, ◌∙◌}
use Rattle.disk_model.specs.Journal.{Create}
use Rattle.folder_core.specs.Mh.{sequences_path}
use Rattle.folder_makes.specs.Parts.{IsAt, IsCreate, Nowhere}
use Rattle.folder_makes.proofs.MhMade.{created_node, exists_node}
use Rattle.folder_makes.proofs.Parting.{part_met, part_refused}
use Rattle.folder_makes.proofs.mh.make_sequences.Goals as goal

pub returns-in-Ok-create-clause-part : goal.returns-in-Ok-create-clause-part
returns-in-Ok-create-clause-part g c = let at = sequences_path c.args.path.now in
    part_met Nowhere (IsAt at) (IsCreate at) tt (Ok tt) (c.as_str.ensures.value ∙ c.in-Ok.ensures)
    c.in-Ok-create.ensures

pub returns-in-Ok-create-clause-there : goal.returns-in-Ok-create-clause-there
returns-in-Ok-create-clause-there g c =
    created_node (sequences_path c.args.path.now) c.as_str.result.now
    (c.as_str.ensures.value ∙ c.in-Ok.ensures) c.in-Ok-create.ensures.called

pub returns-in-Err-Exists-clause-part : goal.returns-in-Err-Exists-clause-part
returns-in-Err-Exists-clause-part g c = let at = sequences_path c.args.path.now in
    part_met Nowhere (IsAt at) (IsCreate at) tt (Err c.in-Err-Exists.field-0)
    (c.as_str.ensures.value ∙ c.in-Ok.ensures) c.in-Err-Exists.ensures

pub returns-in-Err-Exists-clause-there : goal.returns-in-Err-Exists-clause-there
returns-in-Err-Exists-clause-there g c =
    exists_node (sequences_path c.args.path.now) c.as_str.result.now c.in-Err-Exists.field-0
    (c.as_str.ensures.value ∙ c.in-Ok.ensures) c.in-Err-Exists.field-0-is
    c.in-Err-Exists.ensures.called

pub returns : goal.returns
returns g c = let at = sequences_path c.args.path.now in record {
  part = part_refused Nowhere (IsAt at) (IsCreate at) (λ tree. tt {0}) c.in-Err-create.why
      c.from.result (c.as_str.ensures.value ∙ c.in-Ok.ensures)
      (ap Create (c.as_str.ensures.value ∙ c.in-Ok.ensures)) c.from.ensures
      c.in-Err-create.ensures;
  there = tt;
}
