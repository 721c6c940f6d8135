use Rattle.std.proofs.Common.{Ok, Err}
use Rattle.disk_model.specs.Names.{names_in}
use Rattle.folder_drivers.specs.MetNames.{plain_names}
use Rattle.folder_makes.specs.Parts.{IsAt, Nowhere}
use Rattle.folder_makes.proofs.Looking.{names_met, none_met}
use Rattle.folder_makes.proofs.Parting.{look_then, part_met, part_refused}
use Rattle.folder_drivers.specs.Refusing.{IsAny}
use Rattle.folder_makes.proofs.beginning.look_or_make.Goals as goal

pub returns-in-Ok-clause-part : goal.returns-in-Ok-clause-part
returns-in-Ok-clause-part g c =
    part_met (IsAt c.args.path.now) Nowhere IsAny c.in-Ok.names (Ok (plain_names c.in-Ok.names)) tt
    c.in-Ok.ensures.0

pub returns-in-Ok-clause-met : goal.returns-in-Ok-clause-met
returns-in-Ok-clause-met g c =
    names_met c.args.path.now (plain_names c.in-Ok.names) c.in-Ok.ensures.0.called

pub returns-in-Err-Missing-clause-part : goal.returns-in-Err-Missing-clause-part
returns-in-Err-Missing-clause-part g c =
    look_then c.args.path.now c.make_empty.result
    (part_met Nowhere Nowhere IsAny (tt {0}) (Err c.in-Err-Missing.field-0) tt
    c.in-Err-Missing.ensures.0) c.make_empty.ensures.part

pub returns-in-Err-Missing-clause-met : goal.returns-in-Err-Missing-clause-met
returns-in-Err-Missing-clause-met g c =
    none_met c.make_empty.result c.args.path.now c.in-Err-Missing.field-0 _ _ _
    c.in-Err-Missing.field-0-is c.in-Err-Missing.ensures.0.called c.make_empty.ensures.none
    c.make_empty.ensures.around

pub returns-in-Err : goal.returns-in-Err
returns-in-Err g c = record {
  part = part_refused (IsAt c.args.path.now) Nowhere IsAny
      (λ tree. names_in tree c.args.path.now) c.in-Err.why c.from.result tt tt c.from.ensures
      c.in-Err.ensures.0;
  met = tt;
}
