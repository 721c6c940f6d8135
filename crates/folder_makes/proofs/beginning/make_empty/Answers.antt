use Rattle.std.proofs.Common.{Ok, refl}
use Rattle.folder_makes.specs.Parts.{IsAt, Nowhere}
use Rattle.folder_makes.proofs.Looking.{around_found}
use Rattle.folder_makes.proofs.Parting.{part_met, part_refused}
use Rattle.folder_drivers.specs.Refusing.{IsMake}
use Rattle.folder_makes.proofs.beginning.make_empty.Goals as goal

pub returns-in-Ok-clause-part : goal.returns-in-Ok-clause-part
returns-in-Ok-clause-part g c =
    part_met (IsAt c.args.path.now) Nowhere (IsMake c.args.path.now) c.new.result (Ok tt) refl
    c.in-Ok.ensures

pub returns-in-Ok-clause-around : goal.returns-in-Ok-clause-around
returns-in-Ok-clause-around g c = around_found c.args.path.now c.in-Ok.ensures.called

pub returns-in-Err-clause-part : goal.returns-in-Err-clause-part
returns-in-Err-clause-part g c =
    part_refused (IsAt c.args.path.now) Nowhere (IsMake c.args.path.now) (λ tree. tt {0})
    c.in-Err.why c.from.result refl refl c.from.ensures c.in-Err.ensures
