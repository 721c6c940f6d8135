use Rattle.std.proofs.Common.{ap, sym}
use Rattle.disk_model.specs.Refusals.{missing_refusal}
use Rattle.disk_model.proofs.Trees.{nothing_at, something_at}
use Rattle.disk_state.specs.Plain.{plain_state}
use Rattle.disk_state.proofs.state.State.missing_refusal.Goals as goal

pub returns-in-None : goal.returns-in-None
returns-in-None c =
    sym (ap missing_refusal
    (nothing_at (plain_state c.args.self.now) c.args.path.now c.name_at.result c.name_at.ensures
    c.in-None.is))

pub returns-in-Some : goal.returns-in-Some
returns-in-Some c =
    sym (ap missing_refusal
    (something_at (plain_state c.args.self.now) c.args.path.now c.name_at.result c.in-Some.field-0
    c.name_at.ensures c.in-Some.is))
