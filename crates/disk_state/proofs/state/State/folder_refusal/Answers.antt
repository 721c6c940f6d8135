use Rattle.std.proofs.Common.{◌∙◌, ap, sym, ℕ, Option, Some}
use Rattle.disk_model.specs.Refusals.{folder_refusal}
use Rattle.disk_model.proofs.Trees.{file_at_path, folder_at, nothing_at}
use Rattle.disk_state.specs.Plain.{plain_state}
use Rattle.disk_state.proofs.state.State.folder_refusal.Goals as goal

pub returns-in-None : goal.returns-in-None
returns-in-None c =
    sym (ap folder_refusal
    (nothing_at (plain_state c.args.self.now) c.args.path.now c.name_at.result c.name_at.ensures
    c.in-None.is))

pub returns-in-Some-None : goal.returns-in-Some-None
returns-in-Some-None c =
    sym (ap folder_refusal
    (folder_at (plain_state c.args.self.now) c.args.path.now c.name_at.result c.name_at.ensures
    (c.in-Some-None.is ∙ ap (λ (f : Option ℕ). Some f) c.in-Some-None.field-0-is)))

pub returns-in-Some-Some : goal.returns-in-Some-Some
returns-in-Some-Some c =
    sym (ap folder_refusal
    (file_at_path (plain_state c.args.self.now) c.args.path.now c.name_at.result
    c.in-Some-Some.field-0-0 c.name_at.ensures
    (c.in-Some-Some.is ∙ ap (λ (f : Option ℕ). Some f) c.in-Some-Some.field-0-is)))
