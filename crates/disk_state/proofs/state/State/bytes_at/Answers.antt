use Rattle.std.proofs.Common.{◌∙◌, ap, sym, ℕ, Option, Some}
use Rattle.disk_model.specs.State.{name_at}
use Rattle.disk_model.specs.Judge.{node_bytes}
use Rattle.disk_model.proofs.Trees.{file_at_path, folder_at, nothing_at}
use Rattle.disk_state.specs.Plain.{plain_state}
use Rattle.disk_state.proofs.state.State.bytes_at.Goals as goal

pub returns-in-None : goal.returns-in-None
returns-in-None c =
    sym (ap node_bytes
    (nothing_at (plain_state c.args.self.now) c.args.path.now c.name_at.result
    (c.name_at.ensures ∙ ap (name_at (plain_state c.args.self.now).names) c.as_bytes.ensures.value)
    c.in-None.is))

pub returns-in-Some-None : goal.returns-in-Some-None
returns-in-Some-None c =
    sym (ap node_bytes
    (folder_at (plain_state c.args.self.now) c.args.path.now c.name_at.result
    (c.name_at.ensures ∙ ap (name_at (plain_state c.args.self.now).names) c.as_bytes.ensures.value)
    (c.in-Some-None.is ∙ ap (λ (f : Option ℕ). Some f) c.in-Some-None.field-0-is)))

pub returns-in-Some-Some : goal.returns-in-Some-Some
returns-in-Some-Some c =
    c.bytes_of.ensures
    ∙ sym (ap node_bytes
    (file_at_path (plain_state c.args.self.now) c.args.path.now c.name_at.result
    c.in-Some-Some.number
    (c.name_at.ensures ∙ ap (name_at (plain_state c.args.self.now).names) c.as_bytes.ensures.value)
    (c.in-Some-Some.is ∙ ap (λ (f : Option ℕ). Some f) c.in-Some-Some.field-0-is)))
