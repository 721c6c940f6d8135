use Rattle.std.proofs.Common.{◌∙◌, ap, sym, ℕ, Option, Some, Result, Ok}
use Rattle.disk_model.specs.State.{name_at}
use Rattle.disk_model.specs.Judge.{stat_at}
use Rattle.disk_model.proofs.Trees.{file_at_path, folder_at, nothing_at}
use Rattle.disk_state.specs.Plain.{plain_state}
use Rattle.disk_model.specs.declared.answers.Stat.{Stat}
use Rattle.disk_model.specs.declared.answers.DiskError.{DiskError}
use Rattle.disk_state.proofs.state.State.stat.Goals as goal

abbrev ok_stat : Stat → Result Stat DiskError
ok_stat stat = Ok stat

pub returns-in-None-clause-stat : goal.returns-in-None-clause-stat
returns-in-None-clause-stat c =
    sym (ap stat_at
    (nothing_at (plain_state c.args.self.now) c.args.path.now c.name_at.result
    (c.name_at.ensures ∙ ap (name_at (plain_state c.args.self.now).names) c.as_bytes.ensures.value)
    c.in-None.is))

pub returns-in-Some-None-clause-stat : goal.returns-in-Some-None-clause-stat
returns-in-Some-None-clause-stat c =
    sym (ap stat_at
    (folder_at (plain_state c.args.self.now) c.args.path.now c.name_at.result
    (c.name_at.ensures ∙ ap (name_at (plain_state c.args.self.now).names) c.as_bytes.ensures.value)
    (c.in-Some-None.is ∙ ap (λ (f : Option ℕ). Some f) c.in-Some-None.field-0-is)))

pub returns-in-Some-Some-clause-stat : goal.returns-in-Some-Some-clause-stat
returns-in-Some-Some-clause-stat c =
    ap (λ (s : Stat). ok_stat s) c.stat_of.ensures.stat
    ∙ sym (ap stat_at
    (file_at_path (plain_state c.args.self.now) c.args.path.now c.name_at.result
    c.in-Some-Some.number
    (c.name_at.ensures ∙ ap (name_at (plain_state c.args.self.now).names) c.as_bytes.ensures.value)
    (c.in-Some-Some.is ∙ ap (λ (f : Option ℕ). Some f) c.in-Some-Some.field-0-is)))
