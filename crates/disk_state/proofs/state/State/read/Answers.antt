use Rattle.std.proofs.Common.{◌≡◌, ◌∙◌, ap, sym, subst, ℕ, List, Option, Some, Result, IfOk}
use Rattle.disk_model.specs.State.{name_at}
use Rattle.disk_model.specs.Judge.{plain_read, read_at}
use Rattle.disk_model.proofs.Trees.{file_at_path, folder_at, nothing_at}
use Rattle.disk_state.specs.Plain.{plain_state}
use Rattle.disk_model.specs.Tree.{TreeNode}
use Rattle.disk_model.specs.declared.answers.Stat.{Stat}
use Rattle.disk_model.specs.declared.answers.FileRead.{FileRead}
use Rattle.disk_model.specs.declared.answers.DiskError.{DiskError}
use Rattle.disk_state.proofs.state.State.read.Goals as goal

pub returns-in-None-clause-read : goal.returns-in-None-clause-read
returns-in-None-clause-read c =
    sym (ap (λ (n : Option TreeNode). read_at n c.args.limit)
    (nothing_at (plain_state c.args.self.now) c.args.path.now c.name_at.result
    (c.name_at.ensures ∙ ap (name_at (plain_state c.args.self.now).names) c.as_bytes.ensures.value)
    c.in-None.is))

pub returns-in-Some-None-clause-read : goal.returns-in-Some-None-clause-read
returns-in-Some-None-clause-read c =
    sym (ap (λ (n : Option TreeNode). read_at n c.args.limit)
    (folder_at (plain_state c.args.self.now) c.args.path.now c.name_at.result
    (c.name_at.ensures ∙ ap (name_at (plain_state c.args.self.now).names) c.as_bytes.ensures.value)
    (c.in-Some-None.is ∙ ap (λ (f : Option ℕ). Some f) c.in-Some-None.field-0-is)))

pub returns-in-Some-Some-clause-read : goal.returns-in-Some-Some-clause-read
returns-in-Some-Some-clause-read c =
    subst (λ (wanted : Result (Stat × List ℕ) DiskError).
    IfOk c.read_file.result (λ (read : Result FileRead DiskError). plain_read read ≡ wanted))
    (sym (ap (λ (n : Option TreeNode). read_at n c.args.limit)
    (file_at_path (plain_state c.args.self.now) c.args.path.now c.name_at.result
    c.in-Some-Some.number
    (c.name_at.ensures ∙ ap (name_at (plain_state c.args.self.now).names) c.as_bytes.ensures.value)
    (c.in-Some-Some.is ∙ ap (λ (f : Option ℕ). Some f) c.in-Some-Some.field-0-is))))
    c.read_file.ensures.read
