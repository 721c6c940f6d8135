use Rattle.std.proofs.Common.{◌+◌, ◌∙◌, List, ap, arith}
use Rattle.disk_model.specs.State.{File}
use Rattle.disk_state.specs.Plain.{plain_change, plain_state}
use Rattle.disk_state.specs.declared.state.State.{State as Kept}
use Rattle.disk_state.proofs.Files.{files_changed, files_missing, files_same, OnErr-all}
use Rattle.disk_state.proofs.state.State.change_file.Goals as goal
use Rattle.disk_state.proofs.state.State.change_file.Goals.{then-number-len+in_ok-change}
use Rattle.disk_state.proofs.state.State.change_file.Goals.{else-number-len}

pub returns-in_err-change-clause-err : goal.returns-in_err-change-clause-err
returns-in_err-change-clause-err c =
    OnErr-all c.from_residual.result _
    (ap (λ (files : List File). record (plain_state c.args.self.now) { files = files })
    (files_same c.args.self.now.files.items c.args.number c.index_mut.result.now c.change.new.self
    c.index_mut.ensures.value c.in_err-change.ensures.err))

pub returns-clause-ok : goal.returns-clause-ok
returns-clause-ok c =
    elim c.if-number-len.branch [
      | then-number-len+in_ok-change w ↦
          ap (λ (s : Kept). record (plain_state s) { clock = c.args.self.now.clock + 1 }) w.self-is
          ∙ ap (λ (files : List File).
          record (plain_state c.args.self.now) { files = files; clock = c.args.self.now.clock + 1 })
          (files_changed c.args.self.now.files.items c.args.number w.index_mut.result.now
          w.change.new.self
          (plain_change c.args.change c.args.self.now.clock) (omega arith) w.index_mut.ensures.value
          w.in_ok-change.ensures.ok)
      | else-number-len w ↦
          ap (λ (s : Kept). record (plain_state s) { clock = c.args.self.now.clock + 1 }) w.self-is
          ∙ ap (λ (files : List File).
          record (plain_state c.args.self.now) { files = files; clock = c.args.self.now.clock + 1 })
          (files_missing c.args.self.now.files.items c.args.number _ (omega arith))
    ]
