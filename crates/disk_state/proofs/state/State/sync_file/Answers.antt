use Rattle.std.proofs.Common.{List, ap, arith}
use Rattle.disk_model.specs.State.{synced, File}
use Rattle.disk_state.specs.Plain.{plain_state}
use Rattle.disk_state.proofs.Files.{files_changed, files_same, OnErr-all}
use Rattle.disk_state.proofs.state.State.sync_file.Goals as goal

pub returns-in_err-sync-clause-err : goal.returns-in_err-sync-clause-err
returns-in_err-sync-clause-err c =
    OnErr-all c.from_residual.result _
    (ap (λ (files : List File). record (plain_state c.args.self.now) { files = files })
    (files_same c.args.self.now.files.items c.args.number c.index_mut.result.now c.sync.new.self
    c.index_mut.ensures.value c.in_err-sync.ensures.err))

pub returns-in_ok-sync-clause-ok : goal.returns-in_ok-sync-clause-ok
returns-in_ok-sync-clause-ok c =
    ap (λ (files : List File). record (plain_state c.args.self.now) { files = files })
    (files_changed c.args.self.now.files.items c.args.number c.index_mut.result.now c.sync.new.self
    synced
    (omega arith) c.index_mut.ensures.value c.in_ok-sync.ensures.ok)
