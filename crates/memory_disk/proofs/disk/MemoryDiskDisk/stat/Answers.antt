use Rattle.std.proofs.Common.{◌∙◌, ℕ, List, Result, refl, ap}
use Rattle.disk_model.specs.declared.answers.Stat.{Stat}
use Rattle.disk_model.specs.declared.answers.DiskError.{DiskError}
use Rattle.disk_model.specs.Journal.{StatPath}
use Rattle.disk_model.specs.Judge.{stat_of}
use Rattle.disk_model.specs.Tree.{TreeNode, node_at}
use Rattle.disk_model.proofs.Answering.{stat_answers, stat_value}
use Rattle.disk_model.proofs.Looking.{called_looks}
use Rattle.disk_state.specs.Plain.{plain_state}
use Rattle.memory_disk.specs.contracts.disk.MemoryDisk.{the_view}
use Rattle.memory_disk.proofs.Turns.{Answers, err_step, granted, refused_plays, tree_met, turns}
use Rattle.memory_disk.proofs.Turns.{value_step, waits_plays}
use Rattle.memory_disk.proofs.disk.MemoryDiskDisk.stat.Goals as goal

-- what is asked for, and what is given
abbrev wanted : List ℕ → List TreeNode → Result Stat DiskError
wanted path tree = stat_of tree path

abbrev value : List ℕ → List TreeNode → Stat
value path tree = stat_value (node_at tree path)

answers : (path : List ℕ) → Answers (StatPath path) (wanted path) (value path)
answers path = record { is = λ tree. stat_answers tree path }

pub returns-in-Ok-Some-clause-step : goal.returns-in-Ok-Some-clause-step
returns-in-Ok-Some-clause-step c =
    err_step (wanted c.args.path.now) (value c.args.path.now)
    (turns c.in-Ok.ensures.ok c.in-Ok-Some.ensures.ok)
    c.in-Ok-Some.field-0-is (answers c.args.path.now)

pub returns-in-Ok-Some-clause-looks : goal.returns-in-Ok-Some-clause-looks
returns-in-Ok-Some-clause-looks c = called_looks refl (returns-in-Ok-Some-clause-step c).called

pub returns-in-Ok-Some-clause-plays : goal.returns-in-Ok-Some-clause-plays
returns-in-Ok-Some-clause-plays c =
    refused_plays (turns c.in-Ok.ensures.ok c.in-Ok-Some.ensures.ok) c.in-Ok-Some.field-0-is

pub returns-in-Err-clause-plays : goal.returns-in-Err-clause-plays
returns-in-Err-clause-plays c = waits_plays c.in-Ok.ensures.ok c.in-Err.ensures.err

pub returns-in-Ok-None-clause-step : goal.returns-in-Ok-None-clause-step
returns-in-Ok-None-clause-step c =
    let t = turns c.in-Ok.ensures.ok c.in-Ok-None.ensures.ok in
    value_step c.stat-answer.result (wanted c.args.path.now) (value c.args.path.now) 0 t
    c.in-Ok-None.field-0-is
    (answers c.args.path.now)
    (c.stat-answer.ensures.stat
    ∙ ap (λ (tree : List TreeNode). stat_of tree c.args.path.now)
    (tree_met (plain_state c.self.inside.state) (the_view c.self.inside) c.face.new.self
    c.args.self.now
    c.self.invariant.now c.self.view_is c.in-Ok.ensures.ok.met)
    ∙ granted (wanted c.args.path.now) (value c.args.path.now) t c.in-Ok-None.field-0-is
    (answers c.args.path.now))
    refl

pub returns-in-Ok-None-clause-looks : goal.returns-in-Ok-None-clause-looks
returns-in-Ok-None-clause-looks c = called_looks refl (returns-in-Ok-None-clause-step c).called
