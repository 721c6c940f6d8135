use Rattle.std.proofs.Common.{◌≡◌, ◌∙◌, ℕ, List, Result, Ok, refl, ap}
use Rattle.disk_model.specs.declared.answers.Stat.{Stat}
use Rattle.disk_model.specs.declared.answers.DiskError.{DiskError}
use Rattle.disk_model.specs.Journal.{ReadAll}
use Rattle.disk_model.specs.Judge.{plain_read, read_length, read_of}
use Rattle.disk_model.specs.Tree.{TreeNode, node_at}
use Rattle.disk_model.proofs.Answering.{length-read_value, read_answers, read_value}
use Rattle.disk_model.proofs.Looking.{called_looks}
use Rattle.disk_state.specs.Plain.{plain_state}
use Rattle.memory_disk.specs.Remembered.{tree_now}
use Rattle.memory_disk.specs.contracts.disk.MemoryDisk.{the_view}
use Rattle.memory_disk.proofs.Oks.{read_length_by}
use Rattle.memory_disk.proofs.Turns.{Answers, err_step, granted, met_by, refused_plays, tree_met}
use Rattle.memory_disk.proofs.Turns.{turns, value_step, waits_plays}
use Rattle.memory_disk.proofs.disk.MemoryDiskDisk.read_all.Goals as goal

-- what is asked for, and what is given
abbrev wanted : List ℕ → ℕ → List TreeNode → Result (Stat × List ℕ) DiskError
wanted path limit tree = read_of tree path limit

abbrev value : List ℕ → List TreeNode → Stat × List ℕ
value path tree = read_value (node_at tree path)

answers : (path : List ℕ) (limit : ℕ)
    → Answers (ReadAll path limit) (wanted path limit) (value path)
answers path limit = record { is = λ tree. read_answers tree path limit }

pub returns-in-Ok-Some-clause-step : goal.returns-in-Ok-Some-clause-step
returns-in-Ok-Some-clause-step c =
    err_step (wanted c.args.path.now c.args.limit) (value c.args.path.now)
    (turns c.in-Ok.ensures.ok c.in-Ok-Some.ensures.ok) c.in-Ok-Some.field-0-is
    (answers c.args.path.now c.args.limit)

pub returns-in-Ok-Some-clause-looks : goal.returns-in-Ok-Some-clause-looks
returns-in-Ok-Some-clause-looks c = called_looks refl (returns-in-Ok-Some-clause-step c).called

pub returns-in-Ok-Some-clause-plays : goal.returns-in-Ok-Some-clause-plays
returns-in-Ok-Some-clause-plays c =
    refused_plays (turns c.in-Ok.ensures.ok c.in-Ok-Some.ensures.ok) c.in-Ok-Some.field-0-is

pub returns-in-Err-clause-plays : goal.returns-in-Err-clause-plays
returns-in-Err-clause-plays c = waits_plays c.in-Ok.ensures.ok c.in-Err.ensures.err

pub returns-in-Ok-None-clause-step : goal.returns-in-Ok-None-clause-step
returns-in-Ok-None-clause-step c =
    let t = turns c.in-Ok.ensures.ok c.in-Ok-None.ensures.ok in
    let same : plain_read c.in-Ok-read.answer
    ≡ Ok (value c.args.path.now (tree_now (met_by c.args.self.now))) =
    c.in-Ok-read.ensures.read
    ∙ ap (λ (tree : List TreeNode). read_of tree c.args.path.now c.args.limit)
    (tree_met (plain_state c.self.inside.state) (the_view c.self.inside) c.face.new.self
    c.args.self.now
    c.self.invariant.now c.self.view_is c.in-Ok.ensures.ok.met)
    ∙ granted (wanted c.args.path.now c.args.limit) (value c.args.path.now) t
    c.in-Ok-None.field-0-is
    (answers c.args.path.now c.args.limit) in
    value_step (plain_read c.in-Ok-read.answer) (wanted c.args.path.now c.args.limit)
    (value c.args.path.now)
    (read_length c.in-Ok-read.answer) t c.in-Ok-None.field-0-is
    (answers c.args.path.now c.args.limit) same
    (read_length_by c.in-Ok-read.answer _ same
    ∙ length-read_value (node_at (tree_now (met_by c.args.self.now)) c.args.path.now))

pub returns-in_default-read-clause-plays : goal.returns-in_default-read-clause-plays
returns-in_default-read-clause-plays c = waits_plays c.in-Ok.ensures.ok refl

pub returns-in-Ok-None-clause-looks : goal.returns-in-Ok-None-clause-looks
returns-in-Ok-None-clause-looks c = called_looks refl (returns-in-Ok-None-clause-step c).called
