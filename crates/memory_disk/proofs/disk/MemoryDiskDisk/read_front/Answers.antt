use Rattle.std.proofs.Common.{◌≡◌, ◌∙◌, ℕ, List, Ok, length, min, take, refl, ap}
use Rattle.disk_model.specs.Journal.{ReadFront}
use Rattle.disk_model.specs.Judge.{front_of, node_bytes}
use Rattle.disk_model.specs.Tree.{TreeNode, node_at}
use Rattle.disk_model.proofs.Answering.{length-node_bytes}
use Rattle.disk_model.proofs.Looking.{called_looks}
use Rattle.disk_state.specs.Plain.{plain_state}
use Rattle.memory_disk.specs.Remembered.{tree_now}
use Rattle.memory_disk.specs.contracts.disk.MemoryDisk.{the_view}
use Rattle.memory_disk.proofs.Oks.{ok_front}
use Rattle.memory_disk.proofs.Turns.{err_step, met_by, refused_plays, tree_left, turns, value_step}
use Rattle.memory_disk.proofs.Turns.{waits_plays}
use Rattle.memory_disk.proofs.disk.MemoryDiskDisk.read_front.Goals as goal

-- what is given
abbrev value : List ℕ → ℕ → List TreeNode → List ℕ
value path size tree = take size (node_bytes (node_at tree path))

pub returns-in-Ok-Some-clause-step : goal.returns-in-Ok-Some-clause-step
returns-in-Ok-Some-clause-step c =
    err_step (λ tree. front_of tree c.args.path.now (length c.args.into.now))
    (value c.args.path.now (length c.args.into.now))
    (turns c.in-Ok.ensures.ok c.in-Ok-Some.ensures.ok)
    c.in-Ok-Some.field-0-is (record { is = λ tree. refl })

pub returns-in-Ok-Some-clause-looks : goal.returns-in-Ok-Some-clause-looks
returns-in-Ok-Some-clause-looks c = called_looks refl (returns-in-Ok-Some-clause-step c).called

pub returns-in-Ok-Some-clause-plays : goal.returns-in-Ok-Some-clause-plays
returns-in-Ok-Some-clause-plays c =
    refused_plays (turns c.in-Ok.ensures.ok c.in-Ok-Some.ensures.ok) c.in-Ok-Some.field-0-is

pub returns-in-Err-clause-plays : goal.returns-in-Err-clause-plays
returns-in-Err-clause-plays c = waits_plays c.in-Ok.ensures.ok c.in-Err.ensures.err

pub returns-clause-step : goal.returns-clause-step
returns-clause-step c =
    let t = turns c.in-Ok.ensures.ok c.in-Ok-None.ensures.ok in
    let bytes : c.bytes_at.result.now
    ≡ node_bytes (node_at (tree_now (met_by c.args.self.now)) c.args.path.now) =
    c.bytes_at.ensures
    ∙ ap (λ (tree : List TreeNode). node_bytes (node_at tree c.args.path.now))
    (tree_left (plain_state c.self.inside.state) (the_view c.self.inside)
    (ReadFront c.args.path.now (length c.args.into.now)) c.in-Ok-None.field-0 c.args.self.now
    c.settle.new.self
    c.self.invariant.now c.self.view_is t c.in-Ok-None.field-0-is (λ s. refl)) in
    value_step (Ok (take c.put_front-count.result c.put_front-count.new.into))
    (λ tree. front_of tree c.args.path.now (length c.args.into.now))
    (value c.args.path.now (length c.args.into.now)) c.put_front-count.result t
    c.in-Ok-None.field-0-is (record { is = λ tree. refl })
    (ok_front _ _ (c.put_front-count.ensures.front ∙ ap (take (length c.args.into.now)) bytes))
    (c.put_front-count.ensures.count
    ∙ ap (λ (n : ℕ). min (length c.args.into.now) n)
    (ap length bytes
    ∙ length-node_bytes (node_at (tree_now (met_by c.args.self.now)) c.args.path.now)))

pub returns-clause-looks : goal.returns-clause-looks
returns-clause-looks c = called_looks refl (returns-clause-step c).called
