use Rattle.std.proofs.Common.{◌∙◌, List, Ok, refl, ap}
use Rattle.disk_model.specs.Judge.{list_of}
use Rattle.disk_model.specs.Names.{names_in}
use Rattle.disk_model.specs.Tree.{TreeNode}
use Rattle.disk_model.proofs.TextNames.{text_names, utf8_names}
use Rattle.disk_model.proofs.Looking.{called_looks}
use Rattle.disk_state.specs.Plain.{plain_names, plain_state}
use Rattle.memory_disk.specs.contracts.disk.MemoryDisk.{the_view}
use Rattle.memory_disk.proofs.Oks.{ok_names}
use Rattle.memory_disk.proofs.Sounds.{sound_text}
use Rattle.memory_disk.proofs.Turns.{err_step, refused_plays, tree_met, turns, value_step}
use Rattle.memory_disk.proofs.Turns.{waits_plays}
use Rattle.memory_disk.proofs.disk.MemoryDiskDisk.list.Goals as goal

pub returns-in-Ok-Some-clause-step : goal.returns-in-Ok-Some-clause-step
returns-in-Ok-Some-clause-step c =
    err_step (λ tree. list_of tree c.args.dir.now) (λ tree. names_in tree c.args.dir.now)
    (turns c.in-Ok.ensures.ok c.in-Ok-Some.ensures.ok) c.in-Ok-Some.field-0-is
    (record { is = λ tree. refl })

pub returns-in-Ok-Some-clause-looks : goal.returns-in-Ok-Some-clause-looks
returns-in-Ok-Some-clause-looks c = called_looks refl (returns-in-Ok-Some-clause-step c).called

pub returns-in-Ok-Some-clause-plays : goal.returns-in-Ok-Some-clause-plays
returns-in-Ok-Some-clause-plays c =
    refused_plays (turns c.in-Ok.ensures.ok c.in-Ok-Some.ensures.ok) c.in-Ok-Some.field-0-is

pub returns-in-Err-clause-plays : goal.returns-in-Err-clause-plays
returns-in-Err-clause-plays c = waits_plays c.in-Ok.ensures.ok c.in-Err.ensures.err

pub returns-in-Ok-None-clause-step : goal.returns-in-Ok-None-clause-step
returns-in-Ok-None-clause-step c =
    value_step (Ok (plain_names c.in-Ok-names_in.names.items)) (λ tree. list_of tree c.args.dir.now)
    (λ tree. names_in tree c.args.dir.now) 0 (turns c.in-Ok.ensures.ok c.in-Ok-None.ensures.ok)
    c.in-Ok-None.field-0-is (record { is = λ tree. refl })
    (ok_names _ _ (c.in-Ok-names_in.ensures
    ∙ ap (λ (tree : List TreeNode). names_in tree c.args.dir.now)
    (tree_met (plain_state c.self.inside.state) (the_view c.self.inside) c.face.new.self
    c.args.self.now
    c.self.invariant.now c.self.view_is c.in-Ok.ensures.ok.met)))
    refl

pub returns-in_default-names_in-clause-plays : goal.returns-in_default-names_in-clause-plays
returns-in_default-names_in-clause-plays c = waits_plays c.in-Ok.ensures.ok refl

pub returns-in-Ok-None-clause-looks : goal.returns-in-Ok-None-clause-looks
returns-in-Ok-None-clause-looks c = called_looks refl (returns-in-Ok-None-clause-step c).called

pub returns-in-Ok-None-clause-text : goal.returns-in-Ok-None-clause-text
returns-in-Ok-None-clause-text c =
    text_names c.in-Ok-names_in.names.items _ c.in-Ok-names_in.ensures
    (utf8_names (plain_state c.self.inside.state) c.args.dir.now (sound_text c.self.invariant))
