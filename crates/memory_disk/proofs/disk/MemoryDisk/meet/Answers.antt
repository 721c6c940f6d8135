use Rattle.memory_disk.specs.Plain.{plain_scene}
use Rattle.memory_disk.specs.contracts.disk.MemoryDisk.{the_view}
use Rattle.memory_disk.proofs.Sounds.{all_met, sound_acts}
use Rattle.memory_disk.proofs.disk.MemoryDisk.meet.Goals as goal

pub invariant_of-self : goal.invariant_of-self
invariant_of-self c =
    sound_acts _ _ _ c.args.call
    (plain_scene c.self.inside.state c.self.inside.waiting c.self.inside.plan)
    (plain_scene c.act.new.state c.act.new.waiting c.act.new.plan) c.self.invariant
    c.act.ensures.acts

pub returns-clause-ok : goal.returns-clause-ok
returns-clause-ok c =
    all_met c.act.result c.args.call
    (plain_scene c.self.inside.state c.self.inside.waiting c.self.inside.plan)
    (plain_scene c.act.new.state c.act.new.waiting c.act.new.plan) (the_view c.self.inside)
    c.args.self.now c.self.view_is c.act.ensures.acts
    c.act.ensures.all
