use Rattle.std.proofs.Common.{ap, map, subst, sym}
use Rattle.disk_model.specs.Lawful.{IsAllowed}
use Rattle.disk_model.specs.State.{State, tree_of}
use Rattle.disk_state.specs.Plain.{plain_action, plain_call}
use Rattle.disk_state.specs.Plain.{answer_by_refusal}
use Rattle.memory_disk.specs.Remembered.{Remembered, tree_now}
use Rattle.memory_disk.proofs.Sounds.{sound_enters}
use Rattle.memory_disk.proofs.disk.MemoryDisk.enter.Goals as goal

pub invariant_of-self-2 : goal.invariant_of-self-2
invariant_of-self-2 c =
    sound_enters (plain_call c.args.call) c.args.refused c.self.invariant c.requires.text
    (subst (λ (s : State). IsAllowed (plain_call c.args.call) (answer_by_refusal c.args.refused)
    (tree_of s))
    (sym c.self.invariant.now)
    (subst (λ (d : Remembered). IsAllowed (plain_call c.args.call)
    (answer_by_refusal c.args.refused) (tree_now d))
    (sym c.self.view_is) c.requires.allowed))
    c.in_ok-enter.ensures.state c.in_ok-enter.ensures.journal
    (ap (map plain_action) c.in_ok-enter.ensures.waiting)
