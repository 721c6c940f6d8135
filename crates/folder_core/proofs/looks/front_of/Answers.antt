use Rattle.std.proofs.Common.{ap, false, is_some, refl, sym, take, true, ◌∙◌}
use Rattle.disk_model.specs.Tree.{node_at}
use Rattle.disk_model.specs.declared.answers.DiskError.TheVariants.{Missing, WrongNode}
use Rattle.folder_core.proofs.FirstLookLemmas.{bytes_stand, folder_stands, found_err, found_fault}
use Rattle.folder_core.proofs.FirstLookLemmas.{found_ok, found_there}
use Rattle.folder_core.proofs.LookedLemmas.{front_missing, front_tells, front_wrong, looked_err}
use Rattle.folder_core.proofs.LookedLemmas.{looked_ok}
use Rattle.folder_core.proofs.looks.front_of.Goals as goal

pub returns-in-Ok-copy_of-clause-looked : goal.returns-in-Ok-copy_of-clause-looked
returns-in-Ok-copy_of-clause-looked g c =
    looked_ok _ (take c.in-Ok.count c.read_front.new.into)
    c.in-Ok.ensures.0
    c.read_front.ensures.1.0
    (λ tree is. let told =
    front_tells tree c.args.path.now (take c.in-Ok.count c.read_front.new.into) 5 refl is in
    (told.0, told.1, told.2 ∙ sym c.in-Ok-copy_of.ensures))

pub returns-in-Err-Missing-clause-looked : goal.returns-in-Err-Missing-clause-looked
returns-in-Err-Missing-clause-looked g c =
    looked_err _ c.in-Err-Missing.field-0 Missing c.in-Err-Missing.field-0-is refl
    c.in-Err-Missing.ensures.0 c.read_front.ensures.1.0
    (λ tree is. front_missing tree c.args.path.now 5 is)

pub returns-in-Err-WrongNode-clause-looked : goal.returns-in-Err-WrongNode-clause-looked
returns-in-Err-WrongNode-clause-looked g c =
    looked_err _ c.in-Err-WrongNode.field-0 WrongNode c.in-Err-WrongNode.field-0-is refl
    c.in-Err-WrongNode.ensures.0 c.read_front.ensures.1.0
    (λ tree is. front_wrong tree c.args.path.now 5 is)

pub returns-in-Ok-copy_of-clause-first : goal.returns-in-Ok-copy_of-clause-first
returns-in-Ok-copy_of-clause-first g c =
    found_ok c.args.path.now true (take c.in-Ok.count c.read_front.new.into) c.in-Ok.ensures.0
    (λ tree is. let told =
    front_tells tree c.args.path.now (take c.in-Ok.count c.read_front.new.into) 5 refl is in
    bytes_stand (node_at tree c.args.path.now) told.0 told.1)

pub returns-in-Err-clause-first : goal.returns-in-Err-clause-first
returns-in-Err-clause-first g c =
    found_there c.args.path.now _ _
    (found_ok c.args.path.now true (take c.in-Ok.count c.read_front.new.into) c.in-Ok.ensures.0
    (λ tree is. let told =
    front_tells tree c.args.path.now (take c.in-Ok.count c.read_front.new.into) 5 refl is in
    bytes_stand (node_at tree c.args.path.now) told.0 told.1))

pub returns-in-Err-Missing-clause-first : goal.returns-in-Err-Missing-clause-first
returns-in-Err-Missing-clause-first g c =
    found_err c.args.path.now false c.in-Err-Missing.field-0 Missing c.in-Err-Missing.field-0-is
    (λ e. (cc)) (λ e. (cc)) c.in-Err-Missing.ensures.0
    (λ tree is. ap is_some (front_missing tree c.args.path.now 5 is))

pub returns-in-Err-WrongNode-clause-first : goal.returns-in-Err-WrongNode-clause-first
returns-in-Err-WrongNode-clause-first g c =
    found_err c.args.path.now true c.in-Err-WrongNode.field-0 WrongNode
    c.in-Err-WrongNode.field-0-is (λ e. (cc)) (λ e. (cc)) c.in-Err-WrongNode.ensures.0
    (λ tree is. folder_stands (node_at tree c.args.path.now)
    (front_wrong tree c.args.path.now 5 is))

pub returns-in-Err-Fault-clause-first : goal.returns-in-Err-Fault-clause-first
returns-in-Err-Fault-clause-first g c =
    found_fault c.args.path.now c.in-Err-Fault.field-0 c.in-Err-Fault.field-0-is
    c.in-Err-Fault.ensures.0
