use Rattle.std.proofs.Common.{ap, false, is_some, map, refl, true}
use Rattle.disk_model.specs.Tree.{node_at}
use Rattle.disk_model.specs.declared.answers.DiskError.TheVariants.{Missing, WrongNode}
use Rattle.folder_core.proofs.FirstLookLemmas.{file_stands, folder_stands, found_err, found_fault}
use Rattle.folder_core.proofs.FirstLookLemmas.{found_ok}
use Rattle.folder_core.proofs.LookedLemmas.{list_missing, list_tells, list_wrong, looked_err}
use Rattle.folder_core.proofs.LookedLemmas.{looked_ok}
use Rattle.folder_core.proofs.looks.contents_of.Goals as goal

pub returns-in-Ok-clause-looked : goal.returns-in-Ok-clause-looked
returns-in-Ok-clause-looked g c =
    looked_ok _ (map (λ name. name.items) c.in-Ok.names.items) c.in-Ok.ensures.0
    c.list.ensures.1.0
    (λ tree is. list_tells tree c.args.dir.now (map (λ name. name.items) c.in-Ok.names.items) is)

pub returns-in-Err-Missing-clause-looked : goal.returns-in-Err-Missing-clause-looked
returns-in-Err-Missing-clause-looked g c =
    looked_err _ c.in-Err-Missing.field-0 Missing c.in-Err-Missing.field-0-is refl
    c.in-Err-Missing.ensures.0 c.list.ensures.1.0 (λ tree is. list_missing tree c.args.dir.now is)

pub returns-in-Err-WrongNode-clause-looked : goal.returns-in-Err-WrongNode-clause-looked
returns-in-Err-WrongNode-clause-looked g c =
    looked_err _ c.in-Err-WrongNode.field-0 WrongNode c.in-Err-WrongNode.field-0-is refl
    c.in-Err-WrongNode.ensures.0 c.list.ensures.1.0 (λ tree is. list_wrong tree c.args.dir.now is)

pub returns-in-Ok-clause-first : goal.returns-in-Ok-clause-first
returns-in-Ok-clause-first g c =
    found_ok c.args.dir.now true (map (λ name. name.items) c.in-Ok.names.items) c.in-Ok.ensures.0
    (λ tree is. folder_stands (node_at tree c.args.dir.now)
    (list_tells tree c.args.dir.now (map (λ name. name.items) c.in-Ok.names.items) is).0)

pub returns-in-Err-Missing-clause-first : goal.returns-in-Err-Missing-clause-first
returns-in-Err-Missing-clause-first g c =
    found_err c.args.dir.now false c.in-Err-Missing.field-0 Missing c.in-Err-Missing.field-0-is
    (λ e. (cc)) (λ e. (cc)) c.in-Err-Missing.ensures.0
    (λ tree is. ap is_some (list_missing tree c.args.dir.now is))

pub returns-in-Err-WrongNode-clause-first : goal.returns-in-Err-WrongNode-clause-first
returns-in-Err-WrongNode-clause-first g c =
    found_err c.args.dir.now true c.in-Err-WrongNode.field-0 WrongNode c.in-Err-WrongNode.field-0-is
    (λ e. (cc)) (λ e. (cc)) c.in-Err-WrongNode.ensures.0
    (λ tree is. file_stands (node_at tree c.args.dir.now) (list_wrong tree c.args.dir.now is))

pub returns-in-Err-Fault-clause-first : goal.returns-in-Err-Fault-clause-first
returns-in-Err-Fault-clause-first g c =
    found_fault c.args.dir.now c.in-Err-Fault.field-0 c.in-Err-Fault.field-0-is
    c.in-Err-Fault.ensures.0
