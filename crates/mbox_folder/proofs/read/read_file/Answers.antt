use Rattle.std.proofs.Common.{Ok, Err, ap, arith, false, inl, inr, is_some, le-ltb, length, refl}
use Rattle.std.proofs.Common.{true}
use Rattle.disk_model.specs.Tree.{node_at}
use Rattle.disk_model.specs.declared.answers.DiskError.TheVariants.{Missing, WrongNode, Long}
use Rattle.folder_core.specs.Limits.{most_bytes}
use Rattle.folder_core.specs.declared.error.ScanError.TheVariants.{NotMailbox, TooLarge, Fault}
use Rattle.folder_core.specs.declared.error.ScanError.TheVariants.{NoMemory}
use Rattle.folder_core.proofs.FirstLookLemmas.{bytes_stand, found_err, found_fault, found_no_room}
use Rattle.folder_core.proofs.FirstLookLemmas.{found_ok, tells_failed, tells_missing, tells_there}
use Rattle.folder_core.proofs.LookedLemmas.{read_long, read_missing, read_tells, read_wrong}
use Rattle.mbox_folder.proofs.Reading.{ok_seen, missing_seen, wrong_seen, long_seen, fault_seen}
use Rattle.mbox_folder.proofs.Reading.{memory_seen}
use Rattle.mbox_folder.proofs.read.read_file.Goals as goal

pub returns-in-Ok-clause-seen : goal.returns-in-Ok-clause-seen
returns-in-Ok-clause-seen g c =
    ok_seen c.in-Ok.file c.args.path.now _ _ c.in-Ok.ensures.0.called c.read_all.ensures.1.0

pub returns-in-Err-Missing-clause-seen : goal.returns-in-Err-Missing-clause-seen
returns-in-Err-Missing-clause-seen g c =
    missing_seen _ c.args.path.now _ _ c.in-Err-Missing.field-0-is
    c.in-Err-Missing.ensures.0.called
    c.read_all.ensures.1.0

pub returns-in-Err-WrongNode-clause-seen : goal.returns-in-Err-WrongNode-clause-seen
returns-in-Err-WrongNode-clause-seen g c =
    wrong_seen _ c.args.path.now _ _ c.in-Err-WrongNode.field-0-is
    c.in-Err-WrongNode.ensures.0.called
    c.read_all.ensures.1.0

pub returns-in-Err-Long-clause-seen : goal.returns-in-Err-Long-clause-seen
returns-in-Err-Long-clause-seen g c =
    long_seen _ c.in-Err-Long.length c.args.path.now _ _ c.in-Err-Long.field-0-is
    c.in-Err-Long.ensures.0.called
    c.read_all.ensures.1.0

pub returns-in-Err-Fault-clause-seen : goal.returns-in-Err-Fault-clause-seen
returns-in-Err-Fault-clause-seen g c =
    fault_seen _ c.args.path.now _ _ c.in-Err-Fault.field-0-is c.in-Err-Fault.ensures.0.called
    c.read_all.ensures.1.0

pub returns-in-Err-NoMemory-clause-seen : goal.returns-in-Err-NoMemory-clause-seen
returns-in-Err-NoMemory-clause-seen g c =
    memory_seen _ c.args.path.now _ _ c.in-Err-NoMemory.field-0-is
    c.in-Err-NoMemory.ensures.0.called
    c.read_all.ensures.1.0

pub returns-in-Ok-clause-first : goal.returns-in-Ok-clause-first
returns-in-Ok-clause-first g c =
    tells_there (Ok c.in-Ok.file) c.args.path.now _ _ (λ e. (cc))
    (found_ok c.args.path.now true (c.in-Ok.file.stat, c.in-Ok.file.bytes.items) c.in-Ok.ensures.0
    (λ tree is. bytes_stand (node_at tree c.args.path.now) c.in-Ok.file.bytes.items
    (read_tells tree c.args.path.now most_bytes c.in-Ok.file is).0))

pub returns-in-Err-Missing-clause-first : goal.returns-in-Err-Missing-clause-first
returns-in-Err-Missing-clause-first g c =
    tells_missing _ c.args.path.now _ _
    (found_err c.args.path.now false c.in-Err-Missing.field-0 Missing c.in-Err-Missing.field-0-is
    (λ e. (cc)) (λ e. (cc)) c.in-Err-Missing.ensures.0
    (λ tree is. ap is_some (read_missing tree c.args.path.now most_bytes is)))

pub returns-in-Err-WrongNode-clause-first : goal.returns-in-Err-WrongNode-clause-first
returns-in-Err-WrongNode-clause-first g c =
    tells_there (Err (NotMailbox 0)) c.args.path.now _ _ (λ e. (cc))
    (found_err c.args.path.now true c.in-Err-WrongNode.field-0 WrongNode
    c.in-Err-WrongNode.field-0-is (λ e. (cc)) (λ e. (cc)) c.in-Err-WrongNode.ensures.0
    (λ tree is. read_wrong tree c.args.path.now most_bytes is))

pub returns-in-Err-Long-clause-first : goal.returns-in-Err-Long-clause-first
returns-in-Err-Long-clause-first g c =
    tells_there (Err (TooLarge c.in-Err-Long.length)) c.args.path.now _ _ (λ e. (cc))
    (found_err c.args.path.now true c.in-Err-Long.field-0 (Long c.in-Err-Long.length)
    c.in-Err-Long.field-0-is (λ e. (cc)) (λ e. (cc)) c.in-Err-Long.ensures.0
    (λ tree is. let told = read_long tree c.args.path.now most_bytes c.in-Err-Long.length is in
    bytes_stand (node_at tree c.args.path.now) told.1.0 told.1.1))

pub returns-in-Err-Fault-clause-first : goal.returns-in-Err-Fault-clause-first
returns-in-Err-Fault-clause-first g c =
    tells_failed _ Fault c.args.path.now _ _ (inl refl)
    (found_fault c.args.path.now c.in-Err-Fault.field-0 c.in-Err-Fault.field-0-is
    c.in-Err-Fault.ensures.0)

pub returns-in-Err-NoMemory-clause-first : goal.returns-in-Err-NoMemory-clause-first
returns-in-Err-NoMemory-clause-first g c =
    tells_failed _ NoMemory c.args.path.now _ _ (inr refl)
    (found_no_room c.args.path.now c.in-Err-NoMemory.field-0 c.in-Err-NoMemory.field-0-is
    c.in-Err-NoMemory.ensures.0)

pub returns-in-Ok-clause-possible : goal.returns-in-Ok-clause-possible
returns-in-Ok-clause-possible g c =
    let whole = c.in-Ok.ensures.1.1 in
    le-ltb most_bytes (length c.in-Ok.file.bytes.items) (omega (arith, whole.length, whole.within))
