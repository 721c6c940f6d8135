use Rattle.std.proofs.Common.{refl}
use Rattle.folder_tails.proofs.Leads as L
use Rattle.mbox_writes.proofs.Dropping.{behind_look, from_lock}
use Rattle.mbox_writes.proofs.Stages.{locked}
use Rattle.mbox_writes.proofs.writing.give_back_unwritten.Goals as goal

pub returns-in-Err-Missing-clause-stays : goal.returns-in-Err-Missing-clause-stays
returns-in-Err-Missing-clause-stays g c ours passes =
    behind_look c.args.path.now ours
    (L.looked c.args.path.now ours c.stat.ensures.0.called refl tt (locked c.args.path.now ours))
    (c.drop_lock.ensures.stays ours)

pub returns-in_default-clause-stays : goal.returns-in_default-clause-stays
returns-in_default-clause-stays g c ours passes =
    behind_look c.args.path.now ours
    (L.looked c.args.path.now ours c.stat.ensures.0.called refl tt (locked c.args.path.now ours))
    (from_lock c.args.path.now ours c.args.held.now
    (c.give_back.ensures.stays ours passes.knows.passes))
