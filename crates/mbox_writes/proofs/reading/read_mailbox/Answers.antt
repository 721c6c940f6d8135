use Rattle.std.proofs.Common.{refl}
use Rattle.folder_tails.proofs.Leads as L
use Rattle.mbox_writes.proofs.Causes.{read_for}
use Rattle.mbox_writes.proofs.Stages.{locked}
use Rattle.mbox_writes.proofs.reading.read_mailbox.Goals as goal

pub returns-in-Ok-clause-stays : goal.returns-in-Ok-clause-stays
returns-in-Ok-clause-stays g c ours =
    L.looked c.args.path.now ours c.read_all.ensures.0.called refl tt (locked c.args.path.now ours)

pub returns-in-Err-clause-unread : goal.returns-in-Err-clause-unread
returns-in-Err-clause-unread g c =
    read_for c.args.path.now c.in-Err.why c.refused_read.result _ _ _ c.refused_read.ensures
    c.in-Err.ensures.0.called

pub returns-in-Err-clause-stays : goal.returns-in-Err-clause-stays
returns-in-Err-clause-stays g c ours =
    L.looked c.args.path.now ours c.read_all.ensures.0.called refl tt (locked c.args.path.now ours)
