use Rattle.mail_base.specs.declared.kind.Kind.TheVariants.{Mbox}
use Rattle.folder_drivers.proofs.SliceLemmas.{syncs_slice}
use Rattle.mbox_folder.proofs.driver.sync_changes.Goals as goal

pub returns : goal.returns
returns g c =
    syncs_slice Mbox c.as_slice.result.now c.args.changes.now.items c.as_slice.ensures
    (c.sync_mailbox.ensures c.args._purge_files)
