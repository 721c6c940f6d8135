use Rattle.mail_base.specs.declared.kind.Kind.TheVariants.{Maildir}
use Rattle.folder_drivers.proofs.SliceLemmas.{syncs_slice}
use Rattle.maildir_folder.proofs.driver.sync_changes.Goals as goal

pub returns : goal.returns
returns g c =
    syncs_slice Maildir c.as_slice.result.now c.args.changes.now.items c.as_slice.ensures
    (c.sync_folder.ensures c.args._owner.now c.args._purge_files)
