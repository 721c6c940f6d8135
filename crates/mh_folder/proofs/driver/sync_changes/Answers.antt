use Rattle.mail_base.specs.declared.kind.Kind.TheVariants.{Mh}
use Rattle.folder_drivers.proofs.SliceLemmas.{syncs_slice}
use Rattle.mh_folder.proofs.driver.sync_changes.Goals as goal

pub returns : goal.returns
returns g c =
    syncs_slice Mh c.as_slice.result.now c.args.changes.now.items c.as_slice.ensures
    (c.sync_folder.ensures c.args._owner.now)
