use Rattle.mh_folder.proofs.RecoverLemmas.{recovers_at}
use Rattle.mh_folder.proofs.driver.recover_known.Goals as goal

pub returns : goal.returns
returns g c =
    recovers_at c.args.known.now c.path.result.now c.path.ensures c.recover.ensures
    c.args._owner.now
