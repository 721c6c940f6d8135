use Rattle.mbox_folder.proofs.Recovering.{recovers}
use Rattle.mbox_folder.proofs.driver.recover_file.Goals as goal

pub returns : goal.returns
returns g c =
    recovers c.args.owner.now c.path.result.now c.args.known.now c.set_held.new.self
    c.held-held.result c.finish_tail_on-result.new.held c.finish_tail_on-result.result _ _
    c.path.ensures c.held-held.ensures c.set_held.ensures c.finish_tail_on-result.ensures
