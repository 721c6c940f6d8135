use Rattle.folder_tails.proofs.Takes as T
use Rattle.folder_tails.proofs.lock.take_lock_on.Goals as goal

pub returns-in-Err : goal.returns-in-Err
returns-in-Err g c = T.untaken c.args.path.now c.args.owner.now c.args.held.now _

pub returns-in-Err-owner_line : goal.returns-in-Err-owner_line
returns-in-Err-owner_line g c = T.untaken c.args.path.now c.args.owner.now c.args.held.now _

pub returns : goal.returns
returns g c =
    T.taken_there c.args.path.now _ c.args.owner.now c.args.held.now c.take_beside.new.held
    c.take_beside.result _ _ c.in-Ok.ensures.path c.take_beside.ensures
