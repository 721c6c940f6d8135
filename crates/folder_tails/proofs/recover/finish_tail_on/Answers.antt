use Rattle.folder_tails.proofs.Finishes as F
use Rattle.folder_tails.proofs.recover.finish_tail_on.Goals as goal

pub returns-in-Err : goal.returns-in-Err
returns-in-Err g c = F.unfinished_for_want c.args.path.now c.args.owner.now c.args.held.now _

pub returns-in-Err-owner_line : goal.returns-in-Err-owner_line
returns-in-Err-owner_line g c =
    F.unfinished_for_want c.args.path.now c.args.owner.now c.args.held.now _

pub returns : goal.returns
returns g c =
    F.there c.args.path.now _ c.args.owner.now c.args.held.now c.finish_there.new.held
    c.finish_there.result _ _ c.in-Ok.ensures.path c.finish_there.ensures
