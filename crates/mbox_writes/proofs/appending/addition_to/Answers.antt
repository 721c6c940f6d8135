use Rattle.mbox_writes.proofs.appending.addition_to.Goals as goal

pub returns-in-Err-clause-err : goal.returns-in-Err-clause-err
returns-in-Err-clause-err c = c.in-Err.ensures.refused c.args.item.now
