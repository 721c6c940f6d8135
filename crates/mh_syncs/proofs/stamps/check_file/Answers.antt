use Rattle.mh_syncs.proofs.stamps.check_file.Goals as goal

pub returns-in-Err-clause-at : goal.returns-in-Err-clause-at
returns-in-Err-clause-at g c = c.not_looked.ensures.at c.args.at.now
