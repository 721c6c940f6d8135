use Rattle.mh_appends.proofs.Leaving.{on_both, one_stays, takes_then}
use Rattle.mh_appends.proofs.leftovers.take_leftovers.Goals as goal

pub returns-clause-takes : goal.returns-clause-takes
returns-clause-takes g c =
    takes_then c.args.path.now c.in-Ok.ensures.takes c.take_away-2.ensures.takes

pub returns-clause-taken : goal.returns-clause-taken
returns-clause-taken g c =
    on_both c.args.path.now c.take_away-2.result _ c.in-Ok.ensures.taken c.take_away-2.ensures.taken

pub returns-clause-fails : goal.returns-clause-fails
returns-clause-fails g c =
    one_stays c.args.path.now c.take_away-2.result _ c.in-Ok.ensures.taken
    c.take_away-2.ensures.fails
