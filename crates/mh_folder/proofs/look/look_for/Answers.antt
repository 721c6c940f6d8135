use Rattle.mh_folder.proofs.LookLemmas.{look_seen}
use Rattle.mh_folder.proofs.look.look_for.Goals as goal

pub returns-in-Ok-clause-saw : goal.returns-in-Ok-clause-saw
returns-in-Ok-clause-saw g c =
    look_seen c.args.path.now c.args.file.now.name.items c.args.stamp c.in-Ok.found
    c.look_of.result _ _ c.look_of.ensures c.in-Ok.ensures.looked.saw
