use Rattle.folder_tails.specs.Sides.{home_of}
use Rattle.folder_tails.proofs.Finishes as F
use Rattle.folder_tails.proofs.recover.finish_held.Goals as goal

pub returns-in-Ok : goal.returns-in-Ok
returns-in-Ok g c =
    F.own_ok (home_of c.args.sides.now) c.finish_own.new.held _ _ c.in-Ok.ensures.ok
    c.in-Ok.ensures.counts c.in-Ok.ensures.given_back

pub returns-in-Err : goal.returns-in-Err
returns-in-Err g c =
    F.own_refused (home_of c.args.sides.now) c.finish_own.new.held _ c.scan_error.result _ _
    c.scan_error.ensures c.in-Err.ensures.stays c.in-Err.ensures.counts c.in-Err.ensures.why
