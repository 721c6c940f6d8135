use Rattle.mbox_folder.proofs.Changing.{tells_first, tells_no_read}
use Rattle.mbox_folder.proofs.read.read_first.Goals as goal

pub returns-in-Ok : goal.returns-in-Ok
returns-in-Ok g c =
    tells_first c.args.known.now c.path.result.now c.in-Ok.file _ _ c.requires c.path.ensures
    (record {
      seen = c.in-Ok.ensures.seen;
      first = c.in-Ok.ensures.first;
      possible = c.in-Ok.ensures.possible;
      meets = c.in-Ok.ensures.meets;
    })

pub returns-in-Err : goal.returns-in-Err
returns-in-Err g c =
    tells_no_read c.args.known.now c.path.result.now c.in-Err.why _ _ c.path.ensures
    (record {
      seen = c.in-Err.ensures.seen;
      first = c.in-Err.ensures.first;
      possible = c.in-Err.ensures.possible;
      meets = c.in-Err.ensures.meets;
    })
