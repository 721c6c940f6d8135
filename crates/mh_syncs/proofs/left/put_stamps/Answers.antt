use Rattle.mh_syncs.proofs.Stamping.{none_more}
use Rattle.mh_syncs.proofs.left.put_stamps.Goals as goal

pub returns-in_default-stamps_left : goal.returns-in_default-stamps_left
returns-in_default-stamps_left c changes tells =
    none_more changes c.loop-left.left.now c.loop-left.stamps_left.now _ _
    c.in_default-stamps_left.len_below (c.loop-left.invariant changes tells)
