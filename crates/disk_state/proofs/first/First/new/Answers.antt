use Rattle.disk_state.proofs.Firsts.{clock_at_end}
use Rattle.disk_state.proofs.first.First.new.Goals as goal

pub returns-clause-clock : goal.returns-clause-clock
returns-clause-clock c =
    clock_at_end c.loop-left.left.now c.args.nodes.now c.loop-left.tree.items c.loop-left.stamp
    c.in_default.len_below
    c.loop-left.invariant.so_far c.loop-left.invariant.end
