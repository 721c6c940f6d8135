use Rattle.index_items.proofs.PendingLemmas.{left_apart}
use Rattle.index_items.proofs.pending.Pending.left.Goals as goal

pub delta_of-requires : goal.delta_of-requires
delta_of-requires c = rw (c.without-added.ensures, c.shared-cleared.ensures)
    (left_apart c.args.self.delta.added c.args.self.delta.cleared c.args.held)
