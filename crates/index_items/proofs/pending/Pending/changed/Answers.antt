use Rattle.index_items.proofs.PendingLemmas.{changed_apart}
use Rattle.index_items.proofs.pending.Pending.changed.Goals as goal

pub delta_of-requires : goal.delta_of-requires
delta_of-requires c =
    rw (c.joined-added.ensures, c.joined-cleared.ensures, c.without.ensures, c.without-2.ensures)
    (changed_apart c.args.self.delta.added c.args.self.delta.cleared
    c.args.delta.added c.args.delta.cleared c.args.self.delta.apart c.args.delta.apart)
