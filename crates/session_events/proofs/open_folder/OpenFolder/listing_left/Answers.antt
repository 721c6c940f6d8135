use Rattle.std.proofs.Common.{rules}
use Rattle.index_items.specs.Changes.{plain_changes}
use Rattle.session_events.proofs.OrderLemmas.{in_order_listed, listed_below}
use Rattle.session_events.proofs.open_folder.OpenFolder.listing_left.Goals as goal

pub listing_synced-requires : goal.listing_synced-requires
listing_synced-requires c =
    listed_below c.args.self.now.met c.args.self.now.listing.items c.as_slice-changed.result.now
    c.requires
    (in_order_listed c.args.self.now.listing.items (plain_changes c.as_slice-changed.result.now)
    (search rules))
