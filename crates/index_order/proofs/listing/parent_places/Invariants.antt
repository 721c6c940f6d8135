use Rattle.std.proofs.Common.{◌≡◌, map}
use Rattle.std.specs.List.{range_with_len}
use Rattle.threads.specs.Links.{target}
use Rattle.threads.specs.Subjects.{parents}
use Rattle.index_order.proofs.listing.parent_places.Given as goal

abbrev pub invariant-loop-message : goal.invariant-loop-message
invariant-loop-message l = l.places.items
    ≡ map (target (parents l.threads.options l.threads.messages)) (range_with_len 0 l.message-index)
