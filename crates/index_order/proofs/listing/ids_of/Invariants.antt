use Rattle.std.proofs.Common.{◌≡◌, map, take}
use Rattle.index_order.proofs.listing.ids_of.Given as goal

abbrev pub invariant-loop-p : goal.invariant-loop-p
invariant-loop-p l = l.ids.items ≡ map (λ p. p.keys.now.id) (take l.p-index l.placed)
