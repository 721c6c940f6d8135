use Rattle.std.proofs.Common.{◌≡◌, take}
use Rattle.index_order.specs.Inner.{numbers}
use Rattle.index_order.proofs.listing.numbers_of.Given as goal

abbrev pub invariant-loop-message : goal.invariant-loop-message
invariant-loop-message l = l.numbers.keys ≡ numbers (take l.message-index l.keys)
