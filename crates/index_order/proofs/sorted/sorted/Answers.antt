use Rattle.std.proofs.Common.{◌≡◌, ◌<◌, length, subst}
use Rattle.std.proofs.lemmas.Fn.{always_returns_same}
use Rattle.std.proofs.lemmas.Cmp.{on_total}
use Rattle.std.proofs.lemmas.List.Sorted.{All-permutation, IsPermutation-map}
use Rattle.std.specs.List.Sorted.{IsPermutation}
use Rattle.index_order.specs.Inner.{placed_places, plain_placed}
use Rattle.index_order.specs.Keys.{at}
use Rattle.index_order.specs.declared.keys.Placed.{Placed}
use Rattle.index_order.proofs.SortedLemmas.{placed_before, sorted_is}
use Rattle.index_order.proofs.TotalLemmas.{sort_total, weak}
use Rattle.index_order.proofs.sorted.sorted.Goals as goal

pub returns-clause-moved : goal.returns-clause-moved
returns-clause-moved c =
    subst (λ l. IsPermutation l (placed_places c.sort_by.new.self.items))
    c.in_ok-placed.ensures.places
    (IsPermutation-map (λ (p : Placed). p.place) c.in_ok-placed.placed.items
    c.sort_by.new.self.items c.sort_by.ensures.permutation)

pub returns-clause-sorted : goal.returns-clause-sorted
returns-clause-sorted c =
    let keys = c.args.keys.now in
    sorted_is c.args.reverse c.args.sort keys c.sort_by.new.self.items
    (All-permutation (λ p. (p.place < length keys) × (plain_placed p ≡ at keys p.place))
    c.in_ok-placed.placed.items c.sort_by.new.self.items
    c.sort_by.ensures.permutation c.in_ok-placed.ensures.placed)
    (c.in_ok-sort_by.ensures.sorted (placed_before c.args.reverse c.args.sort)
    (weak (on_total plain_placed (sort_total c.args.reverse c.args.sort)))
    (always_returns_same _ _ _
    (λ a r f k. (k.met.1, λ i. record { 0 = k.met.0.0 i; 1 = k.met.0.1 i }))))
    (subst (λ l. IsPermutation l (placed_places c.sort_by.new.self.items))
    c.in_ok-placed.ensures.places
    (IsPermutation-map (λ (p : Placed). p.place) c.in_ok-placed.placed.items
    c.sort_by.new.self.items c.sort_by.ensures.permutation))
