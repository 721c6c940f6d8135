use Rattle.std.proofs.Common.{◌∙◌, ap, length, map, subst, sym}
use Rattle.std.proofs.lemmas.List.Sorted.{IsPermutation-map}
use Rattle.std.proofs.lemmas.Result.{IfOk-weaker}
use Rattle.std.specs.List.{range_with_len}
use Rattle.std.specs.List.Sorted.{IsPermutation}
use Rattle.index_order.specs.Inner.{placed_places}
use Rattle.index_order.specs.Order.{id_at}
use Rattle.index_order.specs.declared.keys.Placed.{Placed}
use Rattle.index_order.proofs.SortedLemmas.{all_ids, placed_ids}
use Rattle.index_order.proofs.listing.by_keys.Goals as goal

pub returns-clause-order : goal.returns-clause-order
returns-clause-order c =
    let keys = c.args.keys.now in
    let placed = c.in_ok-placed.placed.items in
    IfOk-weaker c.ids_of.result _ _ (λ ids e. e
    ∙ ap (map (λ (p : Placed). p.keys.now.id)) c.deref.ensures.value
    ∙ placed_ids keys placed c.in_ok-placed.ensures.placed
    ∙ ap (map (id_at keys)) c.in_ok-placed.ensures.sorted) c.ids_of.ensures

pub returns-clause-once : goal.returns-clause-once
returns-clause-once c =
    let keys = c.args.keys.now in
    let placed = c.in_ok-placed.placed.items in
    IfOk-weaker c.ids_of.result _ _ (λ ids e. subst (IsPermutation (map (λ k. k.id) keys))
    (sym (e ∙ ap (map (λ (p : Placed). p.keys.now.id)) c.deref.ensures.value
    ∙ placed_ids keys placed c.in_ok-placed.ensures.placed))
    (subst (λ l. IsPermutation l (map (id_at keys) (placed_places placed))) (sym (all_ids keys))
    (IsPermutation-map (id_at keys) (range_with_len 0 (length keys)) (placed_places placed)
    c.in_ok-placed.ensures.moved))) c.ids_of.ensures
