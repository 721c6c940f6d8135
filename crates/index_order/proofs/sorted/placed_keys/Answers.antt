use Rattle.std.proofs.Common.{◌∙◌, ◌++◌, ◌∷◌, [], List, ap, subst, sym}
use Rattle.std.proofs.lemmas.List.{map_push}
use Rattle.index_order.specs.Inner.{ArePlaced, placed_places}
use Rattle.index_order.specs.declared.keys.Placed.{Placed}
use Rattle.index_order.proofs.SortedLemmas.{placed_next, range_next, read_is}
use Rattle.index_order.proofs.sorted.placed_keys.Goals as goal

pub loop-place-preserved : goal.loop-place-preserved
loop-place-preserved c =
    let keys = c.args.keys.now in
    let place = c.loop-place.place in
    let old = c.loop-place.placed.items in
    let lt = c.loop-place-test.true in
    record {
      placed = subst (ArePlaced keys) (sym {A = List Placed} c.in_ok-push.ensures.items)
          (placed_next keys old _ c.loop-place.invariant.placed lt
          (read_is keys place c.index-keys-place.result lt c.index-keys-place.is));
      places = ap placed_places c.in_ok-push.ensures.items
          ∙ map_push (λ (p : Placed). p.place) old _
          ∙ ap (λ l. l ++ place ∷ []) c.loop-place.invariant.places
          ∙ sym (range_next place);
    }
