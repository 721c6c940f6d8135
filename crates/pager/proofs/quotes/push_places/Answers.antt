use Rattle.pager.proofs.PagerLemmas.{places_turn}
use Rattle.pager.proofs.quotes.push_places.Goals as goal

pub loop-place-preserved : goal.loop-place-preserved
loop-place-preserved c =
    places_turn c.loop-place.places.items _ _ c.loop-place.place c.args.to c.in_ok-push.ensures.ok
    c.loop-place-test.true c.loop-place.invariant
