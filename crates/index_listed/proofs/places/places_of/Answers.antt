use Rattle.index_listed.proofs.ApartLemmas.{absent_first}
use Rattle.index_listed.proofs.places.places_of.Goals as goal

pub add-requires : goal.add-requires
add-requires c = absent_first c.loop-left.places c.loop-left.left.now _ c.in-len1-up.len_at_least
    c.loop-left.invariant.0
