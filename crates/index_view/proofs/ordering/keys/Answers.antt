use Rattle.std.proofs.Common.{map}
use Rattle.index_listed.specs.Listed.{plain_listed}
use Rattle.index_listed.proofs.ListLemmas.{put_next}
use Rattle.index_view.specs.Ordering as spec
use Rattle.index_view.proofs.ordering.keys.Goals as goal

pub loop-place-preserved : goal.loop-place-preserved
loop-place-preserved c = put_next (spec.key_at (map plain_listed c.args.listed.now)
    c.args.rows.now) c.loop-place.place c.loop-place.keys.items _ _ c.in_ok-push.ensures.items
    c.loop-place.invariant c.in_ok-keys_at.ensures
