use Rattle.index_listed.proofs.ListLemmas.{put_next}
use Rattle.index_view.specs.Tables as spec
use Rattle.index_view.proofs.rows.renumbered.Goals as goal

pub loop-place-preserved : goal.loop-place-preserved
loop-place-preserved c = put_next (spec.renumbered_at c.args.rows.now c.args.scored.now)
    c.loop-place.place c.loop-place.all.items _ _ c.in_ok-push.ensures.items
    c.loop-place.invariant search
