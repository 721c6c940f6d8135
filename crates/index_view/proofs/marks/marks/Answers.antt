use Rattle.index_listed.proofs.ListLemmas.{put_next}
use Rattle.index_view.specs.Marks as spec
use Rattle.index_view.proofs.marks.marks.Goals as goal

pub loop-place-preserved : goal.loop-place-preserved
loop-place-preserved c = put_next (spec.mark_of c.args.rows.now c.args.within.now)
    c.loop-place.place c.loop-place.marks.items _ _ c.in_ok-push.ensures.items
    c.loop-place.invariant c.mark_of.ensures
