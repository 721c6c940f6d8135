use Rattle.std.proofs.Common.{map}
use Rattle.index_items.specs.Items.{plain_items}
use Rattle.index_listed.specs.Listed.{plain_listed}
use Rattle.index_listed.proofs.ListLemmas.{put_next}
use Rattle.index_view.specs.Tables as spec
use Rattle.index_view.proofs.rows.first_rows.Goals as goal

pub loop-place-preserved : goal.loop-place-preserved
loop-place-preserved c = put_next (spec.first_row_at (map plain_listed c.args.listed.now)
    (plain_items c.args.items.now) c.args.links.now) c.loop-place.place
    c.loop-place.rows.items _ _ c.in_ok-push.ensures.items c.loop-place.invariant
    c.first_row_at.ensures
