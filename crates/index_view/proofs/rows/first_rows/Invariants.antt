use Rattle.std.proofs.Common.{◌≡◌, map}
use Rattle.std.specs.List.{range_with_len}
use Rattle.index_items.specs.Items.{plain_items}
use Rattle.index_listed.specs.Listed.{plain_listed}
use Rattle.index_view.specs.Tables as spec
use Rattle.index_view.proofs.rows.first_rows.Given as goal

abbrev pub invariant-loop-place : goal.invariant-loop-place
invariant-loop-place l = l.rows.items
    ≡ map (spec.first_row_at (map plain_listed l.listed) (plain_items l.items) l.links)
    (range_with_len 0 l.place)
