use Rattle.std.proofs.Common.{◌≡◌, ◌+◌, ◌≤◌, length}
use Rattle.std.specs.List.{count_by}
use Rattle.index_listed.specs.Cursor.{is_seen}
use Rattle.index_view.specs.View.{visible_of}
use Rattle.session_index.proofs.acting.count_seen.Given as goal

abbrev pub invariant-loop-left : goal.invariant-loop-left
invariant-loop-left l = (l.count + count_by (is_seen (visible_of l.view)) l.left
    ≡ count_by (is_seen (visible_of l.view)) l.ids) × (l.count + length l.left ≤ length l.ids)

abbrev pub decreases-loop-left : goal.decreases-loop-left
decreases-loop-left l = length l.left
