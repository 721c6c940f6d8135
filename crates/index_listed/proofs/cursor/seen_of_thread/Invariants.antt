use Rattle.std.proofs.Common.{◌≡◌, find, length}
use Rattle.index_listed.specs.Cursor as spec
use Rattle.index_listed.specs.Seen.{visible_ids}
use Rattle.index_listed.proofs.cursor.seen_of_thread.Given as goal

abbrev pub invariant-loop-left : goal.invariant-loop-left
invariant-loop-left l = find (spec.same_thread l.new l.id) l.left
    ≡ find (spec.same_thread l.new l.id) (visible_ids l.new)

abbrev pub decreases-loop-left : goal.decreases-loop-left
decreases-loop-left l = length l.left
