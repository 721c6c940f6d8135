use Rattle.std.proofs.Common.{◌≡◌, ◌≤◌, ◌++◌, length, map}
use Rattle.index_listed.specs.Known.{is_in}
use Rattle.index_listed.specs.Listed.{ids, plain_listed}
use Rattle.index_listed.specs.Threading as spec
use Rattle.index_listed.proofs.links.all_links.Given as goal

abbrev pub invariant-loop-left : goal.invariant-loop-left
invariant-loop-left l = spec.AllWithin (length l.listed) l.all.items
    × (length l.left ≤ length l.listed)
    × (l.all.items ++ spec.links_from l.threads
    (ids (map plain_listed l.listed)) (is_in l.known) (map plain_listed l.left)
    ≡ spec.all_links l.threads (map plain_listed l.listed))

abbrev pub decreases-loop-left : goal.decreases-loop-left
decreases-loop-left l = length l.left
