use Rattle.std.proofs.Common.{◌≡◌, ◌++◌, length}
use Rattle.folder_letters.specs.declared.listing.Found.{Found}
use Rattle.index_items.specs.Found as spec
use Rattle.index_items.specs.Items.{plain_items}
use Rattle.index_items.proofs.found.put_all_kept.Given as goal

abbrev pub invariant-loop-left : goal.invariant-loop-left
invariant-loop-left l = (found : Found) → spec.HasGone l.gone found.gone.items
    → spec.HasFlags l.flags found.reflagged.items
    → plain_items l.kept.items ++ spec.kept_items found (plain_items l.left)
    ≡ plain_items l.initial.kept.items ++ spec.kept_items found (plain_items l.items)

abbrev pub decreases-loop-left : goal.decreases-loop-left
decreases-loop-left l = length l.left
