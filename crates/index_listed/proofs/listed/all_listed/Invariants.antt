use Rattle.std.proofs.Common.{◌≡◌, ◌++◌, length, map}
use Rattle.folder_letters.specs.Letters.{plain_letter}
use Rattle.index_listed.specs.Heads.{AreWithin}
use Rattle.index_listed.specs.Listed as spec
use Rattle.index_listed.specs.Places.{numbers}
use Rattle.index_listed.proofs.listed.all_listed.Given as goal

abbrev pub invariant-loop-left : goal.invariant-loop-left
invariant-loop-left l = AreWithin (length l.heads) (numbers l.left)
    × (map spec.plain_listed l.all.items
    ++ spec.all_listed (map plain_letter l.letters) l.left
    ≡ spec.all_listed (map plain_letter l.letters) l.ids)

abbrev pub decreases-loop-left : goal.decreases-loop-left
decreases-loop-left l = length l.left
