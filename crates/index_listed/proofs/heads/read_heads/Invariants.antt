use Rattle.std.proofs.Common.{◌≡◌, ◌≤◌, ◌-◌, length, map, take}
use Rattle.folder_letters.specs.Letters.{plain_letter}
use Rattle.headers.specs.Header.{plain_header}
use Rattle.index_listed.specs.Heads.{AreHeads}
use Rattle.index_listed.proofs.heads.read_heads.Given as goal

abbrev pub invariant-loop-alloc : goal.invariant-loop-alloc
invariant-loop-alloc l = AreHeads (map plain_header l.heads.items) (map plain_letter l.letters)
    × (length l.initial.heads.items ≤ length l.heads.items)
    × (length l.heads.items ≤ length l.letters)
    × (take (length l.initial.heads.items) l.heads.items ≡ l.initial.heads.items)

abbrev pub decreases-loop-alloc : goal.decreases-loop-alloc
decreases-loop-alloc l = length l.letters - length l.heads.items
