use Rattle.std.proofs.Common.{◌≡◌, ℕ, List, length, map}
use Rattle.folder_letters.specs.Letters.{plain_letter}
use Rattle.index_items.specs.Changes.{AreBelow, plain_changes}
use Rattle.folder_drivers.specs.MhSync as sync
use Rattle.mh_sequences.specs.Marks.{AreMarks}
use Rattle.mh_syncs.proofs.sequences.put_changes.Given as goal

-- what the changes that are left make of the sequences is what all make of them
abbrev pub invariant-loop-left : goal.invariant-loop-left
invariant-loop-left l = record {
  within : AreBelow (length l.archive) l.left;
  whole : (bytes : List ℕ) → AreMarks bytes l.marks
      → sync.with_changes bytes (map plain_letter l.archive) (plain_changes l.left) l.sequences
      ≡ sync.with_changes bytes (map plain_letter l.archive) (plain_changes l.changes)
      l.initial.sequences;
}

abbrev pub decreases-loop-left : goal.decreases-loop-left
decreases-loop-left l = length l.left
