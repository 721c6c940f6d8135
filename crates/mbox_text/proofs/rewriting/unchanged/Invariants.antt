use Rattle.std.proofs.Common.{◌≡◌, ◌+◌, List, length}
use Rattle.folder_core.specs.Mbox.{Cover}
use Rattle.index_items.specs.Changes.{Changed, Tells}
use Rattle.mbox_text.specs.Rewriting as spec
use Rattle.mbox_text.proofs.rewriting.unchanged.Given as goal

-- so far all stayed, and what is left is left of what there was
abbrev pub invariant-loop-left : goal.invariant-loop-left
invariant-loop-left l = record {
  behind : Cover l.at (length l.bytes) l.left;
  rest : l.count + length l.left ≡ length l.regions;
  count : (changes : List Changed) → Tells l.table changes
      → l.count + spec.unchanged_count (spec.wanted_of changes l.listed)
      (spec.raws_in l.bytes l.left)
      ≡ spec.unchanged_count (spec.wanted_of changes l.listing) (spec.raws_in l.bytes l.regions);
  size : (changes : List Changed) → Tells l.table changes
      → l.at + spec.first_changed (spec.wanted_of changes l.listed) (spec.raws_in l.bytes l.left)
      ≡ spec.first_changed (spec.wanted_of changes l.listing) (spec.raws_in l.bytes l.regions);
}

abbrev pub decreases-loop-left : goal.decreases-loop-left
decreases-loop-left l = length l.left
