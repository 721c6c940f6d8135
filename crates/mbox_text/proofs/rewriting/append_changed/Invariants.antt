use Rattle.std.proofs.Common.{◌≡◌, ◌++◌, List, length}
use Rattle.std.specs.List.{concat}
use Rattle.index_items.specs.Changes.{Changed, Tells}
use Rattle.mbox_text.specs.Rewriting as spec
use Rattle.mbox_text.proofs.ChangingLemmas.{Behind}
use Rattle.mbox_text.proofs.rewriting.append_changed.Given as goal

-- what was added so far, and then what becomes of the rest
abbrev pub invariant-loop-left : goal.invariant-loop-left
invariant-loop-left l = record {
  behind : Behind (length l.bytes) l.left;
  added : (changes : List Changed) → Tells l.table changes
      → l.text.items ++ concat (spec.changed_raws (spec.wanted_of changes l.listed)
      (spec.raws_in l.bytes l.left))
      ≡ l.initial.text.items ++ concat (spec.changed_raws (spec.wanted_of changes l.listing)
      (spec.raws_in l.bytes l.regions));
}

abbrev pub decreases-loop-left : goal.decreases-loop-left
decreases-loop-left l = length l.left
