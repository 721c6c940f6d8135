use Rattle.std.proofs.Common.{◌≡◌, ◌<◌, ℕ, Bool, false, [], Some, length, reverse}
use Rattle.std.proofs.Common.{◌⊎◌}
use Rattle.threads.specs.Walk.{IsWalk, KeepsSeen, LeadsTo, is_unseen, mark_at, unseen}
use Rattle.threads.proofs.walk.follow.Given as goal

abbrev pub invariant-loop-next : goal.invariant-loop-next
invariant-loop-next l = record {
  walk : (is_before : ℕ → ℕ → Bool) → IsWalk is_before l.links l.initial.marks []
      → IsWalk is_before l.links l.marks l.way.items;
  leads : LeadsTo l.links (reverse l.way.items) l.next;
  within : (p : ℕ) → l.next ≡ Some p → p < length l.links;
  start : (l.next ≡ Some l.start) ⊎ (is_unseen (mark_at l.marks l.start) ≡ false);
  keeps : KeepsSeen l.initial.marks l.marks;
}

abbrev pub decreases-loop-next : goal.decreases-loop-next
decreases-loop-next l = unseen l.marks
