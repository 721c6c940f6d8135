use Rattle.std.proofs.Common.{◌≡◌, ◌-◌, ◌≤◌, drop, length, map}
use Rattle.mime_tree.specs.Part.{plain_part}
use Rattle.message_text.specs.Branch.{children}
use Rattle.message_text.proofs.parts.next_child.Given as goal

-- no part that was passed stands directly in it
abbrev pub invariant-loop-at : goal.invariant-loop-at
invariant-loop-at l = record {
  same : children l.nesting (drop l.at (map plain_part l.parts))
      ≡ children l.nesting (drop l.from (map plain_part l.parts));
  from : l.from ≤ l.at;
}

abbrev pub decreases-loop-at : goal.decreases-loop-at
decreases-loop-at l = length l.parts - l.at
