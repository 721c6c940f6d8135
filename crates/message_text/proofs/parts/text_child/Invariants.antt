use Rattle.std.proofs.Common.{◌≡◌, ◌-◌, ◌≤◌, drop, length, map}
use Rattle.std.specs.List.{find}
use Rattle.mime_tree.specs.Part.{plain_part}
use Rattle.message_text.specs.Branch.{children}
use Rattle.message_text.specs.Source.{is_of_kind}
use Rattle.message_text.proofs.parts.text_child.Given as goal

-- none that was passed is of the kind
abbrev pub invariant-loop-at : goal.invariant-loop-at
invariant-loop-at l = record {
  same : find (is_of_kind l.kind) (children l.nesting (drop l.from (map plain_part l.parts)))
      ≡ find (is_of_kind l.kind) (children l.nesting (drop l.behind (map plain_part l.parts)));
  behind : l.behind ≤ l.from;
}

abbrev pub decreases-loop-at : goal.decreases-loop-at
decreases-loop-at l = length l.parts - l.from
