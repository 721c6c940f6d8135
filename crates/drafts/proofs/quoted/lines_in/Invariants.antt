use Rattle.std.proofs.Common.{◌≡◌, All, length, map}
use Rattle.std.specs.List.{find}
use Rattle.mime_tree.specs.Order.{StandsWithin}
use Rattle.mime_tree.specs.Part.{plain_part}
use Rattle.drafts.specs.Reply.{is_text_part}
use Rattle.drafts.proofs.quoted.lines_in.Given as goal

abbrev pub invariant-loop-left : goal.invariant-loop-left
invariant-loop-left l = record {
  within : All (StandsWithin (length l.raw)) l.left;
  first : find is_text_part (map plain_part l.left)
      ≡ find is_text_part (map plain_part l.parts);
}

abbrev pub decreases-loop-left : goal.decreases-loop-left
decreases-loop-left l = length l.left
