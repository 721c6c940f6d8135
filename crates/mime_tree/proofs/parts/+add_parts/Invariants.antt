use Rattle.std.proofs.Common.{◌≡◌, ◌+◌, ◌-◌, length, map}
use Rattle.mime_tree.specs.Parts.{all_parts, parts_in}
use Rattle.mime_tree.specs.Part.{plain_parts}
use Rattle.mime_tree.specs.Section.{plain_section}
use Rattle.mime_tree.proofs.PartsLemmas.{joined}
use Rattle.mime_tree.proofs.parts.+add_parts.Given as goal

abbrev pub decreases-add_parts : goal.decreases-add_parts
decreases-add_parts l = l.levels

abbrev pub invariant-loop-left : goal.invariant-loop-left
invariant-loop-left l =
    joined (plain_parts l.parts)
    (all_parts (parts_in (l.fn.levels - 1) (l.fn.nesting + 1)) (map plain_section l.left))
    ≡ joined (plain_parts l.fn.parts)
    (parts_in l.fn.levels l.fn.nesting (plain_section l.fn.section))

abbrev pub decreases-loop-left : goal.decreases-loop-left
decreases-loop-left l = length l.left
