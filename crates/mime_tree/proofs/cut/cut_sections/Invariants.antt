use Rattle.std.proofs.Common.{◌≡◌, ◌++◌, map}
use Rattle.mime_tree.specs.Cut.{behind_cut, lines_left, sections_of}
use Rattle.mime_tree.specs.Section.{plain_section}
use Rattle.mime_tree.proofs.cut.cut_sections.Given as goal

abbrev pub invariant-loop-next : goal.invariant-loop-next
invariant-loop-next l =
    map plain_section l.sections.items ++ behind_cut l.boundary l.next
    ≡ sections_of l.boundary (plain_section l.fn.body)

abbrev pub decreases-loop-next : goal.decreases-loop-next
decreases-loop-next l = lines_left l.next
