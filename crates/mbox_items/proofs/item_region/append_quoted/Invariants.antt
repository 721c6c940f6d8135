use Rattle.std.proofs.Common.{◌≡◌, ◌++◌}
use Rattle.std.specs.List.{concat}
use Rattle.folder_drivers.specs.MboxRegion.{quoted, quoted_text}
use Rattle.mbox_items.proofs.item_region.append_quoted.Given as goal

abbrev pub invariant-loop-line : goal.invariant-loop-line
invariant-loop-line l =
    l.region.items ++ concat (quoted l.empty l.line-iterator)
    ≡ l.fn.region.items ++ quoted_text l.fn.text
