use Rattle.std.proofs.Common.{◌≡◌, ◌-◌, false, length, map}
use Rattle.std.specs.List.{list_any}
use Rattle.mime_tree.specs.Part.{plain_part}
use Rattle.patterns_match.specs.Kept.{AreFirst, lines_in}
use Rattle.patterns_match.specs.Sought.{sought_found}
use Rattle.patterns_match.proofs.body.any_part.Given as goal

-- it is found in none of the parts that are decoded
abbrev pub invariant-loop-part : goal.invariant-loop-part
invariant-loop-part l = record {
  first : AreFirst l.raw (map plain_part l.parts) l.decoded.items;
  none : list_any (list_any (sought_found l.sought)) (lines_in l.decoded.items) ≡ false;
}

abbrev pub decreases-loop-part : goal.decreases-loop-part
decreases-loop-part l = length l.parts - length l.decoded.items
