use Rattle.std.proofs.Common.{◌≡◌, ◌≤◌, ◌++◌, length, option_map, false}
use Rattle.mime_tree.specs.Parameter.{PlainValue, quoted_value}
use Rattle.mime_tree.proofs.parameter.quoted_value.Given as goal

abbrev pub invariant-loop-left : goal.invariant-loop-left
invariant-loop-left l = record {
  same : option_map (λ (v : PlainValue). record v { bytes = l.bytes.items ++ v.bytes })
      (quoted_value l.escaped l.left)
      ≡ quoted_value false l.text;
  shorter : length l.left ≤ length l.text;
}

abbrev pub decreases-loop-left : goal.decreases-loop-left
decreases-loop-left l = length l.left
