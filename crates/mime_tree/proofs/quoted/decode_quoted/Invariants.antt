use Rattle.std.proofs.Common.{◌≡◌, ◌++◌}
use Rattle.std.specs.List.{flat_map}
use Rattle.mime_tree.specs.Quoted.{quoted_line, from_quoted}
use Rattle.mime_tree.proofs.quoted.decode_quoted.Given as goal

abbrev pub invariant-loop-line : goal.invariant-loop-line
invariant-loop-line l =
    l.bytes.items ++ flat_map quoted_line l.line-iterator ≡ from_quoted l.fn.text
