use Rattle.std.proofs.Common.{◌≡◌, ◌≤◌, length}
use Rattle.mime_tree.specs.Quotes.{behind_semicolon}
use Rattle.mime_tree.specs.declared.quotes.Quotes.TheVariants.{Outside}
use Rattle.mime_tree.proofs.quotes.behind_semicolon.Given as goal

abbrev pub invariant-loop-left : goal.invariant-loop-left
invariant-loop-left l = record {
  same : behind_semicolon l.quotes l.left ≡ behind_semicolon Outside l.text;
  shorter : length l.left ≤ length l.text;
}

abbrev pub decreases-loop-left : goal.decreases-loop-left
decreases-loop-left l = length l.left
