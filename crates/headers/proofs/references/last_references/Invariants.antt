use Rattle.std.proofs.Common.{◌≡◌, ◌≤◌, ◌++◌, length, map}
use Rattle.mail_base.specs.Series.{plain_texts}
use Rattle.headers.specs.FoldedField.{plain_folded}
use Rattle.headers.specs.References.{last_ids}
use Rattle.headers.specs.Values.{references}
use Rattle.headers.proofs.references.last_references.Given as goal

abbrev pub invariant-loop-left : goal.invariant-loop-left
invariant-loop-left l = record {
  few : length l.names.items ≤ 64;
  same : last_ids (plain_texts l.names ++ references (map plain_folded l.left))
      ≡ last_ids (references (map plain_folded l.fields));
}

abbrev pub decreases-loop-left : goal.decreases-loop-left
decreases-loop-left l = length l.left
