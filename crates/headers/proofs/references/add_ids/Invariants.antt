use Rattle.std.proofs.Common.{◌≡◌, ℕ, ◌≤◌, ◌++◌, length}
use Rattle.mail_base.specs.Series.{plain_texts}
use Rattle.headers.specs.Ids.{ids, ids_from}
use Rattle.headers.specs.References.{last_ids}
use Rattle.headers.proofs.references.add_ids.Given as goal

abbrev pub invariant-loop-found : goal.invariant-loop-found
invariant-loop-found l = record {
  few : length l.names.items ≤ 64;
  same : (n : ℕ) × (length l.left ≤ n) ×
      (last_ids (plain_texts l.names ++ ids_from n l.left)
      ≡ last_ids (plain_texts l.initial.names ++ ids l.text));
}

abbrev pub decreases-loop-found : goal.decreases-loop-found
decreases-loop-found l = length l.left
