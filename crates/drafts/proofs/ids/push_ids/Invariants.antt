use Rattle.std.proofs.Common.{◌≡◌, ◌≤◌, ◌++◌, ℕ, filter, length}
use Rattle.mail_base.specs.Series.{plain_texts}
use Rattle.headers.specs.Ids.{ids, ids_from}
use Rattle.drafts.specs.PlainDraft.{is_id}
use Rattle.drafts.proofs.ids.push_ids.Given as goal

abbrev pub invariant-loop-inside : goal.invariant-loop-inside
invariant-loop-inside l =
    (n : ℕ) × (length l.left ≤ n) ×
    (plain_texts l.names ++ filter is_id (ids_from n l.left)
    ≡ plain_texts l.fn.names ++ filter is_id (ids l.text))

abbrev pub decreases-loop-inside : goal.decreases-loop-inside
decreases-loop-inside l = length l.left
