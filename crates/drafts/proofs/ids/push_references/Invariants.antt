use Rattle.std.proofs.Common.{◌≡◌, ◌++◌, filter, length, map}
use Rattle.mail_base.specs.Series.{plain_texts}
use Rattle.headers.specs.Field.{plain_field}
use Rattle.headers.specs.Values.{references}
use Rattle.drafts.specs.PlainDraft.{is_id}
use Rattle.drafts.proofs.ids.push_references.Given as goal

abbrev pub invariant-loop-left : goal.invariant-loop-left
invariant-loop-left l =
    plain_texts l.names ++ filter is_id (references (map plain_field l.left))
    ≡ plain_texts l.fn.names ++ filter is_id (references (map plain_field l.fields))

abbrev pub decreases-loop-left : goal.decreases-loop-left
decreases-loop-left l = length l.left
