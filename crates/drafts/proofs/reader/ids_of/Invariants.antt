use Rattle.std.proofs.Common.{◌≡◌, ◌++◌, ◌==◌, length}
use Rattle.std.specs.List.{slice_split}
use Rattle.mail_base.specs.Series.{plain_texts}
use Rattle.drafts.proofs.reader.ids_of.Given as goal

abbrev pub invariant-loop-id : goal.invariant-loop-id
invariant-loop-id l =
    plain_texts l.names ++ slice_split (λ b. b == 32) l.left
    ≡ slice_split (λ b. b == 32) l.initial.left

abbrev pub decreases-loop-id : goal.decreases-loop-id
decreases-loop-id l = length l.left
