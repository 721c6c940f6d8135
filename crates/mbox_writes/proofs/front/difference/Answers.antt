use Rattle.std.proofs.Common.{◌≤◌, length, subst}
use Rattle.std.proofs.Common.{ℕ}
use Rattle.mbox_writes.proofs.FrontLemmas.{common_front}
use Rattle.mbox_writes.proofs.front.difference.Goals as goal

pub cores_begin-requires-clause-front : goal.cores_begin-requires-clause-front
cores_begin-requires-clause-front c =
    common_front c.args.known.now c.args.bytes.now
    (subst (λ (n : ℕ). length c.args.known.now ≤ n) c.common_length-common.ensures.value
    c.if-common-known.false)
