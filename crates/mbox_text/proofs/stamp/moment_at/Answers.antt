use Rattle.std.proofs.Common.{arith}
use Rattle.std.proofs.lemmas.Int.{ints, clamps}
use Rattle.mail_base.specs.Zone.{IsOffset}
use Rattle.mbox_text.specs.Stamp.{IsMidnight}
use Rattle.mbox_text.proofs.stamp.moment_at.Goals as goal

pub returns : goal.returns
returns c =
    let start_in : IsMidnight c.args.start = c.requires.start in
    let offset_in : IsOffset c.args.offset = c.requires.offset in
    omega (arith, ints, clamps)
