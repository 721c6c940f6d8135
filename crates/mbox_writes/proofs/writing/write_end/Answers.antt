use Rattle.std.proofs.Common.{length, refl}
use Rattle.mbox_writes.specs.Calls.{NotPutFor}
use Rattle.mbox_writes.proofs.Causes.{given_for, not_put_for}
use Rattle.mbox_writes.proofs.Putting.{was_not_put, was_put}
use Rattle.mbox_writes.proofs.writing.write_end.Goals as goal

pub returns-in-Ok-clause-puts : goal.returns-in-Ok-clause-puts
returns-in-Ok-clause-puts g c =
    was_put c.args.path.now c.args.owner.now c.args.front.now c.args.tail.now
    c.write_tail_on.new.held _ _ (length c.args.front.now) c.args.tail.now refl
    refl c.in-Ok.ensures.ends c.in-Ok.ensures.given_back

pub returns-in-Err-clause-puts : goal.returns-in-Err-clause-puts
returns-in-Err-clause-puts g c =
    was_not_put c.args.path.now c.args.owner.now c.args.front.now
    c.args.tail.now c.give_back.new.held _ _ _ (length c.args.front.now) c.args.tail.now
    c.write_tail_on.new.held c.give_back.result refl refl
    c.in-Err.ensures.stays (λ ours passes. c.give_back.ensures.stays ours passes.knows.passes)
    (given_for (NotPutFor c.args.path.now) c.refused_tail-refusal.result c.give_back.result
    c.give_back.ensures.told
    (not_put_for c.args.path.now c.in-Err.why c.refused_tail-refusal.result
    c.in-Err.ensures.refused c.refused_tail-refusal.ensures) tt)
