use Rattle.std.proofs.Common.{List, subst, sym, ℕ}
use Rattle.mbox_writes.specs.Calls.{IsAddition, NotAddedHere}
use Rattle.mbox_writes.proofs.Adding.{addition_blames, maybe_added, no_addition_here, unmade}
use Rattle.mbox_writes.proofs.Causes.{given_for, serves_unplanned}
use Rattle.mbox_writes.proofs.appending.append_read.Goals as goal

pub returns-in-Ok-clause-added : goal.returns-in-Ok-clause-added
returns-in-Ok-clause-added g c =
    maybe_added c.args.path.now c.args.owner.now c.args.item.now c.args.bytes.now
    c.as_slice.result.now c.write_end.new.held c.write_end.result _ _
    (subst (λ (e : List ℕ). IsAddition c.args.item.now c.args.bytes.now e) (sym c.as_slice.ensures)
    c.in-Ok.ensures.ok) c.write_end.ensures.puts

pub returns-in-Err-clause-added : goal.returns-in-Err-clause-added
returns-in-Err-clause-added g c =
    unmade c.args.path.now c.args.owner.now c.args.item.now c.args.bytes.now
    c.give_back_unwritten.result _ _ c.give_back_unwritten.ensures.stays
    (given_for (NotAddedHere c.args.item.now c.args.bytes.now) c.in-Err.why
    c.give_back_unwritten.result
    c.give_back_unwritten.ensures.told
    (no_addition_here c.args.item.now c.args.bytes.now c.in-Err.why c.in-Err.ensures.err) tt)

pub returns-in-Err-clause-serves : goal.returns-in-Err-clause-serves
returns-in-Err-clause-serves g c =
    serves_unplanned c.in-Err.why c.give_back_unwritten.result _ _
    c.give_back_unwritten.ensures.told
    (addition_blames c.args.item.now c.args.bytes.now c.in-Err.why c.in-Err.ensures.err)
    c.give_back_unwritten.ensures.goes
