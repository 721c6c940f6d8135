use Rattle.drafts.proofs.LoopLemmas.{ids_written}
use Rattle.drafts.proofs.writing.append_ids.Goals as goal

pub returns : goal.returns
returns c =
    ids_written c.loop-left.out.items c.args.out.now.items c.args.first.now.items
    c.loop-left.left.now c.args.ids.now c.in_default.len_below c.loop-left.invariant
