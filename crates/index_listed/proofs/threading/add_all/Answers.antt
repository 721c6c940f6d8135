use Rattle.index_listed.proofs.ApartLemmas.{absent_listed}
use Rattle.index_listed.proofs.threading.add_all.Goals as goal

pub add-requires-clause-absent : goal.add-requires-clause-absent
add-requires-clause-absent c = absent_listed c.loop-left.threads.messages c.loop-left.left.now
    c.first-item.result c.in-len1-up.len_at_least c.first-item.is c.loop-left.invariant.1
