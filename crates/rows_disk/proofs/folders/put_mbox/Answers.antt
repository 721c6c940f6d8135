use Rattle.rows_disk.proofs.folders.put_mbox.Goals as goal

pub scan-found-requires-clause-right : goal.scan-found-requires-clause-right
scan-found-requires-clause-right g c = c.in_ok-known.ensures.right _ _
