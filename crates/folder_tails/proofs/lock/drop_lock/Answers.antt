use Rattle.std.proofs.Common.{inl, refl}
use Rattle.folder_tails.specs.Sides.{home_of}
use Rattle.folder_tails.proofs.Leads as L
use Rattle.folder_tails.proofs.Takes as T
use Rattle.folder_tails.proofs.Traces.{alone, alone_then}
use Rattle.std.proofs.Common.{refl}
use Rattle.folder_tails.proofs.lock.drop_lock.Goals as goal

pub returns-in-Ok-clause-stays : goal.returns-in-Ok-clause-stays
returns-in-Ok-clause-stays g c ours =
    let path = home_of c.args.sides.now in
    T.so path ours (L.on path ours
    (T.dropped path ours (L.nothing path ours _ (T.unclaimed path ours)) c.in-Ok.ensures.called)
    (T.dropped_anyhow path ours c.sync_names.ensures.called)) (λ may s x. x.safe)

pub returns-in-Err-clause-stays : goal.returns-in-Err-clause-stays
returns-in-Err-clause-stays g c ours =
    let path = home_of c.args.sides.now in
    T.so path ours (T.stayed path ours (L.nothing path ours _ (T.unclaimed path ours))
    c.in-Err.ensures.called (λ wrote s. refl) (T.unclaimed path ours) (inl refl))
    (λ may s x. x.safe)

pub returns-in-Ok-clause-alone : goal.returns-in-Ok-clause-alone
returns-in-Ok-clause-alone g c =
    let path = home_of c.args.sides.now in
    alone_then path _ _ _ (alone path c.in-Ok.ensures.called refl)
    (alone path c.sync_names.ensures.called tt)

pub returns-in-Err-clause-alone : goal.returns-in-Err-clause-alone
returns-in-Err-clause-alone g c =
    alone (home_of c.args.sides.now) c.in-Err.ensures.called refl
