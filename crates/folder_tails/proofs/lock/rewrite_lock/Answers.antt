use Rattle.std.proofs.Common.{inl, refl}
use Rattle.folder_tails.specs.Sides.{home_of}
use Rattle.folder_tails.proofs.Leads as L
use Rattle.folder_tails.proofs.Takes as T
use Rattle.folder_tails.proofs.lock.rewrite_lock.Goals as goal

pub returns-in_err-cut_lock-clause-stays : goal.returns-in_err-cut_lock-clause-stays
returns-in_err-cut_lock-clause-stays g c ours =
    let path = home_of c.args.sides.now in
    T.so path ours (T.stayed path ours (L.nothing path ours _ (T.quiet path ours))
    c.in_err-cut_lock.ensures.called (λ wrote s. refl) (T.quiet path ours) (inl (inl refl)))
    (λ may s x. x.safe)

pub returns-in_err-put_line-clause-stays : goal.returns-in_err-put_line-clause-stays
returns-in_err-put_line-clause-stays g c ours =
    let path = home_of c.args.sides.now in
    T.so path ours (L.on path ours
    (T.cut path ours _ (L.nothing path ours _ (T.quiet path ours)) c.in_ok-cut_lock.ensures.called)
    (c.in_err-put_line.ensures.stays ours)) (λ may s x. x.safe)

pub returns-clause-ok : goal.returns-clause-ok
returns-clause-ok g c ours =
    let path = home_of c.args.sides.now in
    L.on path ours
    (T.cut path ours _ (L.nothing path ours _ (T.quiet path ours)) c.in_ok-cut_lock.ensures.called)
    (c.in_ok-put_line.ensures.ok ours)

pub returns-clause-stays : goal.returns-clause-stays
returns-clause-stays g c ours =
    let path = home_of c.args.sides.now in
    T.so path ours (returns-clause-ok g c ours) (λ may s x. x.safe)
