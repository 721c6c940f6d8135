use Rattle.std.proofs.Common.{inl, refl, ◌≡◌}
use Rattle.folder_tails.specs.Sides.{home_of}
use Rattle.folder_tails.proofs.Leads as L
use Rattle.folder_tails.proofs.Takes as T
use Rattle.folder_tails.proofs.lock.renew_lock.Goals as goal

pub returns-in_err-sync_names-clause-stays : goal.returns-in_err-sync_names-clause-stays
returns-in_err-sync_names-clause-stays g c ours =
    let path = home_of c.args.sides.now in
    L.refused path ours (L.nothing path ours _ (L.idle path ours))
    c.in_err-sync_names.ensures.called tt
    (λ wrote s. refl) (L.idle path ours)

pub returns-in_err-has_line-clause-stays : goal.returns-in_err-has_line-clause-stays
returns-in_err-has_line-clause-stays g c ours =
    let path = home_of c.args.sides.now in
    let quiet = T.quieted path ours (L.nothing path ours _ (L.idle path ours))
    c.in_ok-sync_names.ensures.called in
    T.so path ours (T.quiet_read path ours quiet c.in_err-has_line.ensures.looked)
    (λ may s x. x.safe)

pub returns-in_err-sync_lock-clause-stays : goal.returns-in_err-sync_lock-clause-stays
returns-in_err-sync_lock-clause-stays g c ours =
    let path = home_of c.args.sides.now in
    let quiet = T.quieted path ours (L.nothing path ours _ (L.idle path ours))
    c.in_ok-sync_names.ensures.called in
    let line = c.args.line.now in
    let read = T.line_read path ours line quiet (c.in_ok-has_line.ensures.read c.if-branch.true) in
    T.so path ours (T.stayed path ours read c.in_err-sync_lock.ensures.called (λ wrote s. refl)
    (T.filling path ours (λ file. file.bytes ≡ line)) (inl (inl refl))) (λ may s x. x.safe)

pub returns-in_ok-sync_lock-clause-ok : goal.returns-in_ok-sync_lock-clause-ok
returns-in_ok-sync_lock-clause-ok g c ours =
    let path = home_of c.args.sides.now in
    let quiet = T.quieted path ours (L.nothing path ours _ (L.idle path ours))
    c.in_ok-sync_names.ensures.called in
    let line = c.args.line.now in
    let read = T.line_read path ours line quiet (c.in_ok-has_line.ensures.read c.if-branch.true) in
    T.synced path ours line read c.in_ok-sync_lock.ensures.called

pub returns-in_ok-sync_lock-clause-stays : goal.returns-in_ok-sync_lock-clause-stays
returns-in_ok-sync_lock-clause-stays g c ours =
    let path = home_of c.args.sides.now in
    T.so path ours (returns-in_ok-sync_lock-clause-ok g c ours) (λ may s x. x.safe)

pub returns-in_err-rewrite_lock-clause-stays : goal.returns-in_err-rewrite_lock-clause-stays
returns-in_err-rewrite_lock-clause-stays g c ours =
    let path = home_of c.args.sides.now in
    let quiet = T.quieted path ours (L.nothing path ours _ (L.idle path ours))
    c.in_ok-sync_names.ensures.called in
    L.on path ours (T.quiet_read path ours quiet c.in_ok-has_line.ensures.looked)
    (c.in_err-rewrite_lock.ensures.stays ours)

pub returns-in_ok-rewrite_lock-clause-ok : goal.returns-in_ok-rewrite_lock-clause-ok
returns-in_ok-rewrite_lock-clause-ok g c ours =
    let path = home_of c.args.sides.now in
    let quiet = T.quieted path ours (L.nothing path ours _ (L.idle path ours))
    c.in_ok-sync_names.ensures.called in
    L.on path ours (T.quiet_read path ours quiet c.in_ok-has_line.ensures.looked)
    (c.in_ok-rewrite_lock.ensures.ok ours)

pub returns-in_ok-rewrite_lock-clause-stays : goal.returns-in_ok-rewrite_lock-clause-stays
returns-in_ok-rewrite_lock-clause-stays g c ours =
    let path = home_of c.args.sides.now in
    T.so path ours (returns-in_ok-rewrite_lock-clause-ok g c ours) (λ may s x. x.safe)
