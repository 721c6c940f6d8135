use Rattle.std.proofs.Common.{[], inl, refl, ◌≡◌}
use Rattle.folder_tails.specs.Sides.{home_of}
use Rattle.folder_tails.specs.Stages.{AnyFile}
use Rattle.folder_tails.proofs.Leads as L
use Rattle.folder_tails.proofs.Locks as K
use Rattle.folder_tails.proofs.Takes as T
use Rattle.folder_tails.proofs.lock.put_line.Goals as goal

pub returns-in_err-write_lock-clause-stays : goal.returns-in_err-write_lock-clause-stays
returns-in_err-write_lock-clause-stays g c ours =
    let path = home_of c.args.sides.now in
    let first = L.nothing path ours _ (T.filling path ours (λ file. file.bytes ≡ [])) in
    T.so path ours (T.torn path ours c.args.line.now first c.in_err-write_lock.ensures.called)
    (K.filled_unclaimed path ours AnyFile)

pub returns-in_err-sync_lock-clause-stays : goal.returns-in_err-sync_lock-clause-stays
returns-in_err-sync_lock-clause-stays g c ours =
    let path = home_of c.args.sides.now in
    let line = c.args.line.now in
    let first = L.nothing path ours _ (T.filling path ours (λ file. file.bytes ≡ [])) in
    let written = T.written path ours line first c.in_ok-write_lock.ensures.called in
    T.so path ours (T.stayed path ours written c.in_err-sync_lock.ensures.called (λ wrote s. refl)
    (T.filling path ours (λ file. file.bytes ≡ line)) (inl (inl refl)))
    (K.filled_unclaimed path ours (λ file. file.bytes ≡ line))

pub returns-clause-ok : goal.returns-clause-ok
returns-clause-ok g c ours =
    let path = home_of c.args.sides.now in
    let line = c.args.line.now in
    let first = L.nothing path ours _ (T.filling path ours (λ file. file.bytes ≡ [])) in
    let written = T.written path ours line first c.in_ok-write_lock.ensures.called in
    T.synced path ours line written c.in_ok-sync_lock.ensures.called

pub returns-clause-stays : goal.returns-clause-stays
returns-clause-stays g c ours =
    let path = home_of c.args.sides.now in
    T.so path ours (returns-clause-ok g c ours) (T.taken_unclaimed path ours c.args.line.now)
