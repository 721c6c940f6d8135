use Rattle.std.proofs.Common.{inl, refl}
use Rattle.folder_tails.specs.Sides.{home_of}
use Rattle.folder_tails.specs.Causes.{MadeLock}
use Rattle.folder_tails.proofs.Causes.{seen_ok}
use Rattle.folder_tails.proofs.Leads as L
use Rattle.folder_tails.proofs.Takes as T
use Rattle.folder_tails.proofs.Traces.{alone}
use Rattle.std.proofs.Common.{refl}
use Rattle.folder_tails.proofs.lock.take_beside.Goals as goal

pub returns-in-Ok : goal.returns-in-Ok
returns-in-Ok g c =
    let path = home_of c.args.sides.now in
    T.take_made path c.args.owner.now c.args.line.now c.args.held.now c.begin_lock.new.held
    c.begin_lock.result _ _ _ c.requires.line
    (λ ours never. T.made path ours c.args.held.now _ never c.in-Ok.ensures.called)
    c.in-Ok.ensures.grows (alone path c.in-Ok.ensures.called refl)
    c.in-Ok.ensures.counts.marks c.in-Ok.ensures.counts.faults
    c.begin_lock.ensures.stays c.begin_lock.ensures.ok c.begin_lock.ensures.unfinished
    c.begin_lock.ensures.serves
    c.begin_lock.ensures.not_locked c.begin_lock.ensures.is_held
    (seen_ok (MadeLock path) (λ tree judged. refl) c.in-Ok.ensures.called)

pub returns-in-Err-Exists : goal.returns-in-Err-Exists
returns-in-Err-Exists g c =
    let path = home_of c.args.sides.now in
    T.then_takes path c.args.owner.now c.args.held.now c.take_over.new.held c.take_over.result _ _ _
    (λ ours. T.stayed path ours (L.nothing path ours _ (L.entered path ours c.args.held.now))
    c.in-Err-Exists.ensures.called (λ wrote s. refl) (L.entered path ours c.args.held.now)
    (inl refl))
    (T.exists_looks c.in-Err-Exists.field-0 _ _ _ _ c.in-Err-Exists.field-0-is
    c.in-Err-Exists.ensures.called) (alone path c.in-Err-Exists.ensures.called refl)
    c.in-Err-Exists.ensures.counts.marks c.in-Err-Exists.ensures.counts.faults c.take_over.ensures

pub returns-in-Err : goal.returns-in-Err
returns-in-Err g c =
    let path = home_of c.args.sides.now in
    T.take_refused path c.args.owner.now c.args.held.now c.args.held.now _ c.tail_error.result _ _
    c.tail_error.ensures
    (λ ours knows. L.only path ours (T.stayed path ours
    (L.nothing path ours _ (L.entered path ours c.args.held.now))
    c.in-Err.ensures.called (λ wrote s. refl) (L.entered path ours c.args.held.now) (inl refl))
    (L.entered path ours c.args.held.now))
    c.in-Err.ensures.grows c.in-Err.ensures.counts
