use Rattle.std.proofs.Common.{refl, sym}
use Rattle.folder_tails.specs.Sides.{home_of}
use Rattle.folder_tails.proofs.Leads as L
use Rattle.folder_tails.proofs.Takes as T
use Rattle.folder_tails.proofs.lock.take_own.Goals as goal

pub returns-in-Ok-clause-stays : goal.returns-in-Ok-clause-stays
returns-in-Ok-clause-stays g c ours =
    let path = home_of c.args.sides.now in
    L.on path ours (L.tail_read path ours _ c.in-Ok.read.stat c.as_slice.result.now
    c.in-Ok.read.bytes.items (sym c.as_slice.ensures) c.in-Ok.ensures.step.called)
    (c.put_found.ensures.stays ours)

pub returns-in-Ok-clause-ok : goal.returns-in-Ok-clause-ok
returns-in-Ok-clause-ok g c =
    let path = home_of c.args.sides.now in
    L.on_ok c.put_found.result c.put_found.ensures.ok (λ each ours.
    T.so path ours (L.on path ours (L.tail_read path ours _ c.in-Ok.read.stat c.as_slice.result.now
    c.in-Ok.read.bytes.items (sym c.as_slice.ensures) c.in-Ok.ensures.step.called)
    (each ours)) (T.put_ready path ours c.as_slice.result.now c.args.line.now))

pub returns-in-Err-Missing-clause-stays : goal.returns-in-Err-Missing-clause-stays
returns-in-Err-Missing-clause-stays g c ours =
    let path = home_of c.args.sides.now in
    L.on path ours (L.tail_unread path ours _ c.in-Err-Missing.field-0 c.in-Err-Missing.field-0-is
    c.in-Err-Missing.ensures.step.called) (c.renew_lock.ensures.stays ours)

pub returns-in-Err-Missing-clause-ok : goal.returns-in-Err-Missing-clause-ok
returns-in-Err-Missing-clause-ok g c =
    let path = home_of c.args.sides.now in
    L.on_ok c.renew_lock.result c.renew_lock.ensures.ok (λ each ours.
    T.so path ours (L.on path ours (L.tail_unread path ours _ c.in-Err-Missing.field-0
    c.in-Err-Missing.field-0-is c.in-Err-Missing.ensures.step.called) (each ours))
    (T.taken_ready path ours c.args.line.now))

pub returns-in-Err-clause-stays : goal.returns-in-Err-clause-stays
returns-in-Err-clause-stays g c ours =
    let path = home_of c.args.sides.now in
    L.only path ours (L.looked path ours c.read_tail_file.ensures.step.called refl tt
    (L.right path ours)) (L.right path ours)
