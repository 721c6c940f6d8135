use Rattle.std.proofs.Common.{inl, inr, refl, sym, ⊎_elim}
use Rattle.folder_tails.specs.Sides.{home_of}
use Rattle.folder_tails.proofs.Causes as C
use Rattle.folder_tails.proofs.Leads as L
use Rattle.folder_tails.proofs.Locking.{had_unfit}
use Rattle.folder_tails.proofs.finish.finish_own.Goals as goal

pub returns-in-Ok-clause-stays : goal.returns-in-Ok-clause-stays
returns-in-Ok-clause-stays g c ours =
    let path = home_of c.args.sides.now in
    L.on path ours (L.tail_read path ours _ c.in-Ok.read.stat c.as_slice.result.now
    c.in-Ok.read.bytes.items (sym c.as_slice.ensures) c.in-Ok.ensures.step.called)
    (c.finish_found.ensures.stays ours)

pub returns-in-Ok-clause-ok : goal.returns-in-Ok-clause-ok
returns-in-Ok-clause-ok g c =
    let path = home_of c.args.sides.now in
    L.on_ok c.finish_found.result c.finish_found.ensures.ok (λ each ours.
    L.on path ours (L.tail_read path ours _ c.in-Ok.read.stat c.as_slice.result.now
    c.in-Ok.read.bytes.items (sym c.as_slice.ensures) c.in-Ok.ensures.step.called)
    (each ours))

pub returns-in-Err-Missing-clause-stays : goal.returns-in-Err-Missing-clause-stays
returns-in-Err-Missing-clause-stays g c ours =
    let path = home_of c.args.sides.now in
    L.on path ours (L.tail_unread path ours _ c.in-Err-Missing.field-0 c.in-Err-Missing.field-0-is
    c.in-Err-Missing.ensures.step.called)
    (c.clear_sides.ensures.stays ours)

pub returns-in-Err-Missing-clause-ok : goal.returns-in-Err-Missing-clause-ok
returns-in-Err-Missing-clause-ok g c =
    let path = home_of c.args.sides.now in
    L.on_ok c.clear_sides.result c.clear_sides.ensures.ok (λ each ours.
    L.on path ours (L.tail_unread path ours _ c.in-Err-Missing.field-0 c.in-Err-Missing.field-0-is
    c.in-Err-Missing.ensures.step.called) (each ours))

pub returns-in-Err-clause-stays : goal.returns-in-Err-clause-stays
returns-in-Err-clause-stays g c ours =
    let path = home_of c.args.sides.now in
    L.only path ours (L.looked path ours c.read_tail_file.ensures.step.called refl tt
    (L.right path ours))
    (L.right path ours)

pub returns-in-Ok-clause-why : goal.returns-in-Ok-clause-why
returns-in-Ok-clause-why g c =
    let path = home_of c.args.sides.now in
    C.why_as c.finish_found.result (⊎_elim
    (λ unfit. inr (had_unfit path c.as_slice.result.now _ c.in-Ok.read c.as_slice.ensures unfit.0
    unfit.1 c.in-Ok.ensures.step.called))
    (λ last. inl (C.last_later c.in-Ok.ensures.step.grows last)))
    c.finish_found.ensures.why

pub returns-in-Err-Missing-clause-why : goal.returns-in-Err-Missing-clause-why
returns-in-Err-Missing-clause-why g c =
    C.why_as c.clear_sides.result
    (λ last. inl (C.last_later c.in-Err-Missing.ensures.step.grows last)) c.clear_sides.ensures.why

pub returns-in-Err-clause-why : goal.returns-in-Err-clause-why
returns-in-Err-clause-why g c =
    λ of_tree. inl (C.read_around (home_of c.args.sides.now) (inr refl) c.in-Err.ensures.step.called
    of_tree)
