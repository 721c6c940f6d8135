use Rattle.std.proofs.Common.{false}
use Rattle.folder_tails.specs.Sides.{home_of}
use Rattle.folder_tails.specs.Stages.{AnyState}
use Rattle.folder_tails.proofs.Leads as L
use Rattle.folder_tails.proofs.Locks as K
use Rattle.folder_tails.proofs.Serving as S
use Rattle.folder_tails.proofs.Takes as T
use Rattle.folder_tails.proofs.Traces.{alone}
use Rattle.folder_tails.proofs.lock.fill_lock.Goals as goal

pub returns-in-Ok-true-clause-stays : goal.returns-in-Ok-true-clause-stays
returns-in-Ok-true-clause-stays g c ours never =
    let path = home_of c.args.sides.now in
    T.so path ours (T.fresh_seen path ours c.in-Ok-true.ensures.looked)
    (K.fresh_unclaimed path ours AnyState never)

pub returns-in-Err-clause-stays : goal.returns-in-Err-clause-stays
returns-in-Err-clause-stays g c ours never =
    let path = home_of c.args.sides.now in
    T.so path ours (T.fresh_seen path ours c.in-Err.ensures.looked)
    (K.fresh_unclaimed path ours AnyState never)

pub returns-in-Ok-clause-stays : goal.returns-in-Ok-clause-stays
returns-in-Ok-clause-stays g c ours never =
    let path = home_of c.args.sides.now in
    L.on path ours
    (T.fresh_missed path ours (c.in-Ok-false.ensures.tells.missed c.in-Ok-false.field-0-test))
    (c.in-Ok.ensures.stays ours)

pub returns-in-Ok-clause-ok : goal.returns-in-Ok-clause-ok
returns-in-Ok-clause-ok g c ours never =
    let path = home_of c.args.sides.now in
    L.on path ours
    (T.fresh_missed path ours (c.in-Ok-false.ensures.tells.missed c.in-Ok-false.field-0-test))
    (c.in-Ok.ensures.ok ours)

pub returns-in-Err-put_line-clause-stays : goal.returns-in-Err-put_line-clause-stays
returns-in-Err-put_line-clause-stays g c ours never =
    let path = home_of c.args.sides.now in
    L.on path ours
    (T.fresh_missed path ours (c.in-Ok-false.ensures.tells.missed c.in-Ok-false.field-0-test))
    (c.in-Err-put_line.ensures.stays ours)

pub returns-in-Ok-clause-serves : goal.returns-in-Ok-clause-serves
returns-in-Ok-clause-serves g c =
    T.looked_serves _ _ _ _ c.in-Ok-false.ensures.looks c.in-Ok-false.ensures.counts
    (T.ok_serves _ _ (S.leads_grows (c.in-Ok.ensures.stays (λ line. false))) c.in-Ok.ensures.counts)

pub returns-in-Err-put_line-clause-serves : goal.returns-in-Err-put_line-clause-serves
returns-in-Err-put_line-clause-serves g c =
    T.looked_serves _ _ _ _ c.in-Ok-false.ensures.looks c.in-Ok-false.ensures.counts
    (T.err_serves _ c.tail_error.result _ _ c.tail_error.ensures
    (S.leads_grows (c.in-Err-put_line.ensures.stays (λ line. false)))
    c.in-Err-put_line.ensures.counts)

pub returns-in-Err-clause-serves : goal.returns-in-Err-clause-serves
returns-in-Err-clause-serves g c =
    T.err_serves _ c.tail_error-in-Err.result _ _ c.tail_error-in-Err.ensures
    (T.looks_grow _ _ c.in-Err.ensures.looks) c.in-Err.ensures.counts

pub returns-in-Err-put_line-clause-not_locked : goal.returns-in-Err-put_line-clause-not_locked
returns-in-Err-put_line-clause-not_locked g c =
    T.never_locked _ c.tail_error.result c.tail_error.ensures

pub returns-in-Err-clause-not_locked : goal.returns-in-Err-clause-not_locked
returns-in-Err-clause-not_locked g c =
    T.never_locked _ c.tail_error-in-Err.result c.tail_error-in-Err.ensures

pub returns-in-Ok-true-clause-unfinished : goal.returns-in-Ok-true-clause-unfinished
returns-in-Ok-true-clause-unfinished g c is = (
  (
    c.in-Ok-true.ensures.tells.met c.in-Ok-true.field-0-test,
    c.in-Ok-true.ensures.tells.had c.in-Ok-true.field-0-test,
  ),
  alone (home_of c.args.sides.now) c.in-Ok-true.ensures.looked.1 tt,
)

pub returns-in-Err-put_line-clause-unfinished : goal.returns-in-Err-put_line-clause-unfinished
returns-in-Err-put_line-clause-unfinished g c is =
    absurd (T.never_unfinished _ c.tail_error.result c.tail_error.ensures is)

pub returns-in-Err-clause-unfinished : goal.returns-in-Err-clause-unfinished
returns-in-Err-clause-unfinished g c is =
    absurd (T.never_unfinished _ c.tail_error-in-Err.result c.tail_error-in-Err.ensures is)
