use Rattle.std.proofs.Common.{false}
use Rattle.folder_tails.specs.Sides.{home_of}
use Rattle.folder_tails.proofs.Causes.{seen_before}
use Rattle.folder_tails.proofs.Leads as L
use Rattle.folder_tails.proofs.Serving as S
use Rattle.folder_tails.proofs.Takes as T
use Rattle.folder_tails.proofs.Traces.{alone_then, meets_before}
use Rattle.folder_tails.proofs.lock.begin_lock.Goals as goal

pub returns-in-Ok-clause-stays : goal.returns-in-Ok-clause-stays
returns-in-Ok-clause-stays g c ours never =
    let path = home_of c.args.sides.now in
    T.so path ours (c.in-Ok.ensures.stays ours never) (λ may s x. x.safe)

pub returns-in-Ok-clause-ok : goal.returns-in-Ok-clause-ok
returns-in-Ok-clause-ok g c ours never =
    let path = home_of c.args.sides.now in
    T.so path ours (c.in-Ok.ensures.ok ours never) (T.taken_ready path ours c.args.line.now)

pub returns-in-Err-clause-stays : goal.returns-in-Err-clause-stays
returns-in-Err-clause-stays g c ours never =
    let path = home_of c.args.sides.now in
    L.on path ours (c.in-Err.ensures.stays ours never) (c.drop_lock.ensures.stays ours)

pub returns-in-Err-clause-serves : goal.returns-in-Err-clause-serves
returns-in-Err-clause-serves g c =
    T.serves_before _ _ _ _ _ c.in-Err.ensures.serves
    (S.leads_grows (c.drop_lock.ensures.stays (λ line. false))) c.drop_lock.ensures.counts

pub returns-in-Err-clause-unfinished : goal.returns-in-Err-clause-unfinished
returns-in-Err-clause-unfinished g c is =
    let path = home_of c.args.sides.now in
    let left = c.in-Err.ensures.unfinished is in
    let grows = S.leads_grows (c.drop_lock.ensures.stays (λ line. false)) in (
      (meets_before path _ _ _ left.0.0 grows, seen_before left.0.1 grows),
      alone_then path _ _ _ left.1 c.drop_lock.ensures.alone,
    )
