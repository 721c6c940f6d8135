use Rattle.std.proofs.Common.{false, inr}
use Rattle.folder_tails.specs.Sides.{home_of}
use Rattle.folder_tails.specs.Stages.{Ended, Finished, HasLock, Stands}
use Rattle.folder_tails.proofs.Causes as C
use Rattle.folder_tails.proofs.Leads as L
use Rattle.folder_tails.proofs.Serving.{leads_grows}
use Rattle.folder_tails.proofs.finish.finish_found.Goals as goal

pub returns-in_err-put_found-clause-stays : goal.returns-in_err-put_found-clause-stays
returns-in_err-put_found-clause-stays g c ours = c.in_err-put_found.ensures.stays ours

pub returns-in_err-give_back-clause-stays : goal.returns-in_err-give_back-clause-stays
returns-in_err-give_back-clause-stays g c ours =
    let path = home_of c.args.sides.now in
    let text = c.args.text.now in
    L.ends path ours (L.on path ours (c.in_ok-put_found.ensures.ok ours)
    (L.of_each path ours text (λ job. Finished path job (HasLock path job)) (λ job. Stands path job)
    _ _ (λ job. c.in_err-give_back.ensures.stays job)))
    (λ may s x. x.1.safe)

pub returns-clause-ok : goal.returns-clause-ok
returns-clause-ok g c ours =
    let path = home_of c.args.sides.now in
    let text = c.args.text.now in
    L.ended_idle path ours text (L.on path ours (c.in_ok-put_found.ensures.ok ours)
    (L.of_each path ours text (λ job. Finished path job (HasLock path job)) (λ job. Ended path job)
    _ _ (λ job. c.in_ok-give_back.ensures.ok job)))

pub returns-clause-stays : goal.returns-clause-stays
returns-clause-stays g c ours =
    let path = home_of c.args.sides.now in
    L.only path ours (returns-clause-ok g c ours) (L.idle path ours)

pub returns-in_err-put_found-clause-why : goal.returns-in_err-put_found-clause-why
returns-in_err-put_found-clause-why g c =
    C.passed_on _ c.from_residual.result c.from_residual.ensures c.in_err-put_found.ensures.why

pub returns-in_err-give_back-clause-why : goal.returns-in_err-give_back-clause-why
returns-in_err-give_back-clause-why g c =
    C.passed_on _ c.from_residual-in_err-give_back.result c.from_residual-in_err-give_back.ensures
    (λ of_tree. inr (C.last_later (leads_grows (c.in_ok-put_found.ensures.ok (λ line. false)))
    (c.in_err-give_back.ensures.why of_tree)))
