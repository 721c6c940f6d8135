use Rattle.std.proofs.Common.{◌∙◌, ◌++◌, ◌∷◌, [], List, ap, arith, map, refl}
use Rattle.std.proofs.lemmas.Result.{on_ok_weaker}
use Rattle.session_events.specs.Events.{Happening, plain_event, plain_events}
use Rattle.session.proofs.BehindLemmas.{ok_both, sync_checking, whole_sync, works_sync}
use Rattle.session.proofs.CheckedLemmas.{ok_given}
use Rattle.session.proofs.GivenLemmas.{keeps_same, keeps_still}
use Rattle.session.proofs.StepsLemmas.{put_plain}
use Rattle.session.proofs.WorksLemmas.{works_still}
use Rattle.session.proofs.session_type.Session.sync.Goals as goal

pub returns-in_err-changes-clause-works : goal.returns-in_err-changes-clause-works
returns-in_err-changes-clause-works g c = works_still _ c.args.self.now _ _ _ _ refl refl
    (keeps_same _) refl c.requires.known

pub returns-in_err-reserve-clause-works : goal.returns-in_err-reserve-clause-works
returns-in_err-reserve-clause-works g c = works_still _ c.args.self.now _ _ _ _
    (ap plain_events c.reserve.ensures.items) refl (keeps_same _) refl c.requires.known

pub returns-clause-works : goal.returns-clause-works
returns-clause-works g c = works_sync _ c.args.purge c.args.quits c.args.self.now
    c.write-written.new.self _ _ _ _ c.write-written.result.taken _ _ c.requires.stage
    c.requires.fits c.requires.known c.in_ok-changes.ensures.value c.write-written.ensures
    (put_plain _ _ _ _ (ok_given _ c.push.result
    (c.push.ensures.has_room (omega (arith, c.in_ok-reserve.ensures.room))) c.push.ensures.ok) refl
    ∙ ap (λ (l : List Happening). l ++ plain_event c.write-written.result.event ∷ [])
    (ap plain_events c.reserve.ensures.items)) refl refl
    (keeps_still _ _ refl (keeps_same _))

pub returns-clause-whole : goal.returns-clause-whole
returns-clause-whole g c = ok_both c.write-written.result.taken c.write-written.ensures.arrives
    c.write-written.ensures.fits (whole_sync _ c.args.purge c.args.quits c.args.self.now
    c.write-written.new.self _ _ _ _ c.write-written.result.taken _ _ c.requires.stage
    c.requires.fits c.requires.known c.in_ok-changes.ensures.value c.write-written.ensures
    (put_plain _ _ _ _ (ok_given _ c.push.result
    (c.push.ensures.has_room (omega (arith, c.in_ok-reserve.ensures.room))) c.push.ensures.ok) refl
    ∙ ap (λ (l : List Happening). l ++ plain_event c.write-written.result.event ∷ [])
    (ap plain_events c.reserve.ensures.items)) refl refl
    (keeps_still _ _ refl (keeps_same _)))

pub returns-clause-checking : goal.returns-clause-checking
returns-clause-checking g c = on_ok_weaker c.write-written.result.taken
    (λ arrives. sync_checking c.args.quits _ c.args.self.now c.write-written.new.self _
    c.args.trace.now.notes c.write-written.ensures.sync (arrives c.args.trace.now.notes))
    c.write-written.ensures.arrives
