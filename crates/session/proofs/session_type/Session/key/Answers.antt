use Rattle.std.proofs.Common.{◌∙◌, ap, refl, ℤ}
use Rattle.std.proofs.Math.Facts.{to_z-of_z}
use Rattle.std.proofs.lemmas.Bool.{false≢true}
use Rattle.session_events.specs.Events.{KeyPressed, plain_events}
use Rattle.session.specs.Runs.{arrived_by, plain_session}
use Rattle.session.proofs.CallsLemmas.{known_on}
use Rattle.disk_model.proofs.Looking.{looks_same}
use Rattle.session.proofs.PressLemmas.{presses, presses_none, presses_off, presses_whole}
use Rattle.session.proofs.StepsLemmas.{arrives_on, put_plain}
use Rattle.session.proofs.session_type.Session.key.Goals as goal

pub returns-in_err-push-clause-presses : goal.returns-in_err-push-clause-presses
returns-in_err-push-clause-presses g c =
    presses_none _ c.args.key c.args.moment c.args.self.now c.take-taken.new.self _ _ _
    c.requires.known refl
    c.take-taken.ensures.kept c.take-taken.ensures.folder
    (λ room. false≢true (c.in_err-push.ensures.has_room room))
    (ap plain_events c.in_err-push.ensures.err)

pub returns-in_err-taken-clause-presses : goal.returns-in_err-taken-clause-presses
returns-in_err-taken-clause-presses g c =
    let is = c.pressed-event.ensures
    ∙ ap (λ (m : ℤ). KeyPressed c.args.key m) (to_z-of_z c.ranges.moment) in
    let put = put_plain _ _ _ _ c.in_ok-push.ensures.ok is in
    presses_off _ c.args.key c.args.moment c.args.self.now c.take-taken.new.self _ _ _
    c.requires.known refl
    c.take-taken.ensures.kept c.take-taken.ensures.folder c.requires.ready put

pub returns-in_err-work_all-clause-presses : goal.returns-in_err-work_all-clause-presses
returns-in_err-work_all-clause-presses g c =
    let is = c.pressed-event.ensures
    ∙ ap (λ (m : ℤ). KeyPressed c.args.key m) (to_z-of_z c.ranges.moment) in
    let put = put_plain _ _ _ _ c.in_ok-push.ensures.ok is in
    presses _ c.args.key c.args.moment c.args.self.now c.take-taken.new.self _ _ _ c.requires.known
    refl
    c.take-taken.ensures.kept c.take-taken.ensures.folder c.requires.ready put
    c.work_all.new.self _ _
    (arrives_on (plain_session c.args.self.now c.args.trace.now.notes) _
    (KeyPressed c.args.key c.args.moment) c.requires.fits.met
    (λ given h. c.in_ok-taken.ensures.arrived given h
    ∙ ap (arrived_by given (plain_session c.args.self.now c.args.trace.now.notes)) is))
    c.work_all.ensures.works

pub returns-clause-presses : goal.returns-clause-presses
returns-clause-presses g c =
    let is = c.pressed-event.ensures
    ∙ ap (λ (m : ℤ). KeyPressed c.args.key m) (to_z-of_z c.ranges.moment) in
    let put = put_plain _ _ _ _ c.in_ok-push.ensures.ok is in
    presses _ c.args.key c.args.moment c.args.self.now c.take-taken.new.self _ _ _ c.requires.known
    refl
    c.take-taken.ensures.kept c.take-taken.ensures.folder c.requires.ready put
    c.work_all.new.self _ _
    (arrives_on (plain_session c.args.self.now c.args.trace.now.notes) _
    (KeyPressed c.args.key c.args.moment) c.requires.fits.met
    (λ given h. c.in_ok-taken.ensures.arrived given h
    ∙ ap (arrived_by given (plain_session c.args.self.now c.args.trace.now.notes)) is))
    c.work_all.ensures.works

pub returns-clause-whole : goal.returns-clause-whole
returns-clause-whole g c =
    let is = c.pressed-event.ensures
    ∙ ap (λ (m : ℤ). KeyPressed c.args.key m) (to_z-of_z c.ranges.moment) in
    let put = put_plain _ _ _ _ c.in_ok-push.ensures.ok is in
    presses_whole _ c.args.key c.args.moment c.args.self.now c.take-taken.new.self _ _ _
    c.requires.known refl c.take-taken.ensures.kept c.take-taken.ensures.folder
    c.requires.ready put c.work_all.new.self _ _
    (arrives_on (plain_session c.args.self.now c.args.trace.now.notes) _
    (KeyPressed c.args.key c.args.moment) c.requires.fits.met
    (λ given h. c.in_ok-taken.ensures.arrived given h
    ∙ ap (arrived_by given (plain_session c.args.self.now c.args.trace.now.notes)) is))
    c.work_all.ensures.works c.in_ok-work_all.ensures.whole _ c.next.ensures
    c.in_ok-work_all.ensures.settled c.in_ok-work_all.ensures.done

pub work_all-requires-clause-known : goal.work_all-requires-clause-known
work_all-requires-clause-known g c = known_on _ c.args.self.now c.take-taken.new.self
    c.args.trace.now _
    _ _ c.take-taken.ensures.folder refl (looks_same _) c.requires.known
