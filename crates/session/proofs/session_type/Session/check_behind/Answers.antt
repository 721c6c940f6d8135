use Rattle.std.proofs.Common.{FitsSigned, arith, refl, subst, sym, w64}
use Rattle.std.proofs.Math.Facts.{to_z-of_z}
use Rattle.jiff_core.proofs.SignedLemmas.{signed_arith}
use Rattle.session_state.specs.declared.stage.Stage.{Stage}
use Rattle.session.specs.Steps.{IsChecking}
use Rattle.session_state.specs.Instants.{IsMoment}
use Rattle.session.proofs.BehindLemmas.{ok_both, whole_check, works_check}
use Rattle.session.proofs.CheckedLemmas.{looks_at, ok_given}
use Rattle.session.proofs.StepsLemmas.{put_plain}
use Rattle.session.proofs.session_type.Session.check_behind.Goals as goal

pub look_again-event-requires-clause-moment : goal.look_again-event-requires-clause-moment
look_again-event-requires-clause-moment g c =
    let now = c.requires.fits.fits.can.moment in
    let fits : FitsSigned w64 c.args.self.now.moment.0 =
    omega (arith, signed_arith, now.low, now.high) in
    subst IsMoment (sym (to_z-of_z fits)) now

pub go_on_behind-requires-clause-checking : goal.go_on_behind-requires-clause-checking
go_on_behind-requires-clause-checking g c =
    subst (λ (stage : Stage). IsChecking stage) (sym c.look_again-event.ensures.stage)
    c.requires.checking

pub returns-clause-works : goal.returns-clause-works
returns-clause-works g c =
    let now = c.requires.fits.fits.can.moment in
    let fits : FitsSigned w64 c.args.self.now.moment.0 =
    omega (arith, signed_arith, now.low, now.high) in
    works_check _ c.args.self.now c.look_again-event.new.self
    c.go_on_behind.new.self _ _ _ _ _ c.requires.checking c.requires.fits c.requires.known
    now (looks_at (to_z-of_z fits) c.look_again-event.ensures)
    (put_plain _ _ _ _ (ok_given _ c.push.result
    (c.push.ensures.has_room (omega (arith, c.requires.room))) c.push.ensures.ok) refl) refl
    c.go_on_behind.ensures.kept c.go_on_behind.ensures.window c.go_on_behind.ensures.folder

pub returns-clause-whole : goal.returns-clause-whole
returns-clause-whole g c =
    let now = c.requires.fits.fits.can.moment in
    let fits : FitsSigned w64 c.args.self.now.moment.0 =
    omega (arith, signed_arith, now.low, now.high) in
    let check = whole_check _ c.args.self.now c.look_again-event.new.self
    c.go_on_behind.new.self _ _ _ _ _ c.requires.checking c.requires.fits c.requires.known
    now (looks_at (to_z-of_z fits) c.look_again-event.ensures)
    (put_plain _ _ _ _ (ok_given _ c.push.result
    (c.push.ensures.has_room (omega (arith, c.requires.room))) c.push.ensures.ok) refl) refl
    c.go_on_behind.ensures.kept c.go_on_behind.ensures.window c.go_on_behind.ensures.folder in
    ok_both c.go_on_behind.result c.go_on_behind.ensures.on c.go_on_behind.ensures.fits check
