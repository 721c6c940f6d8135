use Rattle.std.proofs.Common.{◌∙◌, FitsSigned, List, ap, arith, map, sym, w64, ℕ}
use Rattle.std.proofs.Math.Facts.{to_z-of_z}
use Rattle.jiff_core.proofs.SignedLemmas.{signed_arith}
use Rattle.std.proofs.lemmas.Result.{on_ok_weaker}
use Rattle.folder_letters.specs.Letters.{plain_letter}
use Rattle.session_events.specs.Events.{plain_event}
use Rattle.session_events.specs.declared.event.Event.{Event}
use Rattle.session.specs.Runs.{arrived_by, plain_session, read_in, read_on, typed}
use Rattle.session.proofs.FittingLemmas.{learn_in}
use Rattle.session.proofs.GivenLemmas.{keeps_then}
use Rattle.session.proofs.session_type.Session.take.Goals as goal

pub read_on-requires : goal.read_on-requires
read_on-requires g c =
    learn_in (map plain_letter c.args.archive.now.items) c.args.self.now c.read.new.self
    c.read.ensures.rest (rw c.in-Sourced.is at c.requires.fits)

pub read_on-requires-in-NotSourced : goal.read_on-requires-in-NotSourced
read_on-requires-in-NotSourced g c =
    learn_in (map plain_letter c.args.archive.now.items) c.args.self.now c.skip.new.self
    c.skip.ensures.rest (rw c.in-NotSourced.is at c.requires.fits)

pub returns-in_ok-read-in-Sourced-clause-arrived : goal.returns-in_ok-read-in-Sourced-clause-arrived
returns-in_ok-read-in-Sourced-clause-arrived g c =
    on_ok_weaker c.read_on.result (λ on given is. on given is c.read.new.notes
    ∙ ap (read_on given) (c.in_ok-read-in-Sourced.ensures.read given.verdicts
    (keeps_then c.read_on.ensures.kept is.keeps)
    ∙ ap (λ (t : List ℕ). read_in given.verdicts t (plain_session c.args.self.now c.args.notes.now))
    c.as_slice.ensures)
    ∙ ap (λ (e : Event). arrived_by given (plain_session c.args.self.now c.args.notes.now)
    (plain_event e)) (sym c.in-Sourced.is))
    c.read_on.ensures.on

pub returns-in_ok-skip-in-NotSourced-clause-arrived :
    goal.returns-in_ok-skip-in-NotSourced-clause-arrived
returns-in_ok-skip-in-NotSourced-clause-arrived g c =
    on_ok_weaker c.read_on-in-NotSourced.result (λ on given is. on given is c.skip.new.notes
    ∙ ap (read_on given) (c.in_ok-skip-in-NotSourced.ensures.skipped given.verdicts
    (keeps_then c.read_on-in-NotSourced.ensures.kept is.keeps))
    ∙ ap (λ (e : Event). arrived_by given (plain_session c.args.self.now c.args.notes.now)
    (plain_event e)) (sym c.in-NotSourced.is))
    c.read_on-in-NotSourced.ensures.on

pub type_in-requires-clause-over : goal.type_in-requires-clause-over
type_in-requires-clause-over g c =
    (c.take_key.ensures.act (map plain_letter c.args.archive.now.items)
    (record { over = (rw c.in-Pressed.is at c.requires.fits).0; can = c.requires.read })).over

pub returns-in-Pressed-clause-arrived : goal.returns-in-Pressed-clause-arrived
returns-in-Pressed-clause-arrived g c =
    let now = (rw c.in-Pressed.is at c.requires.fits).1 in
    let fits : FitsSigned w64 c.in-Pressed.moment =
    omega (arith, signed_arith, now.low, now.high) in
    on_ok_weaker c.type_in.result (λ types given is. types given is c.args.notes.now
    ∙ ap (typed given c.in-Pressed.key c.in-Pressed.moment)
    (c.take_key.ensures.taken c.args.notes.now)
    ∙ ap (λ (e : Event). arrived_by given (plain_session c.args.self.now c.args.notes.now)
    (plain_event e)) (sym c.in-Pressed.is))
    (rw (to_z-of_z fits) at c.type_in.ensures.typed)
