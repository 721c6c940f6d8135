use Rattle.session.specs.Runs.{plain_session}
use Rattle.mutt_run.proofs.TurnLemmas.{met_letters, tells_cut, tells_over, tells_part}
use Rattle.mutt_run.proofs.TurnLemmas.{tells_shown, turned_off}
use Rattle.mutt_run.proofs.turning.tell_and_show.Goals as goal

pub returns-in_err-tell_later-clause-answered : goal.returns-in_err-tell_later-clause-answered
returns-in_err-tell_later-clause-answered g c given same first screens notes goes is before start
    so =
    turned_off (plain_session c.args.session.now c.args.trace.now.notes) _ _
    c.from_residual.ensures.1
    (tells_part given first _ screens notes goes start _ so
    (plain_session c.args.session.now c.args.trace.now.notes) is
    c.args.told before _ _ _ c.in_err-tell_later.ensures.which
    c.in_err-tell_later.ensures.err)

pub returns-in-Quit-clause-answered : goal.returns-in-Quit-clause-answered
returns-in-Quit-clause-answered g c given same first screens notes goes is before start so =
    tells_over given first _ screens notes goes start _ so
    (plain_session c.args.session.now c.args.trace.now.notes) is
    c.args.told before _ _ c.in_ok-tell_later.ensures.ok c.tell_later.ensures.later
    (rw c.in-Quit.is at c.requires.next)

pub returns-in_err-show-in-Go-clause-answered : goal.returns-in_err-show-in-Go-clause-answered
returns-in_err-show-in-Go-clause-answered g c given same first screens notes goes is before start
    so =
    turned_off (plain_session c.args.session.now c.args.trace.now.notes) _ _
    c.from_residual-in_err-show-in-Go.ensures.1
    (tells_cut given first _ screens notes goes start _ so
    (plain_session c.args.session.now c.args.trace.now.notes) is
    c.args.told before _ _ c.in_ok-tell_later.ensures.ok c.tell_later.ensures.later
    (met_letters given _ _ c.requires.fits.met same) _ (rw c.in-Go.is at c.requires.next) _
    c.in_err-show-in-Go.ensures.err)

pub returns-in_ok-show-in-Go-clause-answered : goal.returns-in_ok-show-in-Go-clause-answered
returns-in_ok-show-in-Go-clause-answered g c given same first screens notes goes is before start
    so =
    tells_shown given first _ screens notes goes start _ so
    (plain_session c.args.session.now c.args.trace.now.notes) is
    c.args.told before _ _ c.in_ok-tell_later.ensures.ok c.tell_later.ensures.later
    (met_letters given _ _ c.requires.fits.met same) _ (rw c.in-Go.is at c.requires.next)
    c.in_ok-show-in-Go.ensures.ok
