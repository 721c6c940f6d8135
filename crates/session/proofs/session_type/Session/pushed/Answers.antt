use Rattle.std.proofs.Common.{refl}
use Rattle.session.proofs.CallsLemmas.{known_on}
use Rattle.disk_model.proofs.Looking.{looks_same}
use Rattle.session.proofs.PressLemmas.{pushes, pushes_off, pushes_whole}
use Rattle.session.proofs.StepsLemmas.{pushes_on}
use Rattle.session.specs.Runs.{plain_session}
use Rattle.session.proofs.session_type.Session.pushed.Goals as goal

pub returns-in_err-push_keys-clause-pushes : goal.returns-in_err-push_keys-clause-pushes
returns-in_err-push_keys-clause-pushes g c =
    pushes_off _ c.args.self.now c.push_keys.new.self _ _ _ c.requires.known refl refl refl
    c.push_keys.ensures.kept
    c.push_keys.ensures.folder

pub returns-in_err-work_all-clause-pushes : goal.returns-in_err-work_all-clause-pushes
returns-in_err-work_all-clause-pushes g c =
    pushes _ c.args.self.now c.push_keys.new.self _ _ _ c.requires.known refl refl refl
    c.push_keys.ensures.kept
    c.push_keys.ensures.folder c.work_all.new.self _ _
    (pushes_on (plain_session c.args.self.now c.args.trace.now.notes) _ c.requires.fits.met
    (λ given is. c.in_ok-push_keys.ensures.pushed given is c.args.trace.now.notes))
    c.work_all.ensures.works

pub returns-clause-pushes : goal.returns-clause-pushes
returns-clause-pushes g c =
    pushes _ c.args.self.now c.push_keys.new.self _ _ _ c.requires.known refl refl refl
    c.push_keys.ensures.kept
    c.push_keys.ensures.folder c.work_all.new.self _ _
    (pushes_on (plain_session c.args.self.now c.args.trace.now.notes) _ c.requires.fits.met
    (λ given is. c.in_ok-push_keys.ensures.pushed given is c.args.trace.now.notes))
    c.work_all.ensures.works

pub returns-clause-whole : goal.returns-clause-whole
returns-clause-whole g c =
    pushes_whole _ c.args.self.now c.push_keys.new.self _ _ _ c.requires.known refl refl refl
    c.push_keys.ensures.kept c.push_keys.ensures.folder c.work_all.new.self _ _
    (pushes_on (plain_session c.args.self.now c.args.trace.now.notes) _ c.requires.fits.met
    (λ given is. c.in_ok-push_keys.ensures.pushed given is c.args.trace.now.notes))
    c.work_all.ensures.works c.in_ok-work_all.ensures.whole _ c.next.ensures
    c.in_ok-work_all.ensures.settled c.in_ok-work_all.ensures.done

pub work_all-requires-clause-known : goal.work_all-requires-clause-known
work_all-requires-clause-known g c = known_on _ c.args.self.now c.push_keys.new.self
    c.args.trace.now _
    _ _ c.push_keys.ensures.folder refl (looks_same _) c.requires.known
