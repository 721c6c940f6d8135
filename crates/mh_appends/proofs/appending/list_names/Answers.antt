use Rattle.std.proofs.Common.{refl}
use Rattle.folder_drivers.proofs.FirstLooking as F
use Rattle.folder_drivers.proofs.MetNames as L
use Rattle.mh_appends.proofs.Answering.{listed}
use Rattle.mh_appends.proofs.Meeting.{met_listing}
use Rattle.mh_appends.proofs.Taking.{list_refused}
use Rattle.mh_appends.proofs.appending.list_names.Goals as goal

pub returns-in_err-names-clause-ready : goal.returns-in_err-names-clause-ready
returns-in_err-names-clause-ready g c = listed c.args.path.now c.list.ensures.0.called

pub returns-clause-ready : goal.returns-clause-ready
returns-clause-ready g c = listed c.args.path.now c.list.ensures.0.called

pub returns-in_err-names-clause-first : goal.returns-in_err-names-clause-first
returns-in_err-names-clause-first g c =
    F.refused_if c.args.path.now c.from_residual.result c.from_residual.ensures.1
    c.in_err-names.ensures.0.called

pub returns-clause-first : goal.returns-clause-first
returns-clause-first g c = F.found_at c.args.path.now refl c.in_ok-names.ensures.0.called

pub returns-clause-saw : goal.returns-clause-saw
returns-clause-saw g c = L.saw_listed refl c.in_ok-names.ensures.0.called

pub returns-in_err-names-clause-cause : goal.returns-in_err-names-clause-cause
returns-in_err-names-clause-cause g c =
    list_refused c.args.path.now c.from_residual.result _ _ _ c.from_residual.ensures.1
    c.in_err-names.ensures.0.called

pub returns-clause-met : goal.returns-clause-met
returns-clause-met g c =
    met_listing c.args.path.now c.in_ok-names.ensures.0 c.in_ok-names.ensures.1.0
