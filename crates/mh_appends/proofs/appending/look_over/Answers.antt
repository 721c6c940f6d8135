use Rattle.folder_drivers.proofs.FirstLooking as F
use Rattle.folder_drivers.proofs.MetNames as L
use Rattle.folder_drivers.proofs.Refusing as R
use Rattle.folder_drivers.specs.MetNames.{plain_names}
use Rattle.mh_appends.proofs.Answering.{ready_then}
use Rattle.mh_appends.proofs.Leaving.{grown_grows}
use Rattle.mh_appends.proofs.Meeting.{met_longer}
use Rattle.mh_appends.proofs.Taking.{look_refused}
use Rattle.mh_appends.proofs.Tracing.{met_behind}
use Rattle.disk_model.proofs.Looking.{looks_grows}
use Rattle.folder_drivers.specs.MaildirAppend.{is_there}
use Rattle.folder_drivers.specs.MhNames.{append_path, new_sequences_path}
use Rattle.mh_appends.proofs.appending.look_over.Goals as goal

pub returns-in-Ok-clause-ready : goal.returns-in-Ok-clause-ready
returns-in-Ok-clause-ready g c =
    ready_then c.args.path.now c.list_names.ensures.ready c.in-Ok.ensures.takes

pub returns-in-Ok-clause-first : goal.returns-in-Ok-clause-first
returns-in-Ok-clause-first g c =
    F.found_prepared c.args.path.now c.in_ok-names.ensures.first c.in-Ok.ensures.takes.prepares

pub returns-in-Ok-clause-saw : goal.returns-in-Ok-clause-saw
returns-in-Ok-clause-saw g c =
    L.saw_prepared c.in_ok-names.ensures.saw c.in-Ok.ensures.takes.prepares

pub returns-in-Ok-clause-blames : goal.returns-in-Ok-clause-blames
returns-in-Ok-clause-blames g c =
    R.blames_then _ _ c.in_ok-names.ensures.blames (R.blames_done _ c.in-Ok.ensures.counts)

pub returns-in-Err-clause-ready : goal.returns-in-Err-clause-ready
returns-in-Err-clause-ready g c =
    ready_then c.args.path.now c.list_names.ensures.ready c.in-Err.ensures.takes

pub returns-in-Err-clause-first : goal.returns-in-Err-clause-first
returns-in-Err-clause-first g c =
    F.found_then_refused c.args.path.now
    (F.found_prepared c.args.path.now c.in_ok-names.ensures.first
    c.in-Err.ensures.takes.prepares)

pub returns-in-Ok-clause-met : goal.returns-in-Ok-clause-met
returns-in-Ok-clause-met g c =
    met_longer c.args.path.now (plain_names c.in_ok-names.names) _ _ _ c.in_ok-names.ensures.met
    (grown_grows c.args.path.now _ _ _ c.in-Ok.ensures.takes.only)

pub returns-in-Err-clause-cause : goal.returns-in-Err-clause-cause
returns-in-Err-clause-cause g c =
    look_refused c.args.path.now c.from.result c.in-Err.why c.from.ensures _ _ _
    c.list_names.ensures.looks c.in-Err.ensures.fails

pub returns-in-Ok-clause-empties : goal.returns-in-Ok-clause-empties
returns-in-Ok-clause-empties g c = record {
  side = met_behind (is_there (new_sequences_path c.args.path.now)) _ _ _
      (looks_grows _ _ c.list_names.ensures.looks) c.in-Ok.ensures.taken.empties.side;
  append = met_behind (is_there (append_path c.args.path.now)) _ _ _
      (looks_grows _ _ c.list_names.ensures.looks) c.in-Ok.ensures.taken.empties.append;
}
