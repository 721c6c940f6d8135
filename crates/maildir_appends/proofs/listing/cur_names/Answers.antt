use Rattle.disk_model.specs.Journal.{ListDir}
use Rattle.disk_model.specs.Names.{names_in}
use Rattle.folder_drivers.specs.Refusing.{IsAny}
use Rattle.folder_drivers.proofs.Causing.{call_if}
use Rattle.std.proofs.Common.{true, ◌∙◌}
use Rattle.folder_core.specs.Maildir.{directory}
use Rattle.folder_shapes.specs.Maildir.{maildir_files}
use Rattle.folder_shapes.proofs.MaildirLemmas.{a_maildir}
use Rattle.folder_drivers.proofs.FirstLooking as F
use Rattle.folder_drivers.proofs.MetNames as L
use Rattle.folder_drivers.proofs.Preparing as P
use Rattle.maildir_appends.proofs.listing.cur_names.Goals as goal

pub returns-in_err-dir-clause-prepares : goal.returns-in_err-dir-clause-prepares
returns-in_err-dir-clause-prepares g c =
    P.started (maildir_files c.args.path.now) (a_maildir c.args.path.now) _

pub returns-in_err-names-clause-prepares : goal.returns-in_err-names-clause-prepares
returns-in_err-names-clause-prepares g c =
    P.listed (maildir_files c.args.path.now) (a_maildir c.args.path.now)
    c.list.ensures.0.called

pub returns-clause-prepares : goal.returns-clause-prepares
returns-clause-prepares g c =
    P.listed (maildir_files c.args.path.now) (a_maildir c.args.path.now)
    c.list.ensures.0.called

pub returns-in_err-dir-clause-first : goal.returns-in_err-dir-clause-first
returns-in_err-dir-clause-first g c =
    F.not_looked (directory true c.args.path.now) c.from_residual.result _
    c.from_residual.ensures.0

pub returns-in_err-names-clause-first : goal.returns-in_err-names-clause-first
returns-in_err-names-clause-first g c =
    F.refused_if (directory true c.args.path.now) c.from_residual-in_err-names.result
    c.from_residual-in_err-names.ensures.1 c.in_err-names.ensures.0.called

pub returns-clause-first : goal.returns-clause-first
returns-clause-first g c =
    F.found_at (directory true c.args.path.now) (c.as_str.ensures.value ∙ c.in_ok-dir.ensures)
    c.in_ok-names.ensures.0.called

pub returns-clause-saw : goal.returns-clause-saw
returns-clause-saw g c =
    L.saw_listed (c.as_str.ensures.value ∙ c.in_ok-dir.ensures) c.in_ok-names.ensures.0.called

pub returns-in_err-names-clause-cause : goal.returns-in_err-names-clause-cause
returns-in_err-names-clause-cause g c =
    call_if IsAny (λ tree. names_in tree c.as_str.result.now) _ (ListDir c.as_str.result.now)
    c.from_residual-in_err-names.result _ _ tt c.from_residual-in_err-names.ensures.1
    c.in_err-names.ensures.0.called.goes
