use Rattle.folder_drivers.proofs.Causing.{call_if}
use Rattle.std.proofs.Common.{refl}
use Rattle.disk_model.specs.Journal.{MakeDir}
use Rattle.disk_model.specs.Judge.{done_by}
use Rattle.folder_changes.proofs.TraceLemmas.{calls_one}
use Rattle.folder_drivers.specs.Refusing.{IsMake}
use Rattle.folder_shapes.specs.Maildir.{maildir_files}
use Rattle.folder_shapes.proofs.MaildirLemmas.{a_maildir}
use Rattle.folder_drivers.proofs.Preparing as P
use Rattle.maildir_appends.proofs.listing.make_dir.Goals as goal

pub returns-in_err-make_dir-clause-prepares : goal.returns-in_err-make_dir-clause-prepares
returns-in_err-make_dir-clause-prepares g c =
    P.dir_made (maildir_files c.args.path.now) (a_maildir c.args.path.now) c.requires.apart
    c.requires.inside c.make_dir.ensures.called

pub returns-clause-prepares : goal.returns-clause-prepares
returns-clause-prepares g c =
    P.dir_made (maildir_files c.args.path.now) (a_maildir c.args.path.now) c.requires.apart
    c.requires.inside c.make_dir.ensures.called

pub returns-in_err-make_dir-clause-calls : goal.returns-in_err-make_dir-clause-calls
returns-in_err-make_dir-clause-calls g c =
    calls_one (IsMake c.args.dir.now) _ (MakeDir c.args.dir.now) (done_by (MakeDir c.args.dir.now))
    _ _ refl c.make_dir.ensures.called.goes

pub returns-clause-calls : goal.returns-clause-calls
returns-clause-calls g c =
    calls_one (IsMake c.args.dir.now) _ (MakeDir c.args.dir.now) (done_by (MakeDir c.args.dir.now))
    _ _ refl c.make_dir.ensures.called.goes

pub returns-in_err-make_dir-clause-cause : goal.returns-in_err-make_dir-clause-cause
returns-in_err-make_dir-clause-cause g c =
    call_if (IsMake c.args.dir.now) (λ tree. tt {0}) _ (MakeDir c.args.dir.now)
    c.from_residual.result _ _ refl c.from_residual.ensures.1 c.in_err-make_dir.ensures.called.goes
