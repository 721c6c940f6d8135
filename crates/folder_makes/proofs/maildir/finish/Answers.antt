use Rattle.folder_makes.specs.Parts.{IsIn, Nowhere, maildir_names}
use Rattle.folder_makes.proofs.Leaving.{maildir_if}
use Rattle.folder_makes.proofs.Maildirs.{finished_not, finished_then}
use Rattle.folder_makes.proofs.maildir.finish.Goals as goal

pub returns-in-Err-clause-part : goal.returns-in-Err-clause-part
returns-in-Err-clause-part g c = finished_not c.args.path.now c.in-Err.why c.in-Err.ensures

pub returns-clause-part : goal.returns-clause-part
returns-clause-part g c =
    finished_then c.args.path.now c.keep_directories.result c.in-Ok.ensures
    c.keep_directories.ensures.part

pub returns-clause-there : goal.returns-clause-there
returns-clause-there g c =
    maildir_if (IsIn c.args.path.now maildir_names) Nowhere c.args.path.now
    c.keep_directories.result _ _ _ c.make_directories.ensures.calls
    c.keep_directories.ensures.there
