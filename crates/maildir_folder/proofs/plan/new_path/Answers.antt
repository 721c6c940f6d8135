use Rattle.maildir_folder.proofs.PlanLemmas.{goes_renamed}
use Rattle.maildir_folder.proofs.plan.new_path.Goals as goal

pub returns-in_ok-file_path-in-Alter : goal.returns-in_ok-file_path-in-Alter
returns-in_ok-file_path-in-Alter c =
    goes_renamed c.args.path.now c.args.file.now c.in_ok-target-in-Alter.target c.args.change
    c.in-Alter.delta _ c.in-Alter.is c.in_ok-target-in-Alter.ensures.each
    c.in_ok-target-in-Alter.ensures.name
    c.in_ok-target-in-Alter.ensures.base c.in_ok-target-in-Alter.ensures.flags
    c.in_ok-file_path-in-Alter.ensures
