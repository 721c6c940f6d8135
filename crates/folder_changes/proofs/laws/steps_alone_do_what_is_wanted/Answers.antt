use Rattle.folder_changes.proofs.StepLemmas.{works_alone}
use Rattle.folder_changes.proofs.laws.steps_alone_do_what_is_wanted.Goals as goal

pub returns : goal.returns
returns c kind what reads_at m n past alone works on =
    works_alone kind what reads_at m n past alone works on
