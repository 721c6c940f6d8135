use Rattle.folder_changes.proofs.StateLemmas.{removal_takes}
use Rattle.folder_changes.proofs.laws.own_removals_take_files.Goals as goal

pub returns : goal.returns
returns c path file state single shown done = removal_takes path file state single shown done
