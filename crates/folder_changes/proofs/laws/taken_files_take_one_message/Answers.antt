use Rattle.folder_changes.proofs.MaildirLemmas.{taken_reads, taken_single}
use Rattle.folder_changes.proofs.laws.taken_files_take_one_message.Goals as goal

pub returns : goal.returns
returns c path base old new single takes = (
  taken_single path base old new single takes,
  taken_reads path base old new single takes,
)
