use Rattle.folder_changes.proofs.MaildirLemmas.{renamed_reads, renamed_single}
use Rattle.folder_changes.proofs.laws.renamed_files_change_one_message.Goals as goal

pub returns : goal.returns
returns c path base change old new single renames = (
  renamed_single path base old new single change renames,
  renamed_reads path base old new single change renames,
)
