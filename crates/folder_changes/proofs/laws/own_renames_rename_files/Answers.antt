use Rattle.folder_changes.proofs.StateLemmas.{rename_renames}
use Rattle.folder_changes.proofs.laws.own_renames_rename_files.Goals as goal

pub returns : goal.returns
returns c path from to added cleared state single shown_from shown_to same flags done =
    rename_renames path from to added cleared state single shown_from shown_to same flags done
