use Rattle.disk_model.proofs.LawsOfAppends.{appended_is_torn, appended_may_be_torn}
use Rattle.disk_model.proofs.LawsOfAppends.{synced_append_stands}
use Rattle.disk_model.proofs.LawsOfNames.{names_are_of_files}
use Rattle.disk_model.proofs.laws.an_appended_piece_may_be_torn_until_it_is_synced.Goals as goal

pub returns-clause-torn : goal.returns-clause-torn
returns-clause-torn c = appended_is_torn

pub returns-clause-any : goal.returns-clause-any
returns-clause-any c = appended_may_be_torn

pub returns-clause-synced : goal.returns-clause-synced
returns-clause-synced c = synced_append_stands

pub returns-clause-named : goal.returns-clause-named
returns-clause-named c = names_are_of_files
