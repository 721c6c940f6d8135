use Rattle.folder_stops.proofs.LawsOfFolders.{kept_is_rest, rest_is_kept}
use Rattle.folder_stops.proofs.laws.what_is_kept_is_all_but_some.Goals as goal

pub returns-clause-kept : goal.returns-clause-kept
returns-clause-kept c = kept_is_rest

pub returns-clause-rest : goal.returns-clause-rest
returns-clause-rest c = rest_is_kept
