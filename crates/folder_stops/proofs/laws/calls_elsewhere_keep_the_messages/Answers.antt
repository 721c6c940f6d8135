use Rattle.folder_stops.proofs.LawsOfFolders.{elsewhere_keeps, looks_keep}
use Rattle.folder_stops.proofs.laws.calls_elsewhere_keep_the_messages.Goals as goal

pub returns-clause-elsewhere : goal.returns-clause-elsewhere
returns-clause-elsewhere c = elsewhere_keeps

pub returns-clause-looks : goal.returns-clause-looks
returns-clause-looks c = looks_keep
