use Rattle.folder_stops.proofs.LawsOfFolders.{sync_keeps}
use Rattle.folder_stops.proofs.laws.a_sync_keeps_the_messages.Goals as goal

pub returns : goal.returns
returns c = sync_keeps
