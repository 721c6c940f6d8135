use Rattle.session_events.proofs.SyncLemmas.{prepares_listed, prepares_once}
use Rattle.session_events.proofs.open_folder.OpenFolder.try_sync.Goals as goal

pub sync-requires-clause-has : goal.sync-requires-clause-has
sync-requires-clause-has g c = rw c.kind.ensures c.requires.has

pub sync-requires-clause-listed : goal.sync-requires-clause-listed
sync-requires-clause-listed g c =
    prepares_listed _ _ c.args.self.now _ c.in-Ok.synced.items c.requires.open c.in-Ok.ensures

pub sync-requires-clause-once : goal.sync-requires-clause-once
sync-requires-clause-once g c =
    prepares_once _ _ c.args.self.now _ c.in-Ok.synced.items c.requires.open c.in-Ok.ensures
