use Rattle.std.proofs.Common.{rules}
use Rattle.session_events.proofs.SyncLemmas.{syncs_open}
use Rattle.session_events.proofs.open_folder.OpenFolder.sync.Goals as goal

pub returns : goal.returns
returns g c =
    syncs_open _ c.args.owner.now c.args.purge_files _ _ c.args.self.now
    c.try_sync-answer.new.self _ _ _ c.requires.open (search rules) (search rules) (search rules) (search rules)
    c.try_sync-answer.result c.is_err-self.result (search rules) c.try_sync-answer.ensures
