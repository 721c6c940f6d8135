use Rattle.std.proofs.Common.{Result, map, subst, sym}
use Rattle.std.specs.Prelude.{OnOk}
use Rattle.folder_changes.specs.declared.sync_error.SyncError.{SyncError}
use Rattle.folder_letters.specs.Letters.{plain_letter}
use Rattle.index_items.specs.Changes.{plain_changes}
use Rattle.session.specs.Writing.{TakesTried}
use Rattle.session.proofs.session_type.Session.take_tried.Goals as goal

pub returns-in-Ok-clause-takes : goal.returns-in-Ok-clause-takes
returns-in-Ok-clause-takes c =
    subst (λ (answer : Result (Unit {0}) SyncError). OnOk c.take_synced.result
    (TakesTried (map plain_letter c.args.archive.now.items)
    (plain_changes c.args.changes.now.items) answer c.args.quits c.args.self.now
    c.take_synced.new.self)) (sym c.in-Ok.is) c.take_synced.ensures.takes

pub returns-in-Err-clause-takes : goal.returns-in-Err-clause-takes
returns-in-Err-clause-takes c =
    subst (λ (answer : Result (Unit {0}) SyncError). OnOk c.take_unsynced.result
    (TakesTried (map plain_letter c.args.archive.now.items)
    (plain_changes c.args.changes.now.items) answer c.args.quits c.args.self.now
    c.take_unsynced.new.self)) (sym c.in-Err.is) c.take_unsynced.ensures.takes
