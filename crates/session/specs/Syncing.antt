-- What a sync makes of the index.
use Rattle.std.specs.Prelude.{ℕ, List}
use Rattle.folder_changes.specs.declared.sync_error.SyncError.{SyncError}
use Rattle.folder_letters.specs.Letters.{Mail}
use Rattle.index_items.specs.Changes.{Changed}
use Rattle.session_events.specs.Causes.{sync_refusal}
use Rattle.session_index.specs.Syncing.{synced}
use Rattle.session.specs.Core.{CoreState, with_desk}
use Rattle.session.specs.Reading.{left}

-- the index, which is shown, stands as the sync leaves it, and the last line tells of it
abbrev pub synced_core : List Mail → List Changed → CoreState → CoreState
synced_core mails changes c = left (with_desk (synced mails c.kind changes c.desk) c)

-- the last line tells why the folder at a path was not written
abbrev pub unsynced_core : List ℕ → SyncError → CoreState → CoreState
unsynced_core path why c =
    left (with_desk (record c.desk { message = sync_refusal path why }) c)
