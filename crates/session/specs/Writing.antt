-- How a session writes its folder. For the code alone.
use Rattle.std.specs.Prelude.{◌≡◌, ℕ, Bool, false, List, Result, Ok, Err, OnOk}
use Rattle.mail_base.specs.Series.{Held}
use Rattle.mail_base.specs.declared.kind.Kind.{Kind}
use Rattle.mail_base.specs.declared.series.NoMemory.{NoMemory}
use Rattle.disk_model.specs.Seen.{Seen}
use Rattle.folder_changes.specs.declared.sync_error.SyncError.{SyncError}
use Rattle.folder_letters.specs.Letters.{Mail}
use Rattle.index_items.specs.Changes.{Changed}
use Rattle.index_view.specs.View.{IsOf}
use Rattle.rc_lang.specs.declared.variable.Variable.TheVariants.{MhPurge}
use Rattle.session_events.specs.Checking.{IsOpen, standing_over}
use Rattle.session_events.specs.Events.{Happening, IsSync, plain_refusal}
use Rattle.session_events.specs.Telling.{Tells}
use Rattle.session_events.specs.Wishes.{Sync, answered}
use Rattle.session_screen.specs.Tuning.{is_set}
use Rattle.session_state.specs.declared.stage.Stage.TheVariants.{Checking}
use Rattle.session.specs.Checking.{IsIndexShown}
use Rattle.session.specs.Core.{CoreState, plain_core}
use Rattle.session.specs.Fitting.{Fits}
use Rattle.session.specs.Runs.{plain_session, written_by}
use Rattle.session.specs.Syncing.{synced_core, unsynced_core}
use Rattle.session.specs.declared.session_type.Session.{Session}

-- The index stands behind a sync as this core says, and the folder is to be checked.
pub record TakesWrite (mails : List Mail) (core : CoreState) (leaves : Bool) (old new : Session)
    : Type 0 where
  pub is_of : IsOf mails new.core.desk.view
  pub core_is : plain_core new.core ≡ core
  pub same : new ≡ record old { core = new.core; stage = Checking leaves }

-- what a sync that was answered so makes of a session
abbrev pub TakesTried : List Mail → List Changed → Result (Unit {0}) SyncError → Bool → Session
    → Session → Type 0
TakesTried mails changes (Ok done) quits old new =
    TakesWrite mails (synced_core mails changes (plain_core old.core)) quits old new
TakesTried mails changes (Err why) quits old new = TakesWrite mails
    (unsynced_core old.folder.known.path (plain_refusal why) (plain_core old.core)) false old new

-- A folder was written, or was not, and what came of it was taken in as far as memory went.
pub record WritesFolder (Has : Kind → Type 0) (changes : List Changed) (quits : Bool)
    (old new : Session) (letters : List Mail) (event : Happening)
    (taken : Result (Unit {0}) NoMemory) (before after : Seen) : Type 0 where
  pub sync : IsSync event
  pub answers : answered event ≡ Sync changes
  pub tells : (empty : Kind) → Tells Has (standing_over empty old.owner.items
      (is_set (plain_core old.core).rules.settings MhPurge) old.folder) letters event before after
  pub arrives : OnOk taken ((notes : Held (Held ℕ)) → plain_session new notes
      ≡ written_by quits letters (plain_session old notes) event)
  pub known : IsOpen letters after.told new.folder
  pub kind : new.folder.known.kind ≡ old.folder.known.kind
  pub met : new.folder.met ≡ old.folder.met
  pub checked : new.folder.checked ≡ old.folder.checked
  pub window : new.window ≡ old.window
  pub fits : OnOk taken (Fits letters new)
  pub index : OnOk taken (IsIndexShown (plain_core new.core))
