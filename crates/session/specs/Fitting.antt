-- What holds of a session between its events.
use Rattle.std.specs.Prelude.{◌≡◌, ◌≤◌, List, length}
use Rattle.folder_letters.specs.Letters.{Mail}
use Rattle.index_view.specs.View.{IsOf}
use Rattle.session_events.specs.Events.{Happening, FileRead, FileRefused, KeyPressed}
use Rattle.keymap.specs.Queue.{most_replacements}
use Rattle.session_pager.specs.Reader.{PlainReader, Index}
use Rattle.session_pager.specs.Reads.{plain_reader}
use Rattle.session.specs.Core.{IsOver, Reads}
use Rattle.session_screen.specs.Window.{IsWindow}
use Rattle.session_state.specs.Instants.{IsMoment}
use Rattle.session_state.specs.declared.stage.Stage.{Stage}
use Rattle.session_state.specs.declared.stage.Stage.TheVariants.{Unopened}
use Rattle.session.specs.declared.session_type.Session.{Session}

-- the screen has room for a page, the calendar has the moment at which commands run and keys act,
-- and of the keys that wait not too many were replaced
pub record CanRead (session : Session) : Type 0 where
  pub window : IsWindow session.window
  pub moment : IsMoment session.moment.0
  pub few : session.queue.replaced ≤ most_replacements

-- before a folder is open the index is shown
abbrev pub IsClosedAt : Stage → PlainReader → Type 0
IsClosedAt Unopened reader = reader.showing ≡ Index
IsClosedAt _ reader = Unit {0}

-- what is kept of the message that is shown is of these letters
abbrev pub ReadsAt : Stage → List Mail → Session → Type 0
ReadsAt Unopened mails session = (plain_reader session.core.reader).showing ≡ Index
ReadsAt _ mails session = Reads mails session.window session.core

-- the index is of these letters, and can learn what commands tell it
pub record CanLearn (mails : List Mail) (session : Session) : Type 0 where
  pub is_of : IsOf mails session.core.desk.view
  pub closed : IsClosedAt session.stage (plain_reader session.core.reader)
  pub can : CanRead session

-- index and message are of these letters, and keys can act
pub record CanAct (mails : List Mail) (session : Session) : Type 0 where
  pub over : IsOver mails session.window session.core
  pub can : CanRead session

-- the same of a session at any stage
pub record Fits (mails : List Mail) (session : Session) : Type 0 where
  pub is_of : IsOf mails session.core.desk.view
  pub reads : ReadsAt session.stage mails session
  pub can : CanRead session

-- a session between the events of a run, with the letters that were met
pub record FitsRun (mails : List Mail) (session : Session) : Type 0 where
  pub fits : Fits mails session
  pub met : session.folder.met ≡ length mails

-- what the event of a key or of a file needs of a session, over the letters that were met up to it:
-- a key all that is shown, a file an index that can learn
abbrev pub CanTake : List Mail → Session → Happening → Type 0
CanTake mails session (KeyPressed key moment) =
    IsOver mails session.window session.core × IsMoment moment
CanTake mails session (FileRead path text marks) = CanLearn mails session
CanTake mails session (FileRefused path why marks) = CanLearn mails session
CanTake mails session _ = ⊥

-- commands were run: the rest of the session is as before
pub record IsReadIn (old new : Session) : Type 0 where
  pub view : new.core.desk.view ≡ old.core.desk.view
  pub reader : new.core.reader ≡ old.core.reader
  pub stage : new.stage ≡ old.stage
  pub window : new.window ≡ old.window
  pub moment : new.moment ≡ old.moment
  pub folder : new.folder ≡ old.folder
  pub replaced : new.queue.replaced ≡ old.queue.replaced

-- the index stays before a folder is open
abbrev pub StaysUnopened : Session → Session → Type 0
StaysUnopened old new = old.stage ≡ Unopened → new.core.desk.view ≡ old.core.desk.view

-- what it leaves
abbrev pub IsLeft : List Mail → Session → Session → Happening → Type 0
IsLeft mails old new (KeyPressed key moment) = Fits mails new
IsLeft mails old new _ = Fits mails new × StaysUnopened old new
