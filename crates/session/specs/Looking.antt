-- How a session looks what changed in its folder. For the code alone.
use Rattle.std.specs.Prelude.{◌≡◌, ◌<◌, ◌++◌, ◌⊎◌, ℕ, ℤ, Bool, false, true, List, Result, length}
use Rattle.std.specs.Prelude.{IfOk, OnErr, map}
use Rattle.std.specs.List.{All}
use Rattle.mail_base.specs.Series.{Held}
use Rattle.mail_base.specs.declared.kind.Kind.{Kind}
use Rattle.mail_base.specs.declared.series.NoMemory.{NoMemory as WantOfMemory}
use Rattle.disk_model.specs.Seen.{Seen}
use Rattle.folder_core.specs.Keeping.{IsDifference, ids_differ, mails_of}
use Rattle.folder_core.specs.Right.{mails_rise}
use Rattle.folder_core.specs.declared.error.ScanError.{ScanError}
use Rattle.folder_core.specs.declared.error.ScanError.TheVariants.{NoMemory}
use Rattle.folder_letters.specs.Letters.{Mail, plain_letter}
use Rattle.folder_letters.specs.Listings.{ids_from}
use Rattle.folder_letters.specs.declared.letter.Letter.{Letter}
use Rattle.folder_letters.specs.declared.listing.Found.{Found}
use Rattle.folder_letters.specs.declared.listing.Listed.{Listed}
use Rattle.index_view.specs.View.{IsOf}
use Rattle.session_events.specs.Checking.{IsOpen, standing_over}
use Rattle.session_events.specs.Events.{Happening, CheckRefused, IsCheck, plain_found}
use Rattle.session_events.specs.Happened.{AreNext, IsKnownOf, met_after}
use Rattle.session_events.specs.Telling.{Tells}
use Rattle.session_events.specs.Wishes.{Check, answered}
use Rattle.session_events.specs.declared.event.Marks.{Marks}
use Rattle.session_events.specs.declared.open_folder.OpenFolder.{OpenFolder}
use Rattle.session.specs.Checking.{forgot_by, found_again, refused_again}
use Rattle.session.specs.Core.{plain_core}
use Rattle.session.specs.Fitting.{Fits}
use Rattle.session.specs.Runs.{looked_by, plain_session}
use Rattle.session.specs.declared.session_type.Session.{Session}

-- a cause is told, or that memory was wanting
abbrev pub IsToldAs : ScanError → ScanError → Type 0
IsToldAs why told = (told ≡ why) ⊎ (told ≡ NoMemory)

-- What a scan found of a folder that was known so before it, whose letters came behind others.
pub record FindsNews (mails letters : List Mail) (folder : OpenFolder) (found : Found)
    : Type 0 where
  pub met : folder.met ≡ length mails
  pub added : List Mail
  pub grown : letters ≡ mails ++ added
  pub within : All (λ l. l.id.0 < length mails) folder.listing.items
  pub once : ids_differ folder.listing.items ≡ true
  pub below : All (λ l. l.id.0 < length letters) folder.known.listing
  pub ordered : mails_rise (mails_of letters folder.known.listing) ≡ true
  pub was : List Listed
  pub known : IsKnownOf folder.forgot folder.listing.items was
  pub difference : IsDifference was folder.known.listing found
  pub ids : map (λ listed. listed.id) found.came.items ≡ ids_from folder.met found.came.items

-- The index took in what was found, which was told, and the folder its listing.
pub record TakesIt (quiet : Bool) (letters : List Mail) (moment : ℤ) (old new : Session)
    (found : Found)
    : Type 0 where
  pub difference : IsDifference old.folder.listing.items old.folder.known.listing found
  pub is_of : IsOf letters new.core.desk.view
  pub core : plain_core new.core
      ≡ found_again quiet letters (plain_found found) (plain_core old.core)
  pub rest : new.core ≡ record old.core { desk = new.core.desk }
  pub known : new.folder.known ≡ old.folder.known
  pub listing : new.folder.listing.items ≡ old.folder.known.listing
  pub met : new.folder.met ≡ length letters
  pub forgot : new.folder.forgot ≡ false
  pub refused : new.folder.refused ≡ old.folder.refused
  pub checked : new.folder.checked ≡ moment
  pub same : new ≡ record old { core = new.core; folder = new.folder }

-- what was found was taken in, or all is as before
pub record TakesFound (quiet : Bool) (letters : List Mail) (moment : ℤ) (old new : Session)
    (result : Result Found WantOfMemory) : Type 0 where
  pub ok : IfOk result (TakesIt quiet letters moment old new)
  pub err : OnErr result (new ≡ old)

-- The last line tells why a check was refused, or that memory was wanting, which is told then.
pub record TellsRefusal (why told : ScanError) (old new : Session) : Type 0 where
  pub told_as : IsToldAs why told
  pub core : plain_core new.core ≡ refused_again false told (plain_core old.core)
  pub view : new.core.desk.view ≡ old.core.desk.view
  pub rest : new.core ≡ record old.core { desk = new.core.desk }
  pub same : new ≡ record old { core = new.core }

-- A check was refused at a moment for a cause, as the event tells.
pub record RefusesCheck (quiet : Bool) (why : ScanError) (moment : ℤ) (marks : Marks)
    (old new : Session)
    (event : Happening) : Type 0 where
  pub told : ScanError
  pub told_as : IsToldAs why told
  pub event_is : event ≡ CheckRefused moment told marks
  pub core : plain_core new.core ≡ refused_again quiet told (plain_core old.core)
  pub view : new.core.desk.view ≡ old.core.desk.view
  pub rest : new.core ≡ record old.core { desk = new.core.desk }
  pub folder : new.folder
      ≡ record old.folder { forgot = forgot_by told old.folder.forgot; checked = moment }
  pub same : new ≡ record old { core = new.core; folder = new.folder }

-- The folder was visited, and what was found was taken in, or the event tells why not.
pub record LooksAgain (Has : Kind → Type 0) (quiet : Bool) (moment : ℤ) (old new : Session)
    (archive archive' : List Letter) (event : Happening) (before after : Seen) : Type 0 where
  pub check : IsCheck event
  pub answers : answered event ≡ Check moment
  pub tells : (empty : Kind) → (purges : Bool) → Tells Has
      (standing_over empty old.owner.items purges old.folder) (map plain_letter archive') event
      before after
  pub arrives : (notes : Held (Held ℕ)) → plain_session new notes
      ≡ looked_by quiet (map plain_letter archive') (plain_session old notes) event
  pub next : AreNext old.folder.met event
  pub met : length (map plain_letter archive') ≡ met_after old.folder.met event
  pub added : List Mail
  pub letters : map plain_letter archive' ≡ map plain_letter archive ++ added
  pub known : IsOpen (map plain_letter archive') after.told new.folder
  pub kind : new.folder.known.kind ≡ old.folder.known.kind
  pub checked : new.folder.checked ≡ moment
  pub fits : Fits (map plain_letter archive') new
  pub stage : new.stage ≡ old.stage
  pub window : new.window ≡ old.window
