-- What the opening of a folder has seen, and what it leaves.
use Rattle.std.specs.Prelude.{◌≡◌, ◌≤◌, ℕ, ℤ, false, List, [], length, Option, Some, None, Result}
use Rattle.std.specs.Prelude.{Ok, Err}
use Rattle.std.specs.Prelude.{IfOk, IfErr, OnErr}
use Rattle.mail_base.specs.declared.kind.Kind.{Kind}
use Rattle.disk_model.specs.Journal.{Past}
use Rattle.disk_model.specs.Judge.{GoesOn}
use Rattle.disk_model.specs.Seen.{Seen}
use Rattle.folder_core.specs.Right.{Right}
use Rattle.folder_letters.specs.Letters.{Mail}
use Rattle.folder_letters.specs.declared.listing.Listed.{Listed}
use Rattle.session_events.specs.Events.{Happening, FolderOpened}
use Rattle.session_events.specs.Events.{FolderRefused}
use Rattle.session_events.specs.Happened.{IsCause, IsFresh, IsListed, Standing, WasOpened}
use Rattle.session_events.specs.Happened.{WasRefused}
use Rattle.session_events.specs.Wishes.{Open, answered}
use Rattle.session_events.specs.Telling.{MayTouch, Tells}
use Rattle.session_events.specs.Visits.{TouchesAlone}
use Rattle.folder_core.specs.declared.error.ScanError.TheVariants.{Fault, NoMemory}
use Rattle.session_events.specs.declared.event.OpenFault.{OpenFault}
use Rattle.session_events.specs.declared.event.OpenFault.TheVariants.{Folder}
use Rattle.session_events.specs.declared.setup.StartError.{StartError}
use Rattle.session_events.specs.declared.setup.StartError.TheVariants as error
use Rattle.session_events.specs.declared.open_folder.OpenFolder.{OpenFolder}
use Rattle.session_events.specs.declared.opening.Opened.{Opened}

-- what was read at a path, or why not, as the journal shows it
abbrev pub WasLooked : (Kind → Type 0) → Kind → List ℕ → List Mail → List ℕ
    → Result Opened OpenFault → Past → Past → Type 0
WasLooked Has empty owner archive path (Ok opened) old new =
    WasOpened empty owner archive path opened.kind opened.came.items old new
WasLooked Has empty owner archive path (Err why) old new =
    WasRefused Has empty owner path why old new

-- our calls changed the folder that is looked for alone
abbrev pub TouchesRead : List ℕ → Result Opened OpenFault → Option Past → Option Past → Type 0
TouchesRead path (Ok opened) old new = TouchesAlone opened.kind path old new
TouchesRead path (Err why) old new = MayTouch path old new

-- A folder that was opened: where it is, its kind and its messages; what is known of it is right.
pub record OpensFolder (letters : List Mail) (told : Option Past) (path : List ℕ) (kind : Kind)
    (moment : ℤ) (came : List Listed) (folder : OpenFolder) : Type 0 where
  pub path_is : folder.known.path ≡ path
  pub kind_is : folder.known.kind ≡ kind
  pub listed : folder.known.listing ≡ came
  pub right : Right kind letters folder.known told
  pub listing : folder.listing.items ≡ came
  pub met : folder.met ≡ length letters
  pub forgot : folder.forgot ≡ false
  pub refused : folder.refused ≡ false
  pub checked : folder.checked ≡ moment

-- What the reading of a folder into an empty archive has seen, and what it leaves.
pub record ReadsFolder (Has : Kind → Type 0) (empty : Kind) (owner : List ℕ) (moment : ℤ)
    (archive : List Mail) (path : List ℕ) (result : Result Opened OpenFault) (old new : Seen)
    : Type 0 where
  pub looked : GoesOn (WasLooked Has empty owner archive path result) old.told new.told
  pub here : TouchesRead path result old.told new.told
  pub cause : IfErr result (λ why. IsCause Has why old.faults new.faults)
  pub driver : IfOk result (λ opened. Has opened.kind)
  pub folder : IfOk result (λ opened. OpensFolder archive new.told path opened.kind moment
      opened.came.items opened.folder)
  pub fresh : IfOk result (λ opened. IsFresh archive opened.came.items)
  pub none : OnErr result (archive ≡ [])
  pub marks : old.marks ≤ new.marks
  pub faults : old.faults ≤ new.faults

-- the event is that of a folder which was to be opened at a moment
abbrev pub IsOpening : ℤ → Happening → Type 0
IsOpening moment (FolderOpened path kind at came marks) = at ≡ moment
IsOpening moment (FolderRefused path why marks) = Unit {0}
IsOpening moment _ = ⊥

-- the folder behind the event of an opening, or why it was not opened
abbrev pub IsOpenAs : List Mail → Option Past → Happening → Result OpenFolder OpenFault → Type 0
IsOpenAs letters told (FolderOpened path kind at came marks) (Ok folder) =
    OpensFolder letters told path kind at came folder
IsOpenAs letters told (FolderRefused path why marks) (Err cause) = why ≡ cause
IsOpenAs letters told _ _ = ⊥

-- why the folder was not opened
abbrev pub refusal_of : Happening → Option OpenFault
refusal_of (FolderRefused path why marks) = Some why
refusal_of _ = None

-- The folder at a path was looked for, and this is what happened.
pub record OpensPath (Has : Kind → Type 0) (at : Standing) (path : List ℕ) (moment : ℤ)
    (letters : List Mail) (event : Happening)
    (answer : Result OpenFolder OpenFault) (old new : Seen) : Type 0 where
  pub tells : Tells Has at letters event old new
  pub answers : answered event ≡ Open path
  pub listed : IsListed letters event
  pub opening : IsOpening moment event
  pub answer_is : IsOpenAs letters new.told event answer

-- For the code alone.

-- how a start ends with this cause
abbrev pub start_error : OpenFault → StartError
start_error (Folder Fault) = error.DiskFault
start_error (Folder NoMemory) = error.NoMemory
start_error why = error.NotOpened why
