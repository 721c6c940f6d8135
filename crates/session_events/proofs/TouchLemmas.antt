-- What our calls changed in an event.
use Rattle.std.proofs.Common.{Option, Some, None, List, ℕ, ◌≡◌, subst, sym}
use Rattle.mail_base.specs.declared.kind.Kind.{Kind}
use Rattle.mail_base.specs.declared.kind.Kind.TheVariants.{Mbox}
use Rattle.disk_model.specs.Journal.{Past}
use Rattle.disk_model.specs.Judge.{Grows}
use Rattle.disk_model.specs.Looking.{LooksOnly}
use Rattle.disk_model.specs.Seen.{Seen}
use Rattle.disk_model.proofs.Looking.{looks_grows}
use Rattle.folder_drivers.specs.Synced.{sync_row}
use Rattle.folder_letters.specs.Letters.{Mail}
use Rattle.folder_stops.proofs.Does.{does_looked}
use Rattle.session_events.specs.Events.{Happening, FileRead, FileRefused, FolderOpened}
use Rattle.session_events.specs.Events.{FolderRefused, FolderChecked, CheckRefused, FolderSynced}
use Rattle.session_events.specs.Events.{SyncRefused, IsFile}
use Rattle.session_events.specs.Happened.{Standing}
use Rattle.session_events.specs.Telling.{MayTouch, Tells, Touches}
use Rattle.session_events.specs.Visits.{TouchesAlone}

-- looks touch nothing
pub looks_alone : (kind : Kind) (path : List ℕ) (a b : Option Past) → LooksOnly a b
    → TouchesAlone kind path a b
looks_alone kind path a b looks =
    does_looked ((sync_row kind).home path) ((sync_row kind).making path) None looks

pub looks_may : (path : List ℕ) (a b : Option Past) → LooksOnly a b → MayTouch path a b
looks_may path a b looks = (Mbox, looks_alone Mbox path a b looks)

-- a folder by the name of its path
pub alone_named : (kind : Kind) (path name : List ℕ) (a b : Option Past) → name ≡ path
    → TouchesAlone kind path a b → TouchesAlone kind name a b
alone_named kind path name a b named touches =
    subst (λ (n : List ℕ). TouchesAlone kind n a b) (sym named) touches

pub may_named : (path name : List ℕ) (a b : Option Past) → name ≡ path → MayTouch path a b
    → MayTouch name a b
may_named path name a b named touches =
    subst (λ (n : List ℕ). MayTouch n a b) (sym named) touches

-- the event of a file only looks
pub file_touch : (at : Standing) (event : Happening) (a b : Option Past) → IsFile event
    → LooksOnly a b → Touches at event a b
file_touch at (FileRead path text marks) a b file looks = looks
file_touch at (FileRefused path why marks) a b file looks = looks
file_touch at _ a b file looks = absurd file

-- what is told of the past only grows
alone_grows : (kind : Kind) (path : List ℕ) (a b : Option Past) → TouchesAlone kind path a b
    → Grows a b
alone_grows kind path None b touches = touches.grown
alone_grows kind path (Some old) None touches = absurd touches.grown
alone_grows kind path (Some old) (Some new) touches = record {
  same_first = touches.grown.same_first;
  more = touches.grown.more;
  journal = touches.grown.journal;
}

pub touch_grows : (at : Standing) (event : Happening) (a b : Option Past) → Touches at event a b
    → Grows a b
touch_grows at (FolderOpened path kind moment came marks) a b touches =
    alone_grows kind path a b touches
touch_grows at (FolderRefused path why marks) a b touches = alone_grows touches.0 path a b touches.1
touch_grows at (FolderChecked moment found marks) a b touches =
    alone_grows at.kind at.path a b touches
touch_grows at (CheckRefused moment why marks) a b touches =
    alone_grows at.kind at.path a b touches
touch_grows at (FolderSynced changes marks) a b touches = alone_grows at.kind at.path a b touches
touch_grows at (SyncRefused changes why marks) a b touches =
    alone_grows at.kind at.path a b touches
touch_grows at _ a b touches = looks_grows a b touches

pub tells_grow : {Has : Kind → Type 0} {at : Standing} {mails : List Mail} {event : Happening}
    {old new : Seen} → Tells Has at mails event old new → Grows old.told new.told
tells_grow {Has} {at} {mails} {event} {old} {new} tells =
    touch_grows at event old.told new.told tells.touches
