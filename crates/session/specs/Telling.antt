-- How the events tell of the disk.
use Rattle.std.specs.Prelude.{◌≡◌, List, [], ◌∷◌, Option, Some, None, Result, Ok, Err}
use Rattle.std.specs.Prelude.{Bool}
use Rattle.mail_base.specs.declared.kind.Kind.{Kind}
use Rattle.mail_base.specs.declared.series.NoMemory.{NoMemory}
use Rattle.disk_model.specs.Journal.{Past}
use Rattle.disk_model.specs.Judge.{IsLonger}
use Rattle.disk_model.specs.Seen.{Seen}
use Rattle.session_events.specs.Events.{Happening}
use Rattle.session_events.specs.Happened.{AllCounted, IsTrueAt, Standing, counts_at, counts_of}
use Rattle.session_events.specs.Happened.{marks_of, past_at}
use Rattle.session_events.specs.Telling.{Touches}
use Rattle.session_events.specs.declared.event.Marks.{Marks}
use Rattle.rc_lang.specs.declared.variable.Variable.TheVariants.{MhPurge}
use Rattle.session_screen.specs.Tuning.{is_set}
use Rattle.session_events.specs.declared.event.Event.{Event}
use Rattle.session_screen.specs.Places.{new_kind}
use Rattle.session.specs.Given.{Given}
use Rattle.session.specs.Runs.{State, after}

-- the kind of an empty file is the one that is set when the event begins
abbrev pub kind_in : State → Kind
kind_in s = new_kind s.turn.core.rules.settings

-- files of discarded messages are removed, as the variable says (nmh's "rmm -unlink")
abbrev pub purges_in : State → Bool
purges_in s = is_set s.turn.core.rules.settings MhPurge

-- what an event speaks of in the state before it
abbrev pub standing_of : State → Standing
standing_of s = record {
  empty = kind_in s;
  owner = s.owner;
  purges = purges_in s;
  path = s.folder.path;
  kind = s.folder.kind;
  listing = s.listing;
  met = s.met;
  forgot = s.forgot;
}

-- our calls in an event touched what it may touch alone
abbrev pub TouchesAt : Standing → Happening → Option Marks → Past → Type 0
TouchesAt at event None past = Unit {0}
TouchesAt at event (Some marks) past = Touches at event (Some (past_at past marks.mark_before))
    (Some (past_at past marks.mark_after))

-- each event from this state on is true, and touched what it may touch alone
abbrev pub AllHappened : (Kind → Type 0) → Given → State → List Happening → Past → Type 0
AllHappened Has given s [] past = Unit {0}
AllHappened Has given s (event ∷ events) past =
    IsTrueAt Has (standing_of s) given.mails event (marks_of event) past
    × TouchesAt (standing_of s) event (marks_of event) past
    × AllHappened Has given (after given s event) events past

-- where a past is told, it stays told; where it is not, it stays untold
abbrev pub IsTold : (Kind → Type 0) → Given → State → List Happening → Option Past → Option Past
    → Type 0
IsTold Has given s events None now = now ≡ None
IsTold Has given s events (Some first) None = ⊥
IsTold Has given s events (Some first) (Some now) =
    IsLonger first now × AllHappened Has given s events now

-- What the events from a state on say of the disk is true, and they tile the journal.
pub record Witnessed (Has : Kind → Type 0) (given : Given) (s : State)
    (events : List Happening) (first now : Seen) : Type 0 where
  pub told : IsTold Has given s events first.told now.told
  pub counted : AllCounted Has (counts_of first) events
  pub at : counts_at (counts_of first) events ≡ counts_of now

-- Files of commands.

-- no driver is known, of which files of commands need none
abbrev pub Driverless : Kind → Type 0
Driverless kind = ⊥

-- where no file was read the device is as before
abbrev pub OnNoFile : Result (Option Event) NoMemory → Seen → Seen → Type 0
OnNoFile (Ok (Some event)) old new = Unit {0}
OnNoFile (Ok None) old new = new ≡ old
OnNoFile (Err e) old new = new ≡ old
