-- How calls keep to the run of a session, by the session and its trace before a call and behind it.
use Rattle.std.specs.Prelude.{◌≡◌, ◌<◌, ◌++◌, ◌∷◌, [], ℕ, ℤ, List, map}
use Rattle.mail_base.specs.Series.{Held, plain_texts}
use Rattle.mail_base.specs.declared.kind.Kind.{Kind}
use Rattle.disk_model.specs.Seen.{Seen}
use Rattle.folder_letters.specs.Letters.{Mail, plain_letter}
use Rattle.keymap.specs.declared.key.Key.{Key}
use Rattle.patterns.specs.Causes.{Keeps}
use Rattle.people.specs.Judged.{PlainJudged}
use Rattle.session_events.specs.Checking.{IsOpen}
use Rattle.session_events.specs.Events.{Happening, plain_events}
use Rattle.session_events.specs.declared.event.Trace.{Trace}
use Rattle.session_events.specs.declared.setup.Next.{Next}
use Rattle.session_events.specs.declared.setup.StartError.{StartError}
use Rattle.session_state.specs.Frames.{plain_frames}
use Rattle.session_state.specs.Instants.{IsMoment}
use Rattle.session_state.specs.declared.stage.Stage.TheVariants.{Ready, Unopened}
use Rattle.session.specs.Beginning.{Fails, Starts}
use Rattle.session.specs.Core.{IsEmpty}
use Rattle.session.specs.Fitting.{CanRead, FitsRun, IsLeft, StaysUnopened}
use Rattle.session.specs.Given.{Given, IsGiven, IsGivenOn}
use Rattle.session.specs.Runs.{IsRunFrom, State, after_events, arrived, plain_session, shown}
use Rattle.session.specs.Steps.{AddsCheck, GoesOn, IsLent, IsNext, IsSettled, IsTaken}
use Rattle.session.specs.Steps.{AddsWorks}
use Rattle.session.specs.Steps.{PressesKey, ReadsFiles, Sources, Stands, StaysMet, StaysTold}
use Rattle.session.specs.Steps.{StaysToldFrom, Waits}
use Rattle.session.specs.declared.session_type.Session.{Session}

-- the letters of a trace
abbrev pub letters_in : {X : Type 0} {Is : X → Type 0} → Trace X Is → List Mail
letters_in trace = map plain_letter trace.archive.items

-- the events of a trace
abbrev pub events_in : {X : Type 0} {Is : X → Type 0} → Trace X Is → List Happening
events_in trace = plain_events trace.events.items

-- where a session stands whose trace this is
abbrev pub state_in : {X : Type 0} {Is : X → Type 0} → Session → Trace X Is → State
state_in session trace = plain_session session trace.notes

-- at least the letters and the verdicts of a trace
abbrev pub IsGivenIn : {X : Type 0} {Is : X → Type 0} → Trace X Is → Given → Type 0
IsGivenIn trace given = IsGivenOn (letters_in trace) trace.verdicts.kept given

-- a session became what this makes of it, for all letters and verdicts of which these are part
abbrev pub Becomes : List Mail → List PlainJudged → (Given → State → State) → Session → Session
    → Type 0
Becomes mails kept act old new = (given : Given) → IsGiven mails kept given
    → (notes : Held (Held ℕ)) → plain_session new notes ≡ act given (plain_session old notes)

-- The open folder is right over the letters of a trace, of a kind that has a driver, and was
-- checked at a moment of the calendar.
pub record IsOpenIn {X : Type 0} {Is : X → Type 0} (Has : Kind → Type 0) (session : Session)
    (trace : Trace X Is) (now : Seen) : Type 0 where
  pub known : IsOpen (letters_in trace) now.told session.folder
  pub has : Has session.folder.known.kind
  pub checked : IsMoment session.folder.checked

-- The event is the last of the trace.
pub record Happens {X : Type 0} {Is : X → Type 0} (event : Happening) (old new : Session)
    (was now : Trace X Is) : Type 0 where
  pub events : events_in now ≡ events_in was ++ event ∷ []
  pub window : new.window ≡ old.window
  pub folder : new.folder ≡ old.folder
  pub archive : now.archive ≡ was.archive
  pub kept : Keeps was.verdicts.kept now.verdicts.kept

-- The session took it in.
pub record TakesIn {X : Type 0} {Is : X → Type 0} (event : Happening) (old new : Session)
    (was now : Trace X Is) : Type 0 where
  pub arrived_is : (given : Given) → IsGivenIn now given
      → state_in new now ≡ arrived given (state_in old was) event
  pub left : IsLeft (letters_in now) old new event

-- Files of commands were read, as far as memory went.
pub record Reads {X : Type 0} {Is : X → Type 0} (old new : Session) (was now : Trace X Is)
    (before after : Seen) : Type 0 where
  pub on : (given : Given) → IsLent old.stage (letters_in now) now.verdicts.kept given
      → (first : State) → (screens : List (List (List ℕ)))
      → Stands given first (events_in was) (state_in old was)
      (screens ++ shown given (state_in old was))
      → GoesOn given first (events_in now) screens (plain_texts was.notes)
  pub files : ReadsFiles (events_in was) (events_in now) before after
  pub window : new.window ≡ old.window
  pub folder : new.folder ≡ old.folder
  pub archive : now.archive ≡ was.archive
  pub kept : Keeps was.verdicts.kept now.verdicts.kept

-- Memory sufficed for them.
pub record ReadsWhole {X : Type 0} {Is : X → Type 0} (old new : Session)
    (was now : Trace X Is) : Type 0 where
  pub to : (given : Given) → IsLent old.stage (letters_in now) now.verdicts.kept given
      → (first : State) → after_events given first (events_in was) ≡ state_in old was
      → after_events given first (events_in now) ≡ state_in new now
  pub unopened : old.stage ≡ Unopened → new.stage ≡ Unopened
  pub settled : IsSettled old.stage (plain_frames old.core.frames)
      → IsSettled new.stage (plain_frames new.core.frames)
  pub view : StaysUnopened old new
  pub fits : FitsRun (letters_in now) new

-- A session has read its files of commands, and no folder is open.
pub record IsUnopened (session : Session) : Type 0 where
  pub unopened : session.stage ≡ Unopened
  pub none : session.folder.met ≡ 0
  pub read : plain_frames session.core.frames ≡ []
  pub empty : IsEmpty session.core.desk.view
  pub fits : CanRead session

-- The same, with what the files came to.
pub record IsSourced {X : Type 0} {Is : X → Type 0} (first : State) (session : Session)
    (trace : Trace X Is) (before now : Seen)
    : Type 0 where
  pub sources : Sources trace.verdicts.kept first (events_in trace) (state_in session trace)
      before now
  pub ready : IsUnopened session

-- how far a start came
abbrev pub StartsIn : {X : Type 0} {Is : X → Type 0} → (Kind → Type 0) → State → ℤ → Session
    → Trace X Is → Seen → Seen → Type 0
StartsIn Has first moment session trace before now = (given : Given) → IsGivenIn trace given
    → Starts Has given first moment (events_in trace) (state_in session trace)
    session.folder.known.listing before now

-- a start failed, by each list of verdicts that keeps those of the trace
abbrev pub FailsIn : {X : Type 0} {Is : X → Type 0} → (Kind → Type 0) → State → ℤ → StartError
    → Trace X Is → Seen → Seen → Type 0
FailsIn Has first moment why trace before now = (given : Given) → IsGivenIn trace given
    → Fails Has given first moment why (plain_texts trace.notes) (events_in trace) before now

-- What was given behind a call was given before it.
pub record KeepsGiven {X : Type 0} {Is : X → Type 0} (was now : Trace X Is) : Type 0 where
  pub added : List Mail
  pub letters : letters_in now ≡ letters_in was ++ added
  pub kept : Keeps was.verdicts.kept now.verdicts.kept

-- Files of commands were read, syncs were made, and the keys behind them acted, as far as memory
-- went.
pub record Works {X : Type 0} {Is : X → Type 0} (Has : Kind → Type 0) (old new : Session)
    (was now : Trace X Is) (before after : Seen) : Type 0 where
  pub on : (given : Given) → IsGivenIn now given → (first : State)
      → (screens : List (List (List ℕ)))
      → Stands given first (events_in was) (state_in old was)
      (screens ++ shown given (state_in old was))
      → GoesOn given first (events_in now) screens (plain_texts was.notes)
  pub adds : AddsWorks (events_in was) (events_in now)
  pub told : (given : Given) → IsGivenIn now given → (first : State)
      → after_events given first (events_in was) ≡ state_in old was
      → StaysToldFrom Has given first (events_in was) (events_in now) before after
  pub met : StaysMet (letters_in was) (events_in was) (letters_in now) (events_in now)
  pub known : IsOpenIn Has new now after
  pub window : new.window ≡ old.window
  pub given : KeepsGiven was now

-- Memory sufficed for that.
pub record WorksWhole {X : Type 0} {Is : X → Type 0} (old new : Session) (was now : Trace X Is)
    : Type 0 where
  pub to : (given : Given) → IsGivenIn now given → (first : State)
      → after_events given first (events_in was) ≡ state_in old was
      → after_events given first (events_in now) ≡ state_in new now
  pub fits : FitsRun (letters_in now) new

-- The keys have acted that commands had put, and files were read and syncs made that they came to,
-- as far as memory went.
pub record Pushes {X : Type 0} {Is : X → Type 0} (Has : Kind → Type 0) (old new : Session)
    (was now : Trace X Is) (before after : Seen)
    : Type 0 where
  pub on : (given : Given) → IsGivenIn now given → (first : State)
      → Waits given first (events_in was) (state_in old was)
      → GoesOn given first (events_in now) [] (plain_texts was.notes)
  pub adds : AddsWorks (events_in was) (events_in now)
  pub told : (given : Given) → IsGivenIn now given → (first : State)
      → Waits given first (events_in was) (state_in old was)
      → StaysToldFrom Has given first (events_in was) (events_in now) before after
  pub met : StaysMet (letters_in was) (events_in was) (letters_in now) (events_in now)
  pub known : IsOpenIn Has new now after
  pub given : KeepsGiven was now

-- Memory sufficed for them.
pub record PushesWhole {X : Type 0} {Is : X → Type 0} (old new : Session) (was now : Trace X Is)
    (next : Next) : Type 0 where
  pub to : (given : Given) → IsGivenIn now given → (first : State)
      → Waits given first (events_in was) (state_in old was)
      → after_events given first (events_in now) ≡ state_in new now
  pub next_is : IsNext next new.stage
  pub fits : FitsRun (letters_in now) new

-- the run goes on where a key was taken
abbrev pub GoesOnTaken : {X : Type 0} {Is : X → Type 0} → ℤ → Session → Trace X Is → Trace X Is
    → Type 0
GoesOnTaken moment old was now = (given : Given) → IsGivenIn now given → (first : State)
    → (screens : List (List (List ℕ)))
    → IsTaken given first (events_in was) (state_in old was) moment screens
    → GoesOn given first (events_in now) screens (plain_texts was.notes)

-- A key has acted, and files were read and syncs made that it came to, as far as memory went. Where
-- there was room for its event, a key is told even where memory runs out.
pub record Presses {X : Type 0} {Is : X → Type 0} (Has : Kind → Type 0) (key : Key) (moment : ℤ)
    (old new : Session)
    (was now : Trace X Is) (before after : Seen) : Type 0 where
  pub run : (given : Given) → IsGivenIn now given → (first : State)
      → (screens : List (List (List ℕ)))
      → IsTaken given first (events_in was) (state_in old was) moment screens
      → IsRunFrom given first (events_in now)
  pub on : 0 < was.events.room → GoesOnTaken moment old was now
  pub pressed : 0 < was.events.room → PressesKey key moment (events_in was) (events_in now)
  pub told : (given : Given) → IsGivenIn now given → (first : State)
      → (screens : List (List (List ℕ)))
      → IsTaken given first (events_in was) (state_in old was) moment screens
      → StaysToldFrom Has given first (events_in was) (events_in now) before after
  pub met : StaysMet (letters_in was) (events_in was) (letters_in now) (events_in now)
  pub known : IsOpenIn Has new now after
  pub given : KeepsGiven was now

-- Memory sufficed for it.
pub record PressesWhole {X : Type 0} {Is : X → Type 0} (key : Key) (moment : ℤ) (old new : Session)
    (was now : Trace X Is)
    (next : Next) : Type 0 where
  pub on : GoesOnTaken moment old was now
  pub pressed : PressesKey key moment (events_in was) (events_in now)
  pub to : (given : Given) → IsGivenIn now given → (first : State)
      → (screens : List (List (List ℕ)))
      → IsTaken given first (events_in was) (state_in old was) moment screens
      → after_events given first (events_in now) ≡ state_in new now
  pub next_is : IsNext next new.stage
  pub fits : FitsRun (letters_in now) new

-- A key was taken, and a check was made where it was due. Without memory the key is not taken.
pub record Checks {X : Type 0} {Is : X → Type 0} (Has : Kind → Type 0) (moment : ℤ)
    (old new : Session) (was now : Trace X Is) (before after : Seen) : Type 0 where
  pub taken : (given : Given) → IsGivenIn now given → (first : State)
      → (screens : List (List (List ℕ)))
      → Stands given first (events_in was) (state_in old was) screens
      → IsTaken given first (events_in now) (state_in new now) moment screens
  pub adds : AddsCheck (events_in was) (events_in now)
  pub told : (given : Given) → IsGivenIn now given → (first : State)
      → after_events given first (events_in was) ≡ state_in old was
      → StaysToldFrom Has given first (events_in was) (events_in now) before after
  pub met : StaysMet (letters_in was) (events_in was) (letters_in now) (events_in now)
  pub ready : new.stage ≡ Ready
  pub notes : now.notes ≡ was.notes
  pub fits : FitsRun (letters_in now) new
  pub known : IsOpenIn Has new now after
  pub room : 0 < now.events.room
