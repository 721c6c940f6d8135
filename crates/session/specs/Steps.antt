-- How a session stands in its run.
use Rattle.std.specs.Prelude.{◌≡◌, ◌≢◌, ◌≤◌, ℕ, ℤ, List, [], ◌∷◌, ◌++◌, length}
use Rattle.std.specs.Prelude.{false}
use Rattle.std.specs.Prelude.{Bool}
use Rattle.mail_base.specs.declared.kind.Kind.{Kind}
use Rattle.disk_model.specs.Seen.{Seen}
use Rattle.folder_letters.specs.Letters.{Mail}
use Rattle.keymap.specs.declared.key.Key.{Key}
use Rattle.patterns.specs.Causes.{Keeps}
use Rattle.people.specs.Judged.{PlainJudged}
use Rattle.session_state.specs.declared.stage.Stage.{Stage}
use Rattle.session_state.specs.declared.stage.Stage.TheVariants.{Unopened, Idle}
use Rattle.session_state.specs.declared.stage.Stage.TheVariants.{Syncing}
use Rattle.session_state.specs.declared.stage.Stage.TheVariants.{Checking}
use Rattle.session_state.specs.declared.stage.Stage.TheVariants.{Opening, Over, Reading}
use Rattle.session_events.specs.declared.setup.Next.{Next}
use Rattle.session_events.specs.declared.setup.Next.TheVariants.{Go, Quit}
use Rattle.session_events.specs.Events.{AreFiles, Happening, IsCheck, KeyPressed}
use Rattle.session_events.specs.Events.{AreWorks}
use Rattle.session_events.specs.Happened.{AllMet}
use Rattle.session_events.specs.Telling.{TellsFile}
use Rattle.session_events.specs.Wishes.{Press}
use Rattle.session.specs.Given.{Given, IsGivenOn}
use Rattle.session.specs.Runs.{IsRunFrom, State, after_events, pushed_on, screens_from, shown}
use Rattle.session.specs.Runs.{taken, wish}
use Rattle.session_state.specs.Frames.{PlainFrame}
use Rattle.session.specs.Telling.{Driverless, Witnessed}

-- The events are a run from the first state; they lead to this state and show these screens.
pub record Stands (given : Given) (first : State) (events : List Happening) (state : State)
    (screens : List (List (List ℕ))) : Type 0 where
  pub run : IsRunFrom given first events
  pub state_is : after_events given first events ≡ state
  pub screens_are : screens_from given first events ≡ screens

-- The same, and then a key was taken, which is wished at this moment: a check that was due is made.
pub record IsTaken (given : Given) (first : State) (events : List Happening) (state : State)
    (moment : ℤ) (screens : List (List (List ℕ))) : Type 0 where
  pub before : State
  pub stands : Stands given first events before screens
  pub wishes : wish before moment ≡ Press moment
  pub taken_is : taken before ≡ state

-- A folder was opened, and the keys that commands have put wait in this state.
pub record Waits (given : Given) (first : State) (events : List Happening)
    (state : State) : Type 0 where
  pub run : IsRunFrom given first events
  pub state_is : after_events given first events ≡ pushed_on given state
  pub screens_are : screens_from given first events ≡ shown given (pushed_on given state)

-- a key is wanted, or the run is over
abbrev pub IsNext : Next → Stage → Type 0
IsNext Go stage = stage ≡ Idle
IsNext Quit stage = stage ≡ Over

-- The events are a run, which shows these screens and then, if it shows one, the state to which
-- they lead; so many notes stood before.
pub record GoesOn (given : Given) (first : State) (events : List Happening)
    (screens : List (List (List ℕ))) (notes : List (List ℕ)) : Type 0 where
  pub run : IsRunFrom given first events
  pub screens_are : screens_from given first events
      ≡ screens ++ shown given (after_events given first events)
  pub more : List (List ℕ)
  pub noted : (after_events given first events).notes ≡ notes ++ more

-- all of these are events of checks
abbrev pub AreChecks : List Happening → Type 0
AreChecks [] = Unit {0}
AreChecks (event ∷ events) = IsCheck event × AreChecks events

-- A key was pressed, and files of commands were read and syncs made that it came to.
pub record PressesKey (key : Key) (moment : ℤ) (events events' : List Happening) : Type 0 where
  pub works : List Happening
  pub are : AreWorks works
  pub pressed : events' ≡ events ++ KeyPressed key moment ∷ works

-- A check was made, or none was due.
pub record AddsCheck (events events' : List Happening) : Type 0 where
  pub checks : List Happening
  pub are : AreChecks checks
  pub added : events' ≡ events ++ checks

-- The same without a key.
pub record AddsWorks (events events' : List Happening) : Type 0 where
  pub works : List Happening
  pub are : AreWorks works
  pub added : events' ≡ events ++ works

-- what the events say of so many letters stays true while there are more
abbrev pub StaysMet : List Mail → List Happening → List Mail → List Happening → Type 0
StaysMet mails events mails' events' =
    AllMet (length mails) 0 events → AllMet (length mails') 0 events'

-- What the events from a state on say of the disk stays true.
abbrev pub StaysToldFrom : (Kind → Type 0) → Given → State → List Happening → List Happening → Seen
    → Seen → Type 0
StaysToldFrom Has given first events events' now next = (before : Seen)
    → Witnessed Has given first events before now → Witnessed Has given first events' before next

-- the same from each state on
abbrev pub StaysTold : (Kind → Type 0) → List Happening → List Happening → Seen → Seen → Type 0
StaysTold Has events events' now next = (given : Given) → (first : State)
    → StaysToldFrom Has given first events events' now next

-- Files of commands.

-- before a folder is open the letters have no say
abbrev pub IsLent : Stage → List Mail → List PlainJudged → Given → Type 0
IsLent Unopened mails kept given = Keeps kept given.verdicts
IsLent _ mails kept given = IsGivenOn mails kept given

-- one event of a file after the other, in which the device went from one view to the next
abbrev pub TellsEach : List Happening → Seen → Seen → Type 0
TellsEach [] old new = new ≡ old
TellsEach (event ∷ events) old new =
    (mid : Seen) × TellsFile event old mid × TellsEach events mid new

-- Files of commands were read.
pub record ReadsFiles (events events' : List Happening) (old new : Seen) : Type 0 where
  pub files : List Happening
  pub added : events' ≡ events ++ files
  pub each : TellsEach files old new

-- no file of commands is wished
abbrev pub IsFileless : Stage → List PlainFrame → Type 0
IsFileless Unopened frames = frames ≡ []
IsFileless Opening frames = frames ≡ []
IsFileless Reading frames = frames ≡ []
IsFileless _ frames = Unit {0}

-- a check is wished behind a sync
abbrev pub IsChecking : Stage → Type 0
IsChecking (Checking leaves) = Unit {0}
IsChecking _ = ⊥

-- the run is over behind that
abbrev pub leaves_at : Stage → Bool
leaves_at (Checking leaves) = leaves
leaves_at _ = false

-- neither a file of commands nor a sync is wished
abbrev pub IsDone : Stage → List PlainFrame → Type 0
IsDone (Syncing purge quits) frames = ⊥
IsDone stage frames = IsFileless stage frames

-- keys have acted, or hooks of a folder have: a key is wanted, or a file or a sync that they came
-- to, or the run is over
abbrev pub IsSettled : Stage → List PlainFrame → Type 0
IsSettled Idle frames = Unit {0}
IsSettled Opening frames = frames ≢ []
IsSettled Reading frames = frames ≢ []
IsSettled Over frames = Unit {0}
IsSettled (Syncing purge quits) frames = Unit {0}
IsSettled _ frames = ⊥

-- Files of commands were read before a folder is open: the events are a run up to this state, no
-- screen was shown, and what they say of the disk is true, for every list that keeps these
-- verdicts.
pub record Sources (kept : List PlainJudged) (first : State) (events : List Happening)
    (state : State) (before now : Seen) : Type 0 where
  pub are : AreFiles events
  pub stands : (given : Given) → Keeps kept given.verdicts → Stands given first events state []
  pub window : state.window ≡ first.window
  pub told : (given : Given) → Keeps kept given.verdicts
      → Witnessed Driverless given first events before now
  pub faults : before.faults ≤ now.faults

-- the same where a call was broken off
pub record SourcesOff (kept : List PlainJudged) (first : State) (events : List Happening)
    (before now : Seen) : Type 0 where
  pub are : AreFiles events
  pub run : (given : Given) → Keeps kept given.verdicts → IsRunFrom given first events
  pub screens_are : (given : Given) → Keeps kept given.verdicts
      → screens_from given first events ≡ []
  pub told : (given : Given) → Keeps kept given.verdicts
      → Witnessed Driverless given first events before now
  pub faults : before.faults ≤ now.faults

-- For the code alone.

-- the run goes on, unless it is over
abbrev pub next_of : Stage → Next
next_of Over = Quit
next_of _ = Go
