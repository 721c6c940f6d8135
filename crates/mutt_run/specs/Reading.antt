-- What a run does outside.
use Rattle.std.specs.Prelude.{◌≡◌, ◌⊎◌, ◌∷◌, ℕ, ℤ, List, Option, Result}
use Rattle.std.specs.Io.KnownBytes.{Appends}
use Rattle.std.specs.List.{concat}
use Rattle.mail_base.specs.Faults.{Rose}
use Rattle.mail_base.specs.Streams.{Sent}
use Rattle.mail_base.specs.declared.kind.Kind.{Kind}
use Rattle.disk_model.specs.Seen.{Seen}
use Rattle.keymap.specs.Reader.{PlainReader}
use Rattle.mutt_words.specs.Options.{PlainOptions}
use Rattle.session_events.specs.Events.{Happening}
use Rattle.session.specs.Given.{Given, IsGivenOn}
use Rattle.session.specs.Runs.{IsRunFrom}
use Rattle.session.specs.Telling.{Witnessed}
use Rattle.session_state.specs.Instants.{IsMoment}
use Rattle.mutt_run.specs.Choice.{acted_on, first_by, state_by}
use Rattle.mutt_run.specs.Complete.{IsPlainEnd, NamesReadable}
use Rattle.mutt_run.specs.Ending.{EndsAs, IsChosen}
use Rattle.mutt_run.specs.Going.{IsUnshown, Streams, TellsText, streams}
use Rattle.mutt_run.specs.Notes.{Tells, folder_in}
use Rattle.mutt_run.specs.Printed.{Prints, PrintsBut, pieces_by}
use Rattle.mutt_run.specs.Screens.{printed_lines}
use Rattle.mutt_run.specs.Taken.{Gives, IsStart, TakesKeys, pressed_keys, pressed_moments}
use Rattle.mutt_run.specs.declared.status.Status.{Status}
use Rattle.mutt_run.specs.declared.status.Status.TheVariants.{DiskFault}
use Rattle.mutt_run.specs.declared.status.Status.TheVariants.{OutFault, NoMemory}

-- what was printed and told so far, with the faults of telling; what is left of the keys; the
-- moments to come; and the disk
pub record Outside : Type 0 where
  pub written : Option (List ℕ)
  pub told : Option (List ℕ)
  pub faults : ℕ
  pub left : Option (List ℕ)
  pub moments : Option (List ℤ)
  pub disk : Seen

-- all that stands outside a run
abbrev pub outside : Option (List ℕ) → Option (List ℕ) → ℕ → Option (List ℕ) → Option (List ℤ)
    → Seen → Outside
outside written told faults left moments disk = record {
  written = written;
  told = told;
  faults = faults;
  left = left;
  moments = moments;
  disk = disk;
}

-- the streams of what stands outside
abbrev pub streams_of : Outside → Streams
streams_of o = streams o.written o.told o.faults

-- the lines of faulty commands were told
abbrev pub TellsNotes : Status → List ℕ → Outside → Outside → Type 0
TellsNotes status text old new = TellsText status text (streams_of old) (streams_of new)

-- The events are a run that ends with this status; their keys and moments were taken, what they ask
-- for was printed and told, and what they say is true. Whatever the status, no more than a rest of
-- the last piece is missing.
pub record Reads (choice : Result PlainOptions (List ℕ)) (start : ℤ) (Has : Kind → Type 0)
    (given : Given) (status : Status) (events : List Happening) (old new : Outside)
    : Type 0 where
  pub run : IsRunFrom given (first_by choice start) events
  pub ends : EndsAs given (acted_on choice) start status events old.left new.left
  pub reader : PlainReader
  pub takes : TakesKeys (pressed_keys events) reader old.left new.left
  pub start_is : IsStart start events
  pub clocked : Gives old.moments new.moments (pressed_moments events)
  pub printed : Prints status (pieces_by given choice start events) old.written new.written
  pub but : PrintsBut (pieces_by given choice start events) old.written new.written
  pub whole : IsUnshown (state_by given choice start events).turn.stage
      → Appends old.written new.written (concat (pieces_by given choice start events))
  pub noted : TellsNotes status (printed_lines (state_by given choice start events).notes) old new
  pub told : Witnessed Has given (first_by choice start) events old.disk new.disk
  pub fault : status ≡ DiskFault → Rose old.disk.faults new.disk.faults
  pub chosen : IsChosen choice status

-- the same over every list of letters that begins with these, and of verdicts that keeps these
abbrev pub ReadsOver : Result PlainOptions (List ℕ) → ℤ → (Kind → Type 0) → Given → Status
    → List Happening → Outside → Outside → Type 0
ReadsOver choice start Has kept status events old new = (given : Given)
    → IsGivenOn kept.mails kept.verdicts given
    → Reads choice start Has given status events old new

-- What a run has come to whose start was at a moment. Where `Quiet` holds no fault was counted.
pub record RunsFrom (choice : Result PlainOptions (List ℕ)) (start : ℤ) (Has : Kind → Type 0)
    (given : Given) (status : Status) (events : List Happening) (old new : Outside)
    (Quiet : Type 0) : Type 0 where
  -- The events are a run, and it ends as the status says.
  pub run : IsRunFrom given (first_by choice start) events
  pub ends : EndsAs given (acted_on choice) start status events old.left new.left
  -- The clock gave the moment of the start, which the calendar has, and then those of the keys.
  pub moment : IsMoment start
  pub opened : IsStart start events
  pub clocked : Gives old.moments new.moments (start ∷ pressed_moments events)
  -- What is printed and told.
  pub out : Prints status (pieces_by given choice start events) old.written new.written
  pub errs : Tells (λ st. EndsAs given (acted_on choice) start st events old.left new.left
      × IsChosen choice st) (Rose old.faults new.faults)
      (state_by given choice start events).notes (folder_in events) status old.told new.told
  -- Where the last event shows no screen, nothing is missing of those before it: no key is taken
  -- behind a screen that failed.
  pub whole : IsUnshown (state_by given choice start events).turn.stage
      → Appends old.written new.written (concat (pieces_by given choice start events))
  -- What the events say of the disk is true.
  pub told : Witnessed Has given (first_by choice start) events old.disk new.disk
  -- With a readable folder and no fault the run is done, or stops for memory or at the limit of
  -- keys.
  pub complete : NamesReadable Has given choice start events new.disk.told → Quiet
      → IsPlainEnd status

-- the same over every list of letters that begins with these, and of verdicts that keeps these:
-- what
-- was refused for an expression is refused whatever else is judged
abbrev pub RunsOver : Result PlainOptions (List ℕ) → ℤ → (Kind → Type 0) → Given → Status
    → List Happening → Outside → Outside → Type 0 → Type 0
RunsOver choice start Has kept status events old new Quiet = (given : Given)
    → IsGivenOn kept.mails kept.verdicts given
    → RunsFrom choice start Has given status events old new Quiet

-- For the code alone.

-- the lines of faulty commands were told, and then this is the status; or the fault stream failed,
-- or memory ran out
abbrev pub TellsRefused : Status → Status → List ℕ → Option (List ℕ) → Option (List ℕ) → ℕ → ℕ
    → Type 0
TellsRefused status result text old new before after =
    ((result ≡ status) × Appends old new text)
    ⊎ ((result ≡ OutFault) × Rose before after × ((rest : List ℕ) × Sent old new text rest))
    ⊎ ((result ≡ NoMemory) × ((rest : List ℕ) × Sent old new text rest))
