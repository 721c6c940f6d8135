-- What the words of a command line ask for.
use Rattle.std.specs.Prelude.{List, [], ◌∷◌, ℕ, ℤ, Result, if◌then◌else◌}
use Rattle.std.specs.Result.{result_unwrap_or}
use Rattle.mutt_words.specs.Options.{PlainOptions, no_words}
use Rattle.session_events.specs.Events.{Happening}
use Rattle.session.specs.Given.{Given}
use Rattle.session.specs.Runs.{State, after_events}
use Rattle.session.specs.Starting.{PlainSetup, first_state}

-- the choice that is acted on; words that are no command line choose nothing
abbrev pub acted_on : Result PlainOptions (List ℕ) → PlainOptions
acted_on choice = result_unwrap_or choice no_words

-- what a session starts from
abbrev pub setup_of : PlainOptions → PlainSetup
setup_of o = record {
  path = o.folder;
  rc = o.rc;
  commands = o.commands;
  kind = o.kind;
  read_only = o.read_only;
  window = record { rows = o.rows; cols = o.cols; offset = o.offset };
  owner = o.owner;
}

-- the state of a run that starts at a moment, in which nothing has happened
abbrev pub first_of : PlainOptions → ℤ → State
first_of o start = first_state (setup_of o) start

-- to print the version, or the values of some variables, or to read a folder
pub data Task : Type 0 where
  TellVersion : Task
  TellValues : (names : List (List ℕ)) → Task
  ReadFolder : Task

-- names that are asked for are told; else a folder is read
abbrev pub query_task : List (List ℕ) → Task
query_task [] = ReadFolder
query_task (name ∷ names) = TellValues (name ∷ names)

-- what options ask for
abbrev pub task_of : PlainOptions → Task
task_of o = if o.version then TellVersion else query_task o.query

-- the same by what the words choose
abbrev pub first_by : Result PlainOptions (List ℕ) → ℤ → State
first_by choice start = first_of (acted_on choice) start

-- what words ask for
abbrev pub task_by : Result PlainOptions (List ℕ) → Task
task_by choice = task_of (acted_on choice)

-- the state after some events
abbrev pub state_by : Given → Result PlainOptions (List ℕ) → ℤ → List Happening → State
state_by given choice start events = after_events given (first_by choice start) events
