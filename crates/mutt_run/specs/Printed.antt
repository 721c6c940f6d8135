-- What is printed.
use Rattle.std.specs.Prelude.{◌≤◌, ℕ, ℤ, List, [], ◌∷◌, codes, length, map, Option, Result}
use Rattle.std.specs.Io.KnownBytes.{Appends}
use Rattle.std.specs.List.{concat}
use Rattle.mail_base.specs.Faults.{Rose}
use Rattle.mail_base.specs.Streams.{Sent}
use Rattle.mutt_words.specs.Options.{PlainOptions}
use Rattle.session_events.specs.Events.{Happening}
use Rattle.session.specs.Given.{Given}
use Rattle.session.specs.Runs.{State, after_events, screens_from}
use Rattle.session_state.specs.Rules.{answer_line}
use Rattle.mutt_run.specs.Choice.{Task, TellVersion, TellValues, ReadFolder}
use Rattle.mutt_run.specs.Choice.{first_by, task_by}
use Rattle.mutt_run.specs.Screens.{printed_lines, screen_text}
use Rattle.mutt_run.specs.declared.status.Status.{Status}
use Rattle.mutt_run.specs.declared.status.Status.TheVariants.{Done, OutFault, NoMemory}
use Rattle.mutt_run.specs.declared.status.Status.TheVariants.{Empty}

-- the line of the version
abbrev pub version_line : List ℕ
version_line = codes "mutt_main 1.0\n"

-- the lines of variables
abbrev pub values_text : List (List ℕ) → State → List ℕ
values_text names s = printed_lines (map (answer_line s.turn.core.rules.settings) names)

-- The pieces that are printed, each in one write: the version; the lines of the variables, with the
-- values that the commands gave them; or one screen after the opening and after each key that does
-- not end the run.
abbrev pub pieces : Given → Task → State → List Happening → List (List ℕ)
pieces given TellVersion first events = version_line ∷ []
pieces given (TellValues names) first events =
    values_text names (after_events given first events) ∷ []
pieces given ReadFolder first events = map screen_text (screens_from given first events)

-- the pieces of what the words choose
abbrev pub pieces_by : Given → Result PlainOptions (List ℕ) → ℤ → List Happening → List (List ℕ)
pieces_by given choice start events = pieces given (task_by choice) (first_by choice start) events

-- how long the last of some pieces is
abbrev pub last_length : List (List ℕ) → ℕ
last_length [] = 0
last_length (piece ∷ []) = length piece
last_length (piece ∷ next ∷ pieces) = last_length (next ∷ pieces)

-- the pieces were printed, but perhaps for an end of the last one
pub record PrintsBut (pieces : List (List ℕ)) (old new : Option (List ℕ)) : Type 0 where
  pub rest : List ℕ
  pub sent : Sent old new (concat pieces) rest
  pub short : length rest ≤ last_length pieces

-- The pieces were printed whole, unless a stream failed or memory ran out; nothing was where an
-- empty folder is not shown.
abbrev pub Prints : Status → List (List ℕ) → Option (List ℕ) → Option (List ℕ) → Type 0
Prints OutFault pieces old new = PrintsBut pieces old new
Prints NoMemory pieces old new = PrintsBut pieces old new
Prints Empty pieces old new = Appends old new []
Prints status pieces old new = Appends old new (concat pieces)

-- For the code alone: the version was told, or a front of it where the write failed.
abbrev pub TellsVersion : Status → Option (List ℕ) → Option (List ℕ) → ℕ → ℕ → Type 0
TellsVersion Done old new before after = Appends old new version_line
TellsVersion OutFault old new before after =
    ((rest : List ℕ) × Sent old new version_line rest) × Rose before after
TellsVersion status old new before after = ⊥
