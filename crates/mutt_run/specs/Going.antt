-- How keys go on from an open folder.
use Rattle.std.specs.Prelude.{◌≡◌, ◌<◌, ◌≤◌, ◌⊎◌, ◌++◌, ℕ, ℤ, true, List, [], ◌∷◌, map, Option}
use Rattle.std.specs.Prelude.{Result, Ok, Err, IfErr, IsErrOf, OnErr, OnOk}
use Rattle.std.specs.Io.KnownBytes.{Appends, IsAtEnd}
use Rattle.std.specs.List.{concat}
use Rattle.mail_base.specs.Faults.{Rose}
use Rattle.mail_base.specs.Streams.{Sent}
use Rattle.keymap.specs.Reader.{PlainReader, most_bytes}
use Rattle.keymap.specs.Stream.{is_open}
use Rattle.keymap.specs.declared.key.Key.{Key}
use Rattle.session_events.specs.Events.{AreWorks, Happening, KeyPressed, FolderOpened}
use Rattle.session_events.specs.Events.{FolderRefused}
use Rattle.session.specs.Given.{Given}
use Rattle.session.specs.Runs.{IsRunFrom, State, after_events, screens_from}
use Rattle.session.specs.Steps.{AreChecks, Stands, Waits}
use Rattle.session_events.specs.declared.setup.Next.{Next}
use Rattle.session_events.specs.declared.setup.Next.TheVariants.{Go, Quit}
use Rattle.session_state.specs.declared.stage.Stage.{Stage}
use Rattle.session_state.specs.declared.stage.Stage.TheVariants.{Checking, Idle, Over, Reading}
use Rattle.session_state.specs.declared.stage.Stage.TheVariants.{Syncing}
use Rattle.mutt_run.specs.Printed.{PrintsBut}
use Rattle.mutt_run.specs.Screens.{printed_lines, screen_text}
use Rattle.mutt_run.specs.Taken.{Gives, TakesKeys, pressed_keys, pressed_moments}
use Rattle.mutt_run.specs.declared.status.Status.{Status}
use Rattle.mutt_run.specs.declared.status.Status.TheVariants.{Done, Usage, NotOpened, DiskFault}
use Rattle.mutt_run.specs.declared.status.Status.TheVariants.{KeysFault, OutFault, NoMemory}
use Rattle.mutt_run.specs.declared.status.Status.TheVariants.{Empty}
use Rattle.mutt_run.specs.declared.status.Status.TheVariants.{TooManyKeys}

-- What the printing of a piece does: it was written, or a front of it was, and then a write failed
-- and was counted, or memory was wanted, and no write was tried.
pub record Shows {T : Type 0} (result : Result T Status) (piece : List ℕ)
    (out out' : Option (List ℕ)) (faults faults' : ℕ) : Type 0 where
  pub ok : OnOk result (Appends out out' piece)
  pub err : OnErr result ((rest : List ℕ) × Sent out out' piece rest)
  pub which : IfErr result (λ status. (status ≡ OutFault) ⊎ (status ≡ NoMemory))
  pub cause : IsErrOf result OutFault → Rose faults faults'
  pub later : faults ≤ faults'

-- a fault of the keys, and one of what is written or told, is answered only where it was counted
pub record CountsStreams (status : Status) (keys_before keys_after out_before out_after : ℕ)
    (errs_before errs_after : ℕ) : Type 0 where
  pub keys : status ≡ KeysFault → Rose keys_before keys_after
  pub out : status ≡ OutFault → Rose out_before out_after ⊎ Rose errs_before errs_after
  pub later : errs_before ≤ errs_after

-- what is written and told, and the faults of telling
pub record Streams : Type 0 where
  pub out : Option (List ℕ)
  pub errs : Option (List ℕ)
  pub faults : ℕ

-- what was written and told so far, with the faults of telling
abbrev pub streams : Option (List ℕ) → Option (List ℕ) → ℕ → Streams
streams out errs faults = record { out = out; errs = errs; faults = faults }

-- A text was told: all of it, unless the fault stream failed or memory ran out.
abbrev pub TellsText : Status → List ℕ → Streams → Streams → Type 0
TellsText OutFault text old new =
    (rest : List ℕ) × Sent old.errs new.errs text rest × ((rest ≡ []) ⊎ Rose old.faults new.faults)
TellsText NoMemory text old new = (rest : List ℕ) × Sent old.errs new.errs text rest
TellsText status text old new = Appends old.errs new.errs text

-- the events are a run to this state, and its screens were printed
pub record Goes (given : Given) (first : State) (events : List Happening) (state : State)
    (old new : Option (List ℕ)) : Type 0 where
  pub screens : List (List (List ℕ))
  pub stands : Stands given first events state screens
  pub sent : Appends old new (concat (map screen_text screens))

-- behind its last event a run shows no screen: it is over, or a file is still to be read, a sync to
-- be made or a check behind it
abbrev pub IsUnshown : Stage → Type 0
IsUnshown Over = Unit {0}
IsUnshown Reading = Unit {0}
IsUnshown (Syncing purge quits) = Unit {0}
IsUnshown (Checking leaves) = Unit {0}
IsUnshown _ = ⊥

-- The events are a run, whose screens were printed but for a rest of the last; where the last event
-- shows none, nothing is missing.
pub record Breaks (given : Given) (first : State) (events : List Happening)
    (old new : Option (List ℕ)) : Type 0 where
  pub run : IsRunFrom given first events
  pub prints : PrintsBut (map screen_text (screens_from given first events)) old new
  pub whole : IsUnshown (after_events given first events).turn.stage
      → Appends old new (concat (map screen_text (screens_from given first events)))

-- The same, and the lines of faulty commands were told.
pub record GoesOut (given : Given) (first : State) (events : List Happening) (state : State)
    (old new : Streams) : Type 0 where
  pub goes : Goes given first events state old.out new.out
  pub noted : Appends old.errs new.errs (printed_lines state.notes)
  pub later : old.faults ≤ new.faults

-- A run broke off with a status, and so did its screens and lines.
pub record BreaksOut (given : Given) (status : Status) (first : State) (events : List Happening)
    (old new : Streams) : Type 0 where
  pub breaks : Breaks given first events old.out new.out
  pub noted : TellsText status (printed_lines (after_events given first events).notes) old new

-- These screens were printed and these lines told.
pub record GoesSo (old new : Streams) (screens : List (List (List ℕ)))
    (notes : List (List ℕ)) : Type 0 where
  pub sent : Appends old.out new.out (concat (map screen_text screens))
  pub noted : Appends old.errs new.errs (printed_lines notes)
  pub later : old.faults ≤ new.faults

-- a folder is open and its keys wait; nothing was printed yet, and the lines of faulty commands
-- were told
pub record BeginsOut (given : Given) (first : State) (events : List Happening) (state : State)
    (old new : Streams) : Type 0 where
  pub waits : Waits given first events state
  pub unprinted : new.out ≡ old.out
  pub noted : Appends old.errs new.errs (printed_lines state.notes)
  pub later : old.faults ≤ new.faults

-- a key was taken, and the next screen was printed or the run is over; or it broke off
abbrev pub Turned : Given → Result Next Status → State → List Happening → State → Streams → Streams
    → Type 0
Turned given (Ok next) first events state old new = GoesOut given first events state old new
Turned given (Err status) first events state old new = BreaksOut given status first events old new

-- the stage behind a key, by what its turn answers
abbrev pub IsTurnedTo : Result Next Status → Stage → Type 0
IsTurnedTo (Ok Go) stage = stage ≡ Idle
IsTurnedTo (Ok Quit) stage = stage ≡ Over
IsTurnedTo (Err status) stage = (status ≡ OutFault) ⊎ (status ≡ NoMemory)

-- keys, checks, and what keys came to, syncs too: no folder is opened
abbrev pub AreActs : List Happening → Type 0
AreActs [] = Unit {0}
AreActs (FolderOpened path kind moment came marks ∷ events) = ⊥
AreActs (FolderRefused path why marks ∷ events) = ⊥
AreActs (_ ∷ events) = AreActs events

-- A key was pressed, behind a check where one was due, and files of commands were read and syncs
-- made that it came to.
pub record TurnsKey (key : Key) (moment : ℤ) (events events' : List Happening) : Type 0 where
  pub checks : List Happening
  pub are_checks : AreChecks checks
  pub works : List Happening
  pub are : AreWorks works
  pub pressed : events' ≡ events ++ (checks ++ KeyPressed key moment ∷ works)

-- keys were pressed: their bytes were taken, and their moments
pub record Presses (events events' : List Happening) (reader : PlainReader)
    (keys keys' : Option (List ℕ)) (clock clock' : Option (List ℤ)) : Type 0 where
  pub more : List Happening
  pub are_acts : AreActs more
  pub events_are : events' ≡ events ++ more
  pub takes : TakesKeys (pressed_keys more) reader keys keys'
  pub given : Gives clock clock' (pressed_moments more)

-- How the keys end with a status: a key ended the run, or they were read to their end; a read
-- failed, or the limit stands, where a further byte was needed.
abbrev pub EndsKeys : Status → Stage → PlainReader → Option (List ℕ) → Type 0
EndsKeys Done stage reader left =
    (stage ≡ Over)
    ⊎ ((stage ≡ Idle) × (reader.pending ≡ []) × IsAtEnd left × (reader.taken < most_bytes))
EndsKeys KeysFault stage reader left =
    (stage ≡ Idle) × (is_open reader.pending ≡ true) × (reader.taken < most_bytes)
EndsKeys TooManyKeys stage reader left =
    (stage ≡ Idle) × (is_open reader.pending ≡ true) × (reader.taken ≡ most_bytes)
EndsKeys OutFault stage reader left = Unit {0}
EndsKeys NoMemory stage reader left = Unit {0}
EndsKeys (Usage word) stage reader left = ⊥
EndsKeys (NotOpened why) stage reader left = ⊥
EndsKeys DiskFault stage reader left = ⊥
EndsKeys Empty stage reader left = ⊥

-- the run goes on up to its end, or breaks off
abbrev pub Ended : Given → Status → State → List Happening → State → Streams → Streams → Type 0
Ended given OutFault first events state old new = BreaksOut given OutFault first events old new
Ended given NoMemory first events state old new = BreaksOut given NoMemory first events old new
Ended given status first events state old new = GoesOut given first events state old new

-- keys were pressed up to this end
pub record GoesToEnd (status : Status) (events events' : List Happening) (stage : Stage)
    (keys keys' : Option (List ℕ)) (clock clock' : Option (List ℤ)) : Type 0 where
  pub reader : PlainReader
  pub presses : Presses events events' reader keys keys' clock clock'
  pub ends : EndsKeys status stage reader keys'
