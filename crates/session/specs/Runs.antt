-- A run: what a state wishes, what an event makes of it, and the screens.
use Rattle.std.specs.Prelude.{◌≡◌, ◌+◌, ℕ, ℤ, Bool, false, List, [], ◌∷◌, ◌++◌, Option}
use Rattle.std.specs.Prelude.{true}
use Rattle.std.specs.Prelude.{length, option_map, if◌then◌else◌}
use Rattle.mail_base.specs.Series.{Held, plain_texts}
use Rattle.mail_base.specs.declared.kind.Kind.{Kind}
use Rattle.disk_model.specs.declared.answers.DiskError.{DiskError}
use Rattle.folder_letters.specs.Letters.{Mail}
use Rattle.folder_core.specs.declared.error.ScanError.{ScanError}
use Rattle.folder_letters.specs.declared.listing.Listed.{Listed}
use Rattle.hooks.specs.Hooks.{commands_for}
use Rattle.keymap.specs.declared.key.Key.{Key}
use Rattle.folder_changes.specs.Left.{listing_synced}
use Rattle.folder_changes.specs.declared.sync_error.SyncError.{SyncError}
use Rattle.index_items.specs.Changes.{Changed, changes_of}
use Rattle.listing_laws.specs.Listing.{listing_behind}
use Rattle.people.specs.Judged.{PlainJudged}
use Rattle.session_events.specs.Events.{Happening, FileRead, FileRefused, KeyPressed, FolderOpened}
use Rattle.session_events.specs.Events.{FolderRefused, FolderChecked, CheckRefused, FolderSynced}
use Rattle.session_events.specs.Events.{PlainFound, SyncRefused, held_found}
use Rattle.session_events.specs.Happened.{met_after}
use Rattle.session_events.specs.Wishes.{Check, Nothing, Open, Press, Source, Sync, Wish}
use Rattle.session_events.specs.Wishes.{answered}
use Rattle.session_events.specs.Wishes.{moment_of}
use Rattle.session_state.specs.declared.stage.Stage.{Stage}
use Rattle.session_state.specs.declared.stage.Stage.TheVariants.{Unopened, Pushing, Idle, Ready}
use Rattle.session_state.specs.declared.stage.Stage.TheVariants.{Opening, Over, Reading}
use Rattle.session_state.specs.declared.stage.Stage.TheVariants.{Checking, Syncing}
use Rattle.session_screen.specs.declared.window.Window.{Window}
use Rattle.session_state.specs.Frames.{PlainFrame, Script, hooked_script, read_script, skip_script}
use Rattle.session_screen.specs.Places.{folder_path}
use Rattle.session_state.specs.Rules.{put_all, without_puts}
use Rattle.session_state.specs.Told.{nothing_told}
use Rattle.session.specs.Answers.{caught_up, ran_to}
use Rattle.session.specs.Checking.{forgot_by, found_again, is_due, refused_again}
use Rattle.session.specs.Core.{CoreState, Ground, instant_of, plain_core, with_desk}
use Rattle.session.specs.Given.{Given, met_of}
use Rattle.session.specs.Keys.{TurnState, run_on}
use Rattle.session.specs.Opening.{begun_in, opened}
use Rattle.session.specs.Reading.{refreshed}
use Rattle.session.specs.Screen.{Folder, screen}
use Rattle.session.specs.Showing.{resumed}
use Rattle.session.specs.Syncing.{synced_core, unsynced_core}
use Rattle.session.specs.declared.session_type.Session.{Session}

-- what keys act on; what was told of files of commands; the screen's size; the open folder, its
-- listing, and whether only a part of it is known still; how many letters were met; the moment of
-- its last check, before its opening that of the start; whether its last sync was refused; the
-- moment at which commands run and keys act; the folder that the words name; and the word that our
-- locks bear
pub record State : Type 0 where
  pub turn : TurnState
  pub notes : List (List ℕ)
  pub window : Window
  pub folder : Folder
  pub listing : List Listed
  pub forgot : Bool
  pub met : ℕ
  pub checked : ℤ
  pub refused : Bool
  pub moment : ℤ
  pub named : Option (List ℕ)
  pub owner : List ℕ

-- a session with its notes, as contracts see it
abbrev pub plain_session : Session → Held (Held ℕ) → State
plain_session session notes = record {
  turn = record {
    core = plain_core session.core;
    queue = session.queue.items;
    replaced = session.queue.replaced;
    stage = session.stage;
  };
  notes = plain_texts notes;
  window = session.window;
  folder = record { path = session.folder.known.path; kind = session.folder.known.kind };
  listing = session.folder.listing.items;
  forgot = session.folder.forgot;
  met = session.folder.met;
  checked = session.folder.checked;
  refused = session.folder.refused;
  moment = session.moment.0;
  named = option_map (λ path. path.items) session.named;
  owner = session.owner.items;
}

-- Wishes.

-- the files of commands come first
abbrev pub file_wish : List PlainFrame → Wish → Wish
file_wish [] other = other
file_wish (frame ∷ frames) other = Source frame.place.file

-- what a key wishes that is typed: a check comes first where it is due
abbrev pub key_wish : State → ℤ → Wish
key_wish s moment =
    if is_due s.refused s.checked s.turn.core moment then Check moment else Press moment

-- what is to become of the listed messages, with those that are marked deleted where it purges
abbrev pub wanted_changes : Bool → CoreState → List Changed
wanted_changes purge c = changes_of c.kind purge c.desk.index.facts.items

-- what a state wishes, by its stage
abbrev pub wish_at : Stage → State → ℤ → Wish
wish_at Unopened s moment = file_wish s.turn.core.frames
    (Open (folder_path s.turn.core.rules.settings s.named))
wish_at Idle s moment = key_wish s moment
wish_at Ready s moment = Press moment
wish_at Opening s moment = file_wish s.turn.core.frames Nothing
wish_at Reading s moment = file_wish s.turn.core.frames Nothing
wish_at (Syncing purge quits) s moment = Sync (wanted_changes purge s.turn.core)
wish_at (Checking leaves) s moment = Check s.moment
wish_at _ s moment = Nothing

-- what is wished at this moment
abbrev pub wish : State → ℤ → Wish
wish s moment = wish_at s.turn.stage s moment

-- an event answers what the state wishes
abbrev pub Answers : State → Happening → Type 0
Answers s event = wish s (moment_of event) ≡ answered event

-- What an event makes of the state.

-- a state at a stage
abbrev pub at_stage : Stage → State → State
at_stage stage s = record s { turn = record s.turn { stage = stage } }

-- a state whose keys act on this
abbrev pub with_core : CoreState → State → State
with_core c s = record s { turn = record s.turn { core = c } }

-- a state behind commands, whose faults are noted
abbrev pub with_script : Script → State → State
with_script script s = with_core (ran_to script s.turn.core)
    (record s { notes = s.notes ++ script.told.notes })

-- a key was taken: the message line is empty
abbrev pub quiet : CoreState → CoreState
quiet c = with_desk (record c.desk { message = [] }) c

-- a state before a key, by its stage
abbrev pub taken_at : Stage → State → State
taken_at Idle s = record s { turn = record s.turn { core = quiet s.turn.core; stage = Ready } }
taken_at _ s = s

-- a state before a key: the last line is empty
abbrev pub taken : State → State
taken s = taken_at s.turn.stage s

-- what keys are lent
abbrev pub ground : Given → State → Ground
ground given s = record { given = given; window = s.window; moment = s.moment }

-- the keys that wait act
abbrev pub acting : Given → State → State
acting given s = record s { turn = run_on (ground given s) s.turn }

-- these keys wait, of which none was replaced yet
abbrev pub waiting : List Key → State → State
waiting keys s = record s { turn = record s.turn { queue = keys; replaced = 0 } }

-- the keys that commands have put wait alone
abbrev pub putting : State → State
putting s = waiting (put_all s.turn.core.rules.put)
    (with_core (record s.turn.core { rules = without_puts s.turn.core.rules }) s)

-- a reader begins to read: the cursor is set, and they act
abbrev pub beginning : Given → State → State
beginning given s =
    acting given (putting (with_core (begun_in given.mails s.turn.core) s))

-- a file that hooks of the folder have named is read first
abbrev pub begin_behind : Given → List PlainFrame → State → State
begin_behind given [] s = beginning given s
begin_behind given (frame ∷ frames) s = at_stage Opening s

-- behind the hooks of an opened folder a reader begins, at the moment of the opening
abbrev pub pushed : Given → State → State
pushed given s = begin_behind given s.turn.core.frames s

-- the commands of the hooks that count for a folder were run, up to one that names a file
abbrev pub hooked_by : List PlainJudged → List ℕ → ℤ → State → State
hooked_by verdicts path moment s = with_script (hooked_script (instant_of s.window moment) verdicts
    (commands_for path s.turn.core.rules.hooks.folders) s.turn.core.frames s.turn.core.rules
    nothing_told) s

-- the messages of a folder are taken in
abbrev pub found_by : List Mail → List ℕ → Kind → ℤ → List Listed → State → State
found_by mails path kind moment came s = record s {
  turn = record s.turn {
    core = record (opened mails came s.turn.core) { kind = kind };
    stage = Pushing;
  };
  folder = record { path = path; kind = kind };
  listing = came;
  forgot = false;
  met = s.met + length came;
  checked = moment;
  refused = false;
  moment = moment;
}

-- a folder was opened in which these messages stand
abbrev pub opened_by : Given → List ℕ → Kind → ℤ → List Listed → State → State
opened_by given path kind moment came s =
    found_by given.mails path kind moment came (hooked_by given.verdicts path moment s)

-- the text of the file that was wished was read
abbrev pub read_in : List PlainJudged → List ℕ → State → State
read_in verdicts text s = with_script (read_script (instant_of s.window s.moment) verdicts text
    s.turn.core.frames s.turn.core.rules nothing_told) s

-- the file that was wished was not read
abbrev pub skipped : List PlainJudged → DiskError → State → State
skipped verdicts why s = with_script (skip_script (instant_of s.window s.moment) verdicts why
    s.turn.core.frames s.turn.core.rules nothing_told) s

-- the index learns what the commands of a file tell it, and what is shown is made anew
abbrev pub learning : Given → State → State
learning given s =
    with_core (refreshed given.mails s.window (caught_up given.mails s.turn.core)) s

-- behind the last file the keys go on that have named it, and a message is shown that waited for it
abbrev pub going_on : Given → List PlainFrame → State → State
going_on given [] s = acting given (with_core (resumed given.mails s.turn.core) s)
going_on given (frame ∷ frames) s = s

-- behind a file that keys have named
abbrev pub reading_on : Given → State → State
reading_on given s = going_on given s.turn.core.frames s

-- behind a file; before a folder is open there is no index yet
abbrev pub read_at : Stage → Given → State → State
read_at Unopened given s = s
read_at Opening given s = pushed given (learning given s)
read_at Reading given s = reading_on given (learning given s)
read_at _ given s = learning given s

-- the state behind a file: where no other is to be read, the index learns and keys go on
abbrev pub read_on : Given → State → State
read_on given s = read_at s.turn.stage given s

-- a key was typed
abbrev pub typed : Given → Key → ℤ → State → State
typed given key moment s =
    acting given (waiting (s.turn.queue ++ key ∷ []) (record s { moment = moment }))

-- the folder was checked at a moment
abbrev pub checked_by : Bool → List Mail → ℤ → PlainFound → State → State
checked_by quiet mails moment found s = record s {
  turn = record s.turn { core = found_again quiet mails found s.turn.core };
  listing = listing_behind mails (held_found found) s.listing;
  forgot = false;
  met = s.met + length found.came;
  checked = moment;
}

-- a check was refused at a moment
abbrev pub unchecked_by : Bool → ℤ → ScanError → State → State
unchecked_by quiet moment why s = record s {
  turn = record s.turn { core = refused_again quiet why s.turn.core };
  forgot = forgot_by why s.forgot;
  checked = moment;
}

-- what the event of a check makes of the index and of the listing
abbrev pub looked_by : Bool → List Mail → State → Happening → State
looked_by quiet mails s (FolderChecked moment found marks) =
    checked_by quiet mails moment found s
looked_by quiet mails s (CheckRefused moment why marks) = unchecked_by quiet moment why s
looked_by quiet mails s _ = s

-- behind the check that follows a sync the run is over, or the keys go on
abbrev pub behind_check : Bool → Given → State → State
behind_check true given s = at_stage Over s
behind_check false given s = acting given s

-- a check, by the stage: that behind a sync tells nothing, so that the text of the sync stays, and
-- any other comes before a key that was taken
abbrev pub looked_at : Stage → Given → State → Happening → State
looked_at (Checking leaves) given s event =
    behind_check leaves given (looked_by true given.mails s event)
looked_at _ given s event = looked_by false given.mails (taken s) event

-- the run is to end behind a sync that is begun at this stage
abbrev pub quits_at : Stage → Bool
quits_at (Syncing purge quits) = quits
quits_at _ = false

-- a sync was made with these changes: they stand in the listing, and the last line tells of it
abbrev pub synced_by : Bool → List Mail → List Changed → State → State
synced_by quits mails changes s = record s {
  turn = record s.turn {
    core = synced_core mails changes s.turn.core;
    stage = Checking quits;
  };
  listing = listing_synced s.folder.kind changes s.listing;
  refused = false;
}

-- a sync was refused, which the last line tells
abbrev pub unsynced_by : SyncError → State → State
unsynced_by why s = record s {
  turn = record s.turn {
    core = unsynced_core s.folder.path why s.turn.core;
    stage = Checking false;
  };
  refused = true;
}

-- what the event of a sync makes of the state; the run is to end behind it where it quits
abbrev pub written_by : Bool → List Mail → State → Happening → State
written_by quits mails s (FolderSynced changes marks) = synced_by quits mails changes s
written_by quits mails s (SyncRefused changes why marks) = unsynced_by why s
written_by quits mails s _ = s

-- the state that an event leads to by the letters that were met then
abbrev pub arrived_by : Given → State → Happening → State
arrived_by given s (FileRead path text marks) = read_on given (read_in given.verdicts text s)
arrived_by given s (FileRefused path why marks) = read_on given (skipped given.verdicts why s)
arrived_by given s (KeyPressed key moment) = typed given key moment (taken s)
arrived_by given s (FolderOpened path kind moment came marks) =
    opened_by given path kind moment came s
arrived_by given s (FolderRefused path why marks) = at_stage Over s
arrived_by given s (FolderChecked moment found marks) =
    looked_at s.turn.stage given s (FolderChecked moment found marks)
arrived_by given s (CheckRefused moment why marks) =
    looked_at s.turn.stage given s (CheckRefused moment why marks)
arrived_by given s (FolderSynced changes marks) =
    written_by (quits_at s.turn.stage) given.mails s (FolderSynced changes marks)
arrived_by given s (SyncRefused changes why marks) =
    written_by (quits_at s.turn.stage) given.mails s (SyncRefused changes why marks)

-- the state that an event leads to, in which keys may still wait behind an opening
abbrev pub arrived : Given → State → Happening → State
arrived given s event = arrived_by (met_of (met_after s.met event) given) s event

-- the keys that wait behind an opening act
abbrev pub pushed_on : Given → State → State
pushed_on given s = pushed (met_of s.met given) s

-- the state after an event
abbrev pub after : Given → State → Happening → State
after given s (FolderOpened path kind moment came marks) =
    pushed_on given (arrived given s (FolderOpened path kind moment came marks))
after given s event = arrived given s event

-- the state behind events
abbrev pub after_events : Given → State → List Happening → State
after_events given s [] = s
after_events given s (event ∷ events) = after_events given (after given s event) events

-- each event answers the wish of the state before it
abbrev pub IsRunFrom : Given → State → List Happening → Type 0
IsRunFrom given s [] = Unit {0}
IsRunFrom given s (event ∷ events) = Answers s event × IsRunFrom given (after given s event) events

-- the lines of the screen
abbrev pub screen_in : List Mail → State → List (List ℕ)
screen_in mails s = screen mails s.window s.folder s.turn.core

-- a state that wants a key shows its screen, of the letters that were met
abbrev pub stage_screens : Given → Stage → State → List (List (List ℕ))
stage_screens given Idle s = screen_in (met_of s.met given).mails s ∷ []
stage_screens given _ s = []

-- the screens that a state shows
abbrev pub shown : Given → State → List (List (List ℕ))
shown given s = stage_screens given s.turn.stage s

-- the screens, each by its lines: one after each event after which a key is wanted
abbrev pub screens_from : Given → State → List Happening → List (List (List ℕ))
screens_from given s [] = []
screens_from given s (event ∷ events) =
    shown given (after given s event) ++ screens_from given (after given s event) events
