-- How a run goes on by one event.
use Rattle.std.proofs.Common.{◌≡◌, ◌≤◌, ℕ, ℤ, Bool, true, false, List, [], ◌∷◌, ◌++◌, refl, sym}
use Rattle.std.proofs.Common.{◌∙◌, ap, append_assoc, arith, if◌then◌else◌, length, pos, subst}
use Rattle.std.proofs.Common.{take}
use Rattle.std.proofs.lemmas.List.{append-nil, map-append}
use Rattle.folder_letters.specs.Letters.{Mail}
use Rattle.keymap.specs.declared.key.Key.{Key}
use Rattle.session_state.specs.Frames.{PlainFrame}
use Rattle.session_state.specs.declared.stage.Stage.{Stage}
use Rattle.session_state.specs.declared.stage.Stage.TheVariants.{Unopened, Idle, Ready}
use Rattle.session_state.specs.declared.stage.Stage.TheVariants.{Opening, Over, Reading, Syncing}
use Rattle.session_events.specs.Events.{AreFiles, Happening, FileRead, FileRefused, IsFile}
use Rattle.session_events.specs.Events.{KeyPressed, plain_event}
use Rattle.session_events.specs.Events.{plain_events}
use Rattle.session_events.specs.declared.event.Event.{Event}
use Rattle.session_events.specs.declared.event.Marks.{Marks}
use Rattle.patterns.specs.Causes.{Keeps}
use Rattle.people.specs.Judged.{PlainJudged}
use Rattle.session.specs.Checking.{is_due}
use Rattle.session.specs.Given.{Given, IsGiven, IsGivenOn, given_of, met_of}
use Rattle.session.specs.Runs.{Answers, IsRunFrom, State, after, after_events, screens_from}
use Rattle.session_events.specs.Happened.{met_after}
use Rattle.session_events.specs.Wishes.{Check, Press, Source, answered, moment_of}
use Rattle.session.specs.Runs.{arrived, arrived_by, begin_behind, going_on, ground, learning}
use Rattle.session.specs.Runs.{pushed, pushed_on, putting}
use Rattle.session.specs.Runs.{read_at, read_in, shown}
use Rattle.session.specs.Runs.{skipped, stage_screens, taken, taken_at, typed, waiting, wish}
use Rattle.session.specs.Runs.{wish_at, with_core}
use Rattle.session.specs.Opening.{begun_in}
use Rattle.session.specs.Showing.{resumed}
use Rattle.mail_base.specs.declared.kind.Kind.{Kind}
use Rattle.disk_model.specs.Seen.{Seen}
use Rattle.session.specs.Starting.{PlainSetup, first_state}
use Rattle.session.specs.Steps.{GoesOn, IsLent, IsSettled, IsTaken}
use Rattle.session.specs.Steps.{ReadsFiles, Sources, SourcesOff, Stands, StaysTold}
use Rattle.session.specs.Telling.{Driverless, Witnessed}
use Rattle.session_events.specs.Telling.{HasFileCause, TellsFile}
use Rattle.session.proofs.GivenLemmas.{given_here, given_met, given_on, keeps_then}
use Rattle.session.proofs.SettlingLemmas.{turn_settles}
use Rattle.session.proofs.TellingLemmas.{each_are, each_faults, file_is, files_more, witnessed_each}
use Rattle.session.proofs.TellingLemmas.{witnessed_key, witnessed_none}

pub after-append : (given : Given) (s : State) (xs ys : List Happening)
    → after_events given s (xs ++ ys) ≡ after_events given (after_events given s xs) ys
after-append given s [] ys = refl
after-append given s (x ∷ xs) ys = after-append given (after given s x) xs ys

run-append : (given : Given) (s : State) (xs ys : List Happening) → IsRunFrom given s xs
    → IsRunFrom given (after_events given s xs) ys → IsRunFrom given s (xs ++ ys)
run-append given s [] ys front rest = rest
run-append given s (x ∷ xs) ys front rest =
    (front.0, run-append given (after given s x) xs ys front.1 rest)

screens-append : (given : Given) (s : State) (xs ys : List Happening)
    → screens_from given s (xs ++ ys)
    ≡ screens_from given s xs ++ screens_from given (after_events given s xs) ys
screens-append given s [] ys = refl
screens-append given s (x ∷ xs) ys =
    ap (λ (l : List (List (List ℕ))). shown given (after given s x) ++ l)
    (screens-append given (after given s x) xs ys)
    ∙ sym (append_assoc (shown given (after given s x)) (screens_from given (after given s x) xs)
    (screens_from given (after_events given (after given s x) xs) ys))

module _ (given : Given) (first s : State) (events : List Happening)
    (event : Happening) where
  -- an event that answers the wish
  pub stands_push : (screens : List (List (List ℕ))) → Stands given first events s screens
      → Answers s event
      → Stands given first (events ++ event ∷ []) (after given s event)
      (screens ++ shown given (after given s event))
  stands_push screens stands answers = record {
    run = run-append given first events (event ∷ []) stands.run
        (subst (λ (t : State). IsRunFrom given t (event ∷ [])) (sym stands.state_is) (answers, tt));
    state_is = after-append given first events (event ∷ [])
        ∙ ap (λ (t : State). after given t event) stands.state_is;
    screens_are = screens-append given first events (event ∷ [])
        ∙ ap (λ (l : List (List (List ℕ))).
        l ++ screens_from given (after_events given first events) (event ∷ [])) stands.screens_are
        ∙ ap (λ (t : State). screens ++ screens_from given t (event ∷ [])) stands.state_is
        ∙ ap (λ (l : List (List (List ℕ))). screens ++ l)
        (append-nil (shown given (after given s event)));
  }

-- a key was typed over the letters that were met
abbrev typed_on : Given → Key → ℤ → State → State
typed_on given key moment s = typed (met_of s.met given) key moment s

-- a key that is taken meets no letter
taken_met : (stage : Stage) (s : State) → (taken_at stage s).met ≡ s.met
taken_met Idle s = refl
taken_met _ s = refl

-- a key that was taken is pressed
pub stands_pressed : (given : Given) (first s : State) (events : List Happening) (key : Key)
    (moment : ℤ) (screens : List (List (List ℕ))) → IsTaken given first events s moment screens
    → Stands given first (events ++ KeyPressed key moment ∷ []) (typed_on given key moment s)
    (screens ++ shown given (typed_on given key moment s))
stands_pressed given first s events key moment screens is =
    subst (λ (t : State). Stands given first (events ++ KeyPressed key moment ∷ [])
    (typed_on given key moment t) (screens ++ shown given (typed_on given key moment t)))
    is.taken_is
    (subst (λ (n : ℕ). Stands given first (events ++ KeyPressed key moment ∷ [])
    (typed (met_of n given) key moment (taken is.before))
    (screens ++ shown given (typed (met_of n given) key moment (taken is.before))))
    (sym (taken_met is.before.turn.stage is.before))
    (stands_push given first is.before events (KeyPressed key moment) screens is.stands
    is.wishes))

-- a run that shows a state goes on to it
pub stands_goes : {given : Given} {first s : State} {events : List Happening}
    {screens : List (List (List ℕ))} {notes : List (List ℕ)} (more : List (List ℕ))
    → s.notes ≡ notes ++ more → Stands given first events s (screens ++ shown given s)
    → GoesOn given first events screens notes
stands_goes {given} {first} {s} {events} {screens} {notes} more is stands = record {
  run = stands.run;
  screens_are = stands.screens_are
      ∙ ap (λ (t : State). screens ++ shown given t) (sym stands.state_is);
  more = more;
  noted = ap (λ (t : State). t.notes) stands.state_is ∙ is;
}

-- the same by what it leads to
pub goes_stands : {given : Given} {first s : State} {events : List Happening}
    {screens : List (List (List ℕ))} {notes : List (List ℕ)}
    → GoesOn given first events screens notes → after_events given first events ≡ s
    → Stands given first events s (screens ++ shown given s)
goes_stands {given} {first} {s} {events} {screens} {notes} goes is = record {
  run = goes.run;
  state_is = is;
  screens_are = goes.screens_are ∙ ap (λ (t : State). screens ++ shown given t) is;
}

-- fewer notes stood before
pub goes_from : {given : Given} {first : State} {events : List Happening}
    {screens : List (List (List ℕ))} (notes more later : List (List ℕ)) → later ≡ notes ++ more
    → GoesOn given first events screens later → GoesOn given first events screens notes
goes_from {given} {first} {events} {screens} notes more later is goes = record {
  run = goes.run;
  screens_are = goes.screens_are;
  more = more ++ goes.more;
  noted = goes.noted ∙ ap (λ (l : List (List ℕ)). l ++ goes.more) is
      ∙ append_assoc notes more goes.more;
}

-- a run goes on twice
pub goes_then : {given : Given} {first s : State} {mid later : List Happening}
    {screens : List (List (List ℕ))} {notes : List (List ℕ)}
    → GoesOn given first mid screens notes → after_events given first mid ≡ s
    → (Stands given first mid s (screens ++ shown given s)
    → GoesOn given first later screens s.notes)
    → GoesOn given first later screens notes
goes_then {given} {first} {s} {mid} {later} {screens} {notes} goes is next =
    goes_from notes goes.more s.notes (sym (ap (λ (t : State). t.notes) is) ∙ goes.noted)
    (next (goes_stands goes is))

pub goes_same : {given : Given} {first : State} {events events' : List Happening}
    {screens : List (List (List ℕ))} {notes : List (List ℕ)} → events' ≡ events
    → GoesOn given first events screens notes → GoesOn given first events' screens notes
goes_same {given} {first} {events} {events'} {screens} {notes} same goes =
    subst (λ (l : List Happening). GoesOn given first l screens notes) (sym same) goes

pub run_same : (given : Given) (first : State) {events events' : List Happening}
    → events' ≡ events → IsRunFrom given first events → IsRunFrom given first events'
run_same given first same run = subst (IsRunFrom given first) (sym same) run

pub told_same : {Has : Kind → Type 0} {given : Given} {first : State}
    {events same : List Happening} {before seen : Seen} → same ≡ events
    → Witnessed Has given first events before seen → Witnessed Has given first same before seen
told_same {Has} {given} {first} {events} {same} {before} {seen} is h =
    subst (λ (l : List Happening). Witnessed Has given first l before seen) (sym is) h

pub to_same : (given : Given) (first : State) {s : State} {events events' : List Happening}
    → events' ≡ events → after_events given first events ≡ s
    → after_events given first events' ≡ s
to_same given first same is = ap (after_events given first) same ∙ is

-- What a key does.
module _ (key : Key) (moment : ℤ) (old : State) (events events' : List Happening)
    (put : events' ≡ events ++ KeyPressed key moment ∷ []) (ready : old.turn.stage ≡ Ready)
  where
    still : taken old ≡ old
    still = ap (λ (stage : Stage). taken_at stage old) ready

    module _ (given : Given) (first : State) (screens : List (List (List ℕ)))
        (is : IsTaken given first events old moment screens) where
      pressed_stands : Stands given first events' (typed_on given key moment old)
          (screens ++ shown given (typed_on given key moment old))
      pressed_stands =
          subst (λ (l : List Happening). Stands given first l (typed_on given key moment old)
          (screens ++ shown given (typed_on given key moment old))) (sym put)
          (stands_pressed given first old events key moment screens is)

      -- the key was told
      pub key_goes : GoesOn given first events' screens old.notes
      key_goes = stands_goes [] (sym (append-nil old.notes)) pressed_stands

      -- and acted
      pub key_stands : (new : State) → new ≡ arrived given old (KeyPressed key moment)
          → Stands given first events' new (screens ++ shown given new)
      key_stands new arrives =
          subst (λ (t : State). Stands given first events' t (screens ++ shown given t))
          (sym (arrives ∙ ap (typed (met_of old.met given) key moment) still)) pressed_stands

    pub key_notes : (given : Given) (new : State) → new ≡ arrived given old (KeyPressed key moment)
        → new.notes ≡ old.notes ++ []
    key_notes given new arrives =
        ap (λ (t : State). t.notes)
        (arrives ∙ ap (typed (met_of old.met given) key moment) still)
        ∙ sym (append-nil old.notes)

pub key_told : (Has : Kind → Type 0) (key : Key) (moment : ℤ) (events events' : List Happening)
    (now : Seen) → events' ≡ events ++ KeyPressed key moment ∷ []
    → StaysTold Has events events' now now
key_told Has key moment events events' now put given first before h =
    subst (λ (l : List Happening). Witnessed Has given first l before now) (sym put)
    (witnessed_key Has given first events key moment before now h)

-- an event that was put
pub put_plain : (old new : List Event) (event : Event) (is : Happening)
    → new ≡ old ++ event ∷ [] → plain_event event ≡ is
    → plain_events new ≡ plain_events old ++ is ∷ []
put_plain old new event is put same =
    ap plain_events put ∙ map-append plain_event old (event ∷ [])
    ∙ ap (λ (e : Happening). plain_events old ++ e ∷ []) same

-- a typed key has settled
pub key_settles : {mails : List Mail} {kept : List PlainJudged} (key : Key) (moment : ℤ)
    (old new : State) (event : Happening) → event ≡ KeyPressed key moment
    → ((given : Given) → IsGivenOn mails kept given → new ≡ arrived given old event)
    → IsSettled new.turn.stage new.turn.core.frames
key_settles {mails} {kept} key moment old new event is arrives =
    let given = given_of mails kept in
    let s : State = taken old in
    subst (λ (t : State). IsSettled t.turn.stage t.turn.core.frames)
    (sym (arrives given (given_here mails kept) ∙ ap (arrived given old) is))
    (turn_settles (ground (met_of old.met given) (record s { moment = moment }))
    (waiting (s.turn.queue ++ key ∷ []) (record s { moment = moment })).turn)

push_settles : (given : Given) (s : State) (frames : List PlainFrame) → s.turn.core.frames ≡ frames
    → IsSettled (begin_behind given frames s).turn.stage
    (begin_behind given frames s).turn.core.frames
push_settles given s [] is =
    let begun : State = putting (with_core (begun_in given.mails s.turn.core) s) in
    turn_settles (ground given begun) begun.turn
push_settles given s (frame ∷ frames) is = λ none.
    absurd (let no : frame ∷ frames ≡ [] = sym is ∙ none in cc)

-- so have keys that commands have put, or a file is to be read first
pub pushed_settles : {mails : List Mail} {kept : List PlainJudged} (old new : State)
    → ((given : Given) → IsGivenOn mails kept given → new ≡ pushed_on given old)
    → IsSettled new.turn.stage new.turn.core.frames
pushed_settles {mails} {kept} old new goes =
    subst (λ (t : State). IsSettled t.turn.stage t.turn.core.frames)
    (sym (goes (given_of mails kept) (given_here mails kept)))
    (push_settles (met_of old.met (given_of mails kept)) old old.turn.core.frames refl)

-- files that were read are told
pub files_told : (Has : Kind → Type 0) (a b : List Happening) (now next : Seen)
    → ReadsFiles a b now next → StaysTold Has a b now next
files_told Has a b now next reads given first before h =
    subst (λ (l : List Happening). Witnessed Has given first l before next) (sym reads.added)
    (witnessed_each Has given first a reads.files before now next reads.each h)

-- Files of commands.

-- no event yet
pub sources_begun : (kept : List PlainJudged) (first s : State) (events : List Happening)
    (now : Seen) → s ≡ first → events ≡ [] → Sources kept first events s now now
sources_begun kept first s events now same none =
    subst (λ (l : List Happening). Sources kept first l s now now) (sym none) (record {
      are = tt;
      stands = λ given keeps. record { run = tt; state_is = sym same; screens_are = refl };
      window = ap (λ (t : State). t.window) same;
      told = λ given keeps. witnessed_none Driverless given first now;
      faults = omega arith;
    })

-- no further event
pub sources_off : {kept : List PlainJudged} (first s : State) (events events' : List Happening)
    (before now next : Seen) → events' ≡ events → next ≡ now
    → Sources kept first events s before now → SourcesOff kept first events' before next
sources_off {kept} first s events events' before now next same still sources =
    subst (λ (l : List Happening). SourcesOff kept first l before next) (sym same)
    (subst (λ (n : Seen). SourcesOff kept first events before n) (sym still) (record {
      are = sources.are;
      run = λ given keeps. (sources.stands given keeps).run;
      screens_are = λ given keeps. (sources.stands given keeps).screens_are;
      told = sources.told;
      faults = sources.faults;
    }))

-- A file of commands.

going_keeps : (given : Given) (frames : List PlainFrame) (s : State)
    → ((going_on given frames s).notes ≡ s.notes) × ((going_on given frames s).window ≡ s.window)
going_keeps given [] s = (refl, refl)
going_keeps given (frame ∷ frames) s = (refl, refl)

-- the keys that commands have put leave what was told, and the window
pub begin_keeps : (given : Given) (frames : List PlainFrame) (s : State)
    → ((begin_behind given frames s).notes ≡ s.notes)
    × ((begin_behind given frames s).window ≡ s.window)
begin_keeps given [] s = (refl, refl)
begin_keeps given (frame ∷ frames) s = (refl, refl)

-- what keys make of it leaves what was told, and the window
read_keeps : (stage : Stage) (given : Given) (s : State)
    → ((read_at stage given s).notes ≡ s.notes) × ((read_at stage given s).window ≡ s.window)
read_keeps Opening given s =
    begin_keeps given (learning given s).turn.core.frames (learning given s)
read_keeps Reading given s =
    going_keeps given (learning given s).turn.core.frames (learning given s)
read_keeps _ given s = (refl, refl)

file_notes : (given : Given) (s : State) (event : Happening) (marks : Marks)
    → HasFileCause event marks
    → (more : List (List ℕ)) × ((arrived given s event).notes ≡ s.notes ++ more)
file_notes given s (FileRead path text kept) marks cause =
    (_, (read_keeps s.turn.stage (met_of s.met given) (read_in given.verdicts text s)).0)
file_notes given s (FileRefused path why kept) marks cause =
    (_, (read_keeps s.turn.stage (met_of s.met given) (skipped given.verdicts why s)).0)
file_notes given s _ marks cause = absurd cause

-- Before a folder is open it leaves the stage, and the letters have no say.

unopened_read : (stage : Stage) (given : Given) (s : State) → stage ≡ Unopened
    → read_at stage given s ≡ s
unopened_read Unopened given s is = refl
unopened_read _ given s is = absurd (cc)

module _ (mails : List Mail) (given : Given) (s : State) (unopened : s.turn.stage ≡ Unopened) where
  read_same : (t : State) → t.turn.stage ≡ Unopened
      → read_at t.turn.stage given t ≡ read_at t.turn.stage (given_of mails given.verdicts) t
  read_same t is = unopened_read t.turn.stage given t is
      ∙ sym (unopened_read t.turn.stage (given_of mails given.verdicts) t is)

  file_same_by : (event : Happening) → IsFile event
      → arrived_by given s event ≡ arrived_by (given_of mails given.verdicts) s event
  file_same_by (FileRead path text kept) is =
      read_same (read_in given.verdicts text s) unopened
  file_same_by (FileRefused path why kept) is =
      read_same (skipped given.verdicts why s) unopened
  file_same_by _ is = absurd is

-- the letters that are given have no say
file_same : (mails : List Mail) (given : Given) (s : State) → s.turn.stage ≡ Unopened
    → (event : Happening) → IsFile event
    → arrived given s event ≡ arrived (given_of mails given.verdicts) s event
file_same mails given s unopened event is =
    let letters : List Mail = take (met_after s.met event) mails in
    file_same_by letters (met_of (met_after s.met event) given) s unopened event is

file_unopened : (given : Given) (s : State) (event : Happening) → IsFile event
    → s.turn.stage ≡ Unopened → (arrived given s event).turn.stage ≡ Unopened
file_unopened given s (FileRead path text kept) is unopened =
    ap (λ (t : State). t.turn.stage) (unopened_read s.turn.stage (met_of s.met given)
    (read_in given.verdicts text s) unopened) ∙ unopened
file_unopened given s (FileRefused path why kept) is unopened =
    ap (λ (t : State). t.turn.stage) (unopened_read s.turn.stage (met_of s.met given)
    (skipped given.verdicts why s) unopened) ∙ unopened
file_unopened given s _ is unopened = absurd is

-- what arrives by all letters arrives by those that were met
pub arrives_on : {mails : List Mail} {kept : List PlainJudged} (s t : State) (event : Happening)
    → met_after s.met event ≡ length mails
    → ((given : Given) → IsGiven mails kept given → t ≡ arrived_by given s event)
    → (given : Given) → IsGivenOn mails kept given → t ≡ arrived given s event
arrives_on {mails} {kept} s t event met arrives given is =
    subst (λ (n : ℕ). t ≡ arrived_by (met_of n given) s event) (sym met)
    (arrives (met_of (length mails) given) (given_met is))

-- and so it is of the keys that wait behind an opening
pub pushes_on : {mails : List Mail} {kept : List PlainJudged} (s t : State)
    → s.met ≡ length mails → ((given : Given) → IsGiven mails kept given → t ≡ pushed given s)
    → (given : Given) → IsGivenOn mails kept given → t ≡ pushed_on given s
pushes_on {mails} {kept} s t met acts given is =
    subst (λ (n : ℕ). t ≡ pushed (met_of n given) s) (sym met)
    (acts (met_of (length mails) given) (given_met is))

-- the event of a file leads to what arrives
file_after : (given : Given) (s : State) (event : Happening) → IsFile event
    → after given s event ≡ arrived given s event
file_after given s (FileRead path text kept) is = refl
file_after given s (FileRefused path why kept) is = refl
file_after given s _ is = absurd is

pub after_unopened : (given : Given) (s : State) (event : Happening) → IsFile event
    → s.turn.stage ≡ Unopened → (after given s event).turn.stage ≡ Unopened
after_unopened given s event is unopened =
    ap (λ (t : State). t.turn.stage) (file_after given s event is)
    ∙ file_unopened given s event is unopened

pub files_unopened : (given : Given) (s : State) (files : List Happening) → AreFiles files
    → s.turn.stage ≡ Unopened → (after_events given s files).turn.stage ≡ Unopened
files_unopened given s [] are unopened = unopened
files_unopened given s (event ∷ files) are unopened =
    files_unopened given (after given s event) files are.1
    (after_unopened given s event are.0 unopened)

-- Behind keys it leaves a turn that has settled.

going_settles : (given : Given) (frames : List PlainFrame) (s : State) → s.turn.stage ≡ Reading
    → s.turn.core.frames ≡ frames
    → IsSettled (going_on given frames s).turn.stage (going_on given frames s).turn.core.frames
going_settles given [] s is read =
    turn_settles (ground given s) (with_core (resumed given.mails s.turn.core) s).turn
going_settles given (frame ∷ frames) s is read =
    subst (λ (stage : Stage). IsSettled stage s.turn.core.frames) (sym is)
    (λ none. absurd (let no : frame ∷ frames ≡ [] = sym read ∙ none in cc))

read_settles : (stage : Stage) (given : Given) (old s : State) → old.turn.stage ≡ stage
    → s.turn.stage ≡ stage → IsSettled old.turn.stage old.turn.core.frames
    → IsSettled (read_at stage given s).turn.stage (read_at stage given s).turn.core.frames
read_settles Idle given old s was is h =
    subst (λ (stage : Stage). IsSettled stage (learning given s).turn.core.frames) (sym is) tt
read_settles Opening given old s was is h =
    push_settles given (learning given s) (learning given s).turn.core.frames refl
read_settles Reading given old s was is h =
    going_settles given (learning given s).turn.core.frames (learning given s) is refl
read_settles (Syncing purge quits) given old s was is h =
    subst (λ (stage : Stage). IsSettled stage (learning given s).turn.core.frames) (sym is) tt
read_settles Over given old s was is h =
    subst (λ (stage : Stage). IsSettled stage (learning given s).turn.core.frames) (sym is) tt
read_settles _ given old s was is h = absurd
    (subst (λ (stage : Stage). IsSettled stage old.turn.core.frames) was h)

file_settles : (given : Given) (s : State) (event : Happening) → IsFile event
    → IsSettled s.turn.stage s.turn.core.frames
    → IsSettled (arrived given s event).turn.stage (arrived given s event).turn.core.frames
file_settles given s (FileRead path text kept) is h =
    read_settles s.turn.stage (met_of s.met given) s (read_in given.verdicts text s) refl refl h
file_settles given s (FileRefused path why kept) is h =
    read_settles s.turn.stage (met_of s.met given) s (skipped given.verdicts why s) refl refl h
file_settles given s _ is h = absurd is

-- a key that is typed wishes no file
no_source : (due : Bool) (moment : ℤ) (path : List ℕ)
    → (if due then Check moment else Press moment) ≡ Source path → ⊥
no_source true moment path is = cc
no_source false moment path is = cc

-- A stage at which a file is wished shows nothing.
wishes_unshown : (given : Given) (s t : State) (stage : Stage) (moment : ℤ) (path : List ℕ)
    → wish_at stage s moment ≡ Source path → stage_screens given stage t ≡ []
wishes_unshown given s t Idle moment path is = absurd
    (no_source (is_due s.refused s.checked s.turn.core moment) moment path is)
wishes_unshown given s t _ moment path is = refl

file_path : (event : Happening) → IsFile event → (path : List ℕ) × (answered event ≡ Source path)
file_path (FileRead path text kept) is = (path, refl)
file_path (FileRefused path why kept) is = (path, refl)
file_path _ is = absurd is

-- A file that was wished was looked for.
module _ (s : State) (events events' : List Happening)
    (event : Happening) (now next : Seen) (put : events' ≡ events ++ event ∷ [])
    (tells : TellsFile event now next)
    (wished : (moment : ℤ) → wish s moment ≡ answered event) where
  is_file : IsFile event
  is_file = file_is event tells.marks tells.cause

  unshown : (given : Given) → shown given s ≡ []
  unshown given =
      let path = file_path event is_file in
      wishes_unshown given s s s.turn.stage (pos 0) path.0 (wished (pos 0) ∙ path.1)

  module _ (given : Given) (first : State) where
    file_stands : (screens : List (List (List ℕ)))
        → Stands given first events s (screens ++ shown given s)
        → Stands given first events' (arrived given s event)
        (screens ++ shown given (arrived given s event))
    file_stands screens stands =
        let bare : Stands given first events s screens =
        subst (λ (l : List (List (List ℕ))). Stands given first events s l)
        (ap (λ (l : List (List (List ℕ))). screens ++ l) (unshown given) ∙ append-nil screens)
        stands in
        subst (λ (l : List Happening). Stands given first l (arrived given s event)
        (screens ++ shown given (arrived given s event))) (sym put)
        (subst (λ (t : State). Stands given first (events ++ event ∷ []) t
        (screens ++ shown given t)) (file_after given s event is_file)
        (stands_push given first s events event screens bare (wished (moment_of event))))

    pub file_goes : (screens : List (List (List ℕ)))
        → Stands given first events s (screens ++ shown given s)
        → GoesOn given first events' screens s.notes
    file_goes screens stands =
        let more = file_notes given s event tells.marks tells.cause in
        stands_goes more.0 more.1 (file_stands screens stands)

    pub file_leads : (t : State) → t ≡ arrived given s event → after_events given first events ≡ s
        → after_events given first events' ≡ t
    file_leads t arrives is =
        ap (after_events given first) put ∙ after-append given first events (event ∷ [])
        ∙ ap (λ (u : State). after given u event) is ∙ file_after given s event is_file
        ∙ sym arrives

  pub file_reads : ReadsFiles events events' now next
  file_reads = record { files = event ∷ []; added = put; each = (next, tells, refl) }

  -- what arrives by the letters of the call arrives by what is lent
  lent_by : {mails : List Mail} {kept : List PlainJudged} (stage : Stage) → s.turn.stage ≡ stage
      → (given : Given)
      → IsLent stage mails kept given → (t : State)
      → ((other : Given) → IsGivenOn mails kept other → t ≡ arrived other s event)
      → t ≡ arrived given s event
  lent_by {mails} Unopened is given lent t arrives =
      arrives (given_of mails given.verdicts) (given_on mails given lent)
      ∙ sym (file_same mails given s is event is_file)
  lent_by _ is given lent t arrives = arrives given lent

  module _ {mails : List Mail} {kept : List PlainJudged} (t : State)
      (arrives : (given : Given) → IsGivenOn mails kept given → t ≡ arrived given s event) where
    pub file_arrives : (given : Given) → IsLent s.turn.stage mails kept given
        → t ≡ arrived given s event
    file_arrives given lent = lent_by s.turn.stage refl given lent t arrives

    here : t ≡ arrived (given_of mails kept) s event
    here = arrives (given_of mails kept) (given_here mails kept)

    pub file_stays : s.turn.stage ≡ Unopened → t.turn.stage ≡ Unopened
    file_stays unopened =
        ap (λ (u : State). u.turn.stage) here
        ∙ file_unopened (given_of mails kept) s event is_file unopened

    pub file_has_settled : IsSettled s.turn.stage s.turn.core.frames
        → IsSettled t.turn.stage t.turn.core.frames
    file_has_settled h =
        subst (λ (u : State). IsSettled u.turn.stage u.turn.core.frames) (sym here)
        (file_settles (given_of mails kept) s event is_file h)

-- Files of commands were read before a folder is open.
module _ (mails : List Mail) {kept kept' : List PlainJudged} (first s : State)
    (events events' : List Happening) (notes : List (List ℕ)) (before now next : Seen)
    (unopened : s.turn.stage ≡ Unopened) (reads : ReadsFiles events events' now next)
    (more : Keeps kept kept')
    (on : (given : Given) → IsLent s.turn.stage mails kept' given → (first : State)
    → (screens : List (List (List ℕ))) → Stands given first events s (screens ++ shown given s)
    → GoesOn given first events' screens notes)
    (sources : Sources kept first events s before now) where
  module _ (given : Given) (keeps : Keeps kept' given.verdicts) where
    stood : Stands given first events s []
    stood = sources.stands given (keeps_then more keeps)

    lent : IsLent s.turn.stage mails kept' given
    lent = subst (λ (stage : Stage). IsLent stage mails kept' given) (sym unopened) keeps

    goes : GoesOn given first events' [] notes
    goes = on given lent first []
        (subst (λ (l : List (List (List ℕ))). Stands given first events s l)
        (sym (ap (λ (stage : Stage). stage_screens given stage s) unopened)) stood)

    later : (after_events given first events').turn.stage ≡ Unopened
    later =
        ap (λ (l : List Happening). (after_events given first l).turn.stage) reads.added
        ∙ ap (λ (t : State). t.turn.stage) (after-append given first events reads.files)
        ∙ files_unopened given (after_events given first events) reads.files
        (each_are reads.files now next reads.each)
        (ap (λ (t : State). t.turn.stage) stood.state_is ∙ unopened)

    none_shown : screens_from given first events' ≡ []
    none_shown = goes.screens_are ∙ ap (λ (stage : Stage). stage_screens given stage
        (after_events given first events')) later

    told : Witnessed Driverless given first events' before next
    told = files_told Driverless events events' now next reads given first before
        (sources.told given (keeps_then more keeps))

  files_are : AreFiles events'
  files_are = subst AreFiles (sym reads.added) (files_more events reads.files sources.are
      (each_are reads.files now next reads.each))

  fewer : before.faults ≤ next.faults
  fewer = omega (arith, sources.faults, each_faults reads.files now next reads.each)

  pub sources_broken : SourcesOff kept' first events' before next
  sources_broken = record {
    are = files_are;
    run = λ given keeps. (goes given keeps).run;
    screens_are = none_shown;
    told = told;
    faults = fewer;
  }

  pub sources_read : (t : State) → t.window ≡ s.window
      → ((given : Given) → IsLent s.turn.stage mails kept' given → (first : State)
      → after_events given first events ≡ s → after_events given first events' ≡ t)
      → Sources kept' first events' t before next
  sources_read t window to = record {
    are = files_are;
    stands = λ given keeps. record {
      run = (goes given keeps).run;
      state_is = to given (lent given keeps) first (stood given keeps).state_is;
      screens_are = none_shown given keeps;
    };
    window = window ∙ sources.window;
    told = told;
    faults = fewer;
  }

-- The same from the first state.
module _ (mails : List Mail) {kept kept' : List PlainJudged} (first s : State)
    (events events' : List Happening) (notes : List (List ℕ)) (now next : Seen) (same : s ≡ first)
    (none : events ≡ []) (unopened : first.turn.stage ≡ Unopened)
    (reads : ReadsFiles events events' now next) (more : Keeps kept kept')
    (on : (given : Given) → IsLent s.turn.stage mails kept' given → (first : State)
    → (screens : List (List (List ℕ))) → Stands given first events s (screens ++ shown given s)
    → GoesOn given first events' screens notes) where
  begun : Sources kept first events s now now
  begun = sources_begun kept first s events now same none

  here_unopened : s.turn.stage ≡ Unopened
  here_unopened = ap (λ (t : State). t.turn.stage) same ∙ unopened

  pub begun_off : SourcesOff kept' first events' now next
  begun_off = sources_broken mails first s events events' notes now now next here_unopened reads
      more on begun

  pub begun_read : (t : State) → t.window ≡ s.window
      → ((given : Given) → IsLent s.turn.stage mails kept' given → (first : State)
      → after_events given first events ≡ s → after_events given first events' ≡ t)
      → Sources kept' first events' t now next
  begun_read t window to = sources_read mails first s events events' notes now now next
      here_unopened reads more on begun t window to

-- A moment that is the same.

pub sources_at : {kept : List PlainJudged} {events : List Happening} {s : State}
    {before now : Seen} (setup : PlainSetup) (a b : ℤ) → a ≡ b
    → Sources kept (first_state setup a) events s before now
    → Sources kept (first_state setup b) events s before now
sources_at {kept} {events} {s} {before} {now} setup a b same sources =
    subst (λ (m : ℤ). Sources kept (first_state setup m) events s before now) same sources

pub off_at : {kept : List PlainJudged} {events : List Happening} {before now : Seen}
    (setup : PlainSetup) (a b : ℤ) → a ≡ b → SourcesOff kept (first_state setup a) events before now
    → SourcesOff kept (first_state setup b) events before now
off_at {kept} {events} {before} {now} setup a b same off =
    subst (λ (m : ℤ). SourcesOff kept (first_state setup m) events before now) same off
