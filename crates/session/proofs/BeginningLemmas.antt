-- How a run goes on behind its files of commands.
use Rattle.std.proofs.Common.{◌≡◌, ◌≤◌, ◌++◌, ℕ, ℤ, List, [], ◌∷◌, Option, Some, None, inl, inr}
use Rattle.std.proofs.Common.{◌<◌, Bool, false}
use Rattle.std.proofs.Common.{◌+◌, Result, Ok, Err, refl, sym, ◌∙◌, ap, subst, arith, length, take}
use Rattle.std.specs.List.{All}
use Rattle.std.specs.Prelude.{IfErr, IfOk, IsErrAnd, IsOk, OnOk, map}
use Rattle.std.proofs.lemmas.List.{append-nil}
use Rattle.std.proofs.lemmas.Option.{none-some}
use Rattle.mail_base.specs.Faults.{Rose}
use Rattle.mail_base.specs.Series.{Held, plain_texts}
use Rattle.mail_base.specs.declared.kind.Kind.{Kind}
use Rattle.mail_base.specs.declared.series.NoMemory.{NoMemory}
use Rattle.disk_model.specs.Journal.{Past}
use Rattle.disk_model.specs.Seen.{Seen}
use Rattle.folder_letters.specs.Letters.{Mail}
use Rattle.folder_letters.specs.declared.listing.Listed.{Listed}
use Rattle.folder_core.specs.Keeping.{ids_differ}
use Rattle.folder_core.specs.Right.{Right}
use Rattle.folder_core.proofs.RightLemmas.{rise_differ}
use Rattle.patterns.specs.Causes.{Keeps}
use Rattle.people.specs.Judged.{PlainJudged}
use Rattle.folder_core.specs.declared.error.ScanError.TheVariants as scan
use Rattle.session_state.specs.declared.stage.Stage.{Stage}
use Rattle.session_state.specs.declared.stage.Stage.TheVariants.{Over, Unopened}
use Rattle.session_state.specs.Frames.{PlainFrame}
use Rattle.session_screen.specs.Places.{folder_path}
use Rattle.session_state.specs.Instants.{IsMoment}
use Rattle.session.specs.Calls.{IsOpenIn, letters_in}
use Rattle.session.specs.declared.session_type.Session.{Session}
use Rattle.session.proofs.CheckedLemmas.{ok_given}
use Rattle.session_state.specs.Rules.{answer_line}
use Rattle.session_events.specs.declared.event.Marks.{Marks}
use Rattle.session_events.specs.declared.event.OpenFault.{OpenFault}
use Rattle.session_events.specs.declared.event.OpenFault.TheVariants.{Taken, NoDriver, Folder}
use Rattle.session_events.specs.declared.setup.StartError.{StartError}
use Rattle.session_events.specs.declared.setup.StartError.TheVariants as error
use Rattle.session.specs.Beginning.{AnswersNames, BeginsRun, EndsStart, Fails, IsNoted, IsRefused}
use Rattle.session.specs.Beginning.{Starts}
use Rattle.session_events.specs.Events.{AreFiles, Happening, FolderOpened, FolderRefused}
use Rattle.session_events.specs.Events.{plain_event}
use Rattle.session_events.specs.Events.{plain_events}
use Rattle.session_events.specs.declared.event.Event.{Event}
use Rattle.session_events.specs.declared.event.Trace.{Trace}
use Rattle.session.specs.Given.{Given, given_of, met_of}
use Rattle.session_events.proofs.CheckLemmas.{tells_more}
use Rattle.session_events.specs.Checking.{IsOpen}
use Rattle.session_events.specs.Happened.{AllMet, Counts, HasCause, IsFresh, IsKnownOf, IsListed}
use Rattle.session_events.specs.Happened.{Standing, met_after}
use Rattle.session_events.proofs.MetLemmas.{met_opening}
use Rattle.session_events.specs.declared.open_folder.OpenFolder.{OpenFolder}
use Rattle.session.specs.Telling.{standing_of}
use Rattle.session_events.specs.Opening.{IsOpenAs, IsOpening, OpensPath, refusal_of, start_error}
use Rattle.session.specs.Runs.{Answers, State, after, after_events, arrived, at_stage, file_wish}
use Rattle.session.specs.Runs.{opened_by, plain_session}
use Rattle.session_events.specs.Wishes.{Open, moment_of}
use Rattle.session.specs.Runs.{pushed_on, shown, wish_at}
use Rattle.session.specs.Steps.{GoesOn, IsFileless, Sources, SourcesOff, Stands, Waits}
use Rattle.session.specs.Telling.{Driverless, Witnessed}
use Rattle.session.proofs.StepsLemmas.{begin_keeps, put_plain, stands_goes, stands_push}
use Rattle.session.proofs.TellingLemmas.{witnessed_files, witnessed_push}

-- the keys that commands have put acted
pub waits_then : (given : Given) (first s t : State) (events : List Happening)
    → t ≡ pushed_on given s → Waits given first events s
    → Stands given first events t (shown given t)
waits_then given first s t events is waits =
    subst (λ (u : State). Stands given first events u (shown given u)) (sym is) (record {
      run = waits.run;
      state_is = waits.state_is;
      screens_are = waits.screens_are;
    })

-- they were broken off
pub waits_on : {given : Given} {first s : State} {events : List Happening}
    → Waits given first events s → GoesOn given first events [] s.notes
waits_on {given} {first} {s} {events} waits =
    stands_goes {s = pushed_on given s} []
    ((begin_keeps (met_of s.met given) s.turn.core.frames s).0 ∙ sym (append-nil s.notes))
    (waits_then given first s (pushed_on given s) events refl waits)

rose_wider : (a b c d : ℕ) → a ≤ b → c ≡ d → Rose b c → Rose a d
rose_wider a b c d low same rose =
    elim rose [
      | inl h ↦ inl (omega (arith, low, same, h))
      | inr h ↦ inr (omega (arith, same, h))
    ]

noted_by : (why : StartError) (told notes : List (List ℕ)) → told ≡ notes → IsNoted why told notes
noted_by (error.NotOpened why) told notes h = h
noted_by error.DiskFault told notes h = h
noted_by error.NoMemory told notes h = tt

abbrev cause_in : OpenFault → Option OpenFault → OpenFault
cause_in other None = other
cause_in other (Some why) = why

-- what is told of an error
pub if_error : {T : Type 0} (result : Result T StartError) (why : StartError)
    (Is : StartError → Type 0) → IsErrAnd result (λ e. e ≡ why) → Is why → IfErr result Is
if_error (Ok value) why Is same is = tt
if_error (Err e) why Is same is = subst Is (sym same) is

-- nothing is told of an answer
pub no_answer : {T E : Type 0} (result : Result T E) (Is : T → Type 0) (Was : E → Type 0)
    → IsErrAnd result Was → IfOk result Is
no_answer (Ok value) Is Was none = absurd none
no_answer (Err e) Is Was is = tt

-- memory ran out
pub no_memory : {T : Type 0} (result : Result T StartError) (Is : StartError → Type 0)
    → IsErrAnd result (λ why. why ≡ error.NoMemory) → Is error.NoMemory → IfErr result Is
no_memory result Is same is = if_error result error.NoMemory Is same is

-- the files were read to their ends, and names are asked for
answers_names : {kept : List PlainJudged} (given : Given) → Keeps kept given.verdicts
    → (first s : State) (events : List Happening)
    (names lines : List (List ℕ)) (before now : Seen) → Sources kept first events s before now
    → s.turn.core.frames ≡ []
    → lines ≡ map (answer_line s.turn.core.rules.settings) names
    → AnswersNames given first events names lines s.notes
answers_names given keeps first s events names lines before now sources read are =
    let at : after_events given first events ≡ s = (sources.stands given keeps).state_is in record {
      read = ap (λ (u : State). u.turn.core.frames) at ∙ read;
      noted = ap (λ (u : State). u.notes) at;
      lines_are = are ∙ sym (ap (λ (u : State).
          map (answer_line u.turn.core.rules.settings) names) at);
    }

pub answers_at : {kept : List PlainJudged} (first s : State) (events : List Happening)
    (names : List (List ℕ)) (before now : Seen) (result : Result (Held (Held ℕ)) NoMemory)
    → Sources kept first events s before now → s.turn.core.frames ≡ []
    → IfOk result (λ lines. plain_texts lines
    ≡ map (answer_line s.turn.core.rules.settings) names)
    → IfOk result (λ lines. (given : Given) → Keeps kept given.verdicts
    → AnswersNames given first events names (plain_texts lines) s.notes)
answers_at first s events names before now (Ok lines) sources read are = λ given keeps.
    answers_names given keeps first s events names (plain_texts lines) before now sources read are
answers_at first s events names before now (Err e) sources read are = tt

-- no file is left before a folder is open
pub files_end : (stage : Stage) (frames : List PlainFrame) → stage ≡ Unopened
    → IsFileless stage frames → frames ≡ []
files_end stage frames unopened none =
    subst (λ (s : Stage). IsFileless s frames) unopened none

-- no folder was looked for
pub fails_early : {kept : List PlainJudged} (Has : Kind → Type 0) (given : Given) (first : State)
    (moment : ℤ) (notes : List (List ℕ)) (events : List Happening) (before now : Seen)
    → Keeps kept given.verdicts → SourcesOff kept first events before now
    → Fails Has given first moment error.NoMemory notes events before now
fails_early Has given first moment notes events before now keeps off = record {
  opening = [];
  begins = record {
    files = events;
    are_files = off.are;
    opens = tt;
    events_are = sym (append-nil events);
    run = off.run given keeps;
    told = witnessed_files Driverless Has given first events before now off.are
        (off.told given keeps);
  };
  ends = tt;
  noted = tt;
}

-- what an opening lists
abbrev pub IsListedIn : List Listed → Happening → Type 0
IsListedIn listing (FolderOpened path kind moment came marks) = listing ≡ came
IsListedIn listing _ = Unit {0}

pub listed_in : (letters : List Mail) (told : Option Past) (event : Happening)
    (folder : OpenFolder) → IsOpenAs letters told event (Ok folder)
    → IsListedIn folder.known.listing event
listed_in letters told (FolderOpened path kind moment came marks) folder knows = knows.listed
listed_in letters told (FolderRefused path why marks) folder knows = tt
listed_in letters told _ folder knows = absurd knows

-- an opening that was refused for a cause
pub refused_as : (letters : List Mail) (told : Option Past) (event : Happening) (why : OpenFault)
    → IsOpenAs letters told event (Err why) → refusal_of event ≡ Some why
refused_as letters told (FolderOpened path kind moment came marks) why is = absurd is
refused_as letters told (FolderRefused path cause marks) why is = ap Some is
refused_as letters told _ why is = absurd is

-- and one that was not
pub opened_as : (letters : List Mail) (told : Option Past) (event : Happening)
    (folder : OpenFolder) → IsOpenAs letters told event (Ok folder) → refusal_of event ≡ None
opened_as letters told (FolderOpened path kind moment came marks) folder is = refl
opened_as letters told (FolderRefused path cause marks) folder is = absurd is
opened_as letters told _ folder is = absurd is

-- what a refusal makes of a state
pub refusal_arrives : (letters : List Mail) (told : Option Past) (given : Given) (s t : State)
    (event : Happening) (why : OpenFault) → IsOpenAs letters told event (Err why)
    → t ≡ at_stage Over s → t ≡ arrived given s event
refusal_arrives letters told given s t (FolderOpened path kind moment came marks) why is arrives =
    absurd is
refusal_arrives letters told given s t (FolderRefused path cause marks) why is arrives = arrives
refusal_arrives letters told given s t _ why is arrives = absurd is

-- The letters that came are as many as were met.
opening_low : (letters : List Mail) (moment : ℤ) (met : ℕ) (event : Happening) → met ≡ 0
    → IsOpening moment event → IsListed letters event → met_after met event ≤ length letters
opening_low letters moment met (FolderOpened path kind at came marks) none is listed =
    omega (arith, none, listed.1)
opening_low letters moment met (FolderRefused path why marks) none is listed = omega (arith, none)
opening_low letters moment met _ none is listed = absurd is

-- what they make of a state is what the event makes of it
pub opening_arrives : (letters : List Mail) (told : Option Past) (given : Given) (s t : State)
    (folder : OpenFolder) (moment : ℤ) (event : Happening)
    → take (length letters) given.mails ≡ letters → s.met ≡ 0
    → IsOpening moment event → IsListed letters event → IsOpenAs letters told event (Ok folder)
    → t ≡ opened_by (given_of letters given.verdicts) folder.known.path folder.known.kind moment
    folder.listing.items s
    → t ≡ arrived given s event
opening_arrives letters told given s t folder moment (FolderOpened path kind at came marks) first
    none is listed knows arrives =
    let all : take (s.met + length came) given.mails ≡ letters =
    ap (λ (n : ℕ). take n given.mails) (omega (arith, none, listed.1)) ∙ first in
    arrives
    ∙ ap (λ (p : List ℕ). opened_by (given_of letters given.verdicts) p folder.known.kind moment
    folder.listing.items s) knows.path_is
    ∙ ap (λ (k : Kind). opened_by (given_of letters given.verdicts) path k moment
    folder.listing.items s) knows.kind_is
    ∙ ap (λ (l : List Listed). opened_by (given_of letters given.verdicts) path kind moment l s)
    knows.listing
    ∙ ap (λ (m : ℤ). opened_by (given_of letters given.verdicts) path kind m came s) (sym is)
    ∙ ap (λ (l : List Mail). opened_by (given_of l given.verdicts) path kind at came s) (sym all)
opening_arrives letters told given s t folder moment (FolderRefused path why marks) first none is
    listed knows arrives = absurd knows
opening_arrives letters told given s t folder moment _ first none is listed knows arrives =
    absurd is

-- What a folder is that was opened so.

opened_fresh : (letters : List Mail) (told : Option Past) (event : Happening)
    (folder : OpenFolder) → IsListed letters event → IsOpenAs letters told event (Ok folder)
    → IsFresh letters folder.listing.items
opened_fresh letters told (FolderOpened path kind at came marks) folder listed is =
    subst (λ (l : List Listed). IsFresh letters l) (sym is.listing) listed
opened_fresh letters told (FolderRefused path why marks) folder listed is = absurd is
opened_fresh letters told _ folder listed is = absurd is

opened_checked : (letters : List Mail) (told : Option Past) (moment : ℤ) (event : Happening)
    (folder : OpenFolder) → IsOpening moment event → IsOpenAs letters told event (Ok folder)
    → (folder.checked ≡ moment) × (folder.forgot ≡ false) × (folder.refused ≡ false)
opened_checked letters told moment (FolderOpened path kind at came marks) folder opening is =
    (is.checked ∙ opening, is.forgot, is.refused)
opened_checked letters told moment (FolderRefused path why marks) folder opening is = absurd is
opened_checked letters told moment _ folder opening is = absurd is

opened_open : (letters : List Mail) (told : Option Past) (event : Happening)
    (folder : OpenFolder) → IsOpenAs letters told event (Ok folder)
    → IsOpen letters told folder
opened_open letters told (FolderOpened path kind at came marks) folder is =
    let known_is : folder.known.listing ≡ folder.listing.items = is.listed ∙ sym is.listing in
    let right : Right folder.known.kind letters folder.known told =
    subst (λ (k : Kind). Right k letters folder.known told) (sym is.kind_is) is.right in record {
      right = right;
      known = subst (λ (b : Bool). IsKnownOf b folder.listing.items folder.known.listing)
          (sym is.forgot) known_is;
      within = subst (All (λ l. l.id.0 < length letters)) known_is right.within;
      once = ap ids_differ (sym known_is) ∙ rise_differ letters folder.known.listing right.ordered;
      met = is.met;
    }
opened_open letters told (FolderRefused path why marks) folder is = absurd is
opened_open letters told _ folder is = absurd is

-- its kind has a driver
opened_has : (Has : Kind → Type 0) (letters : List Mail) (told : Option Past)
    (event : Happening) (folder : OpenFolder) (marks : Marks) → HasCause Has event marks
    → IsOpenAs letters told event (Ok folder) → Has folder.known.kind
opened_has Has letters told (FolderOpened path kind at came kept) folder marks has is =
    subst Has (sym is.kind_is) has
opened_has Has letters told (FolderRefused path why kept) folder marks has is = absurd is
opened_has Has letters told _ folder marks has is = absurd is

pub record IsOpened (Has : Kind → Type 0) (letters : List Mail) (now : Seen) (moment : ℤ)
    (event : Happening) (folder : OpenFolder) : Type 0 where
  pub is_as : IsOpenAs letters now.told event (Ok folder)
  pub fresh : IsFresh letters folder.listing.items
  pub checked : folder.checked ≡ moment
  pub forgot : folder.forgot ≡ false
  pub refused : folder.refused ≡ false
  pub known : IsOpen letters now.told folder
  pub has : Has folder.known.kind

-- an answer that was taken apart
pub opens_it : {Has : Kind → Type 0} {at : Standing} {path : List ℕ} {moment : ℤ}
    {letters : List Mail} {event : Happening} {answer : Result OpenFolder OpenFault}
    {old new : Seen} {folder f : OpenFolder}
    → OpensPath Has at path moment letters event answer old new → answer ≡ Ok folder → f ≡ folder
    → IsOpened Has letters new moment event f
opens_it {Has} {at} {path} {moment} {letters} {event} {answer} {old} {new} {folder} {f} opens ok
    same =
    let is_as : IsOpenAs letters new.told event (Ok f) =
    subst (λ (g : OpenFolder). IsOpenAs letters new.told event (Ok g)) (sym same)
    (subst (λ (r : Result OpenFolder OpenFault). IsOpenAs letters new.told event r) ok
    opens.answer_is) in
    let at_moment = opened_checked letters new.told moment event f opens.opening is_as in record {
      is_as = is_as;
      fresh = opened_fresh letters new.told event f opens.listed is_as;
      checked = at_moment.0;
      forgot = at_moment.1;
      refused = at_moment.2;
      known = opened_open letters new.told event f is_as;
      has = opened_has Has letters new.told event f opens.tells.marks opens.tells.cause is_as;
    }

-- or one that was refused
pub refuses_it : {Has : Kind → Type 0} {at : Standing} {path : List ℕ} {moment : ℤ}
    {letters : List Mail} {event : Happening} {answer : Result OpenFolder OpenFault}
    {old new : Seen} {cause why : OpenFault}
    → OpensPath Has at path moment letters event answer old new → answer ≡ Err cause → why ≡ cause
    → IsOpenAs letters new.told event (Err why)
refuses_it {Has} {at} {path} {moment} {letters} {event} {answer} {old} {new} opens err same =
    subst (λ (w : OpenFault). IsOpenAs letters new.told event (Err w)) (sym same)
    (subst (λ (r : Result OpenFolder OpenFault). IsOpenAs letters new.told event r) err
    opens.answer_is)

pub opens_at : {Has : Kind → Type 0} {at : Standing} {path : List ℕ} {said moment : ℤ}
    {letters : List Mail} {event : Happening} {answer : Result OpenFolder OpenFault}
    {old new : Seen} → said ≡ moment
    → OpensPath Has at path said letters event answer old new
    → OpensPath Has at path moment letters event answer old new
opens_at {Has} {at} {path} {said} {moment} {letters} {event} {answer} {old} {new} same opens =
    subst (λ (m : ℤ). OpensPath Has at path m letters event answer old new) same opens

-- it met its letters
pub opens_met : {Has : Kind → Type 0} {at : Standing} {path : List ℕ} {moment : ℤ}
    {letters : List Mail} {event : Happening} {answer : Result OpenFolder OpenFault}
    {old new : Seen} (files events : List Happening)
    → OpensPath Has at path moment letters event answer old new
    → events ≡ files ++ event ∷ [] → AreFiles files → AllMet (length letters) 0 events
opens_met {Has} {at} {path} {moment} {letters} {event} {answer} files events opens put are =
    subst (λ (l : List Happening). AllMet (length letters) 0 l) (sym put)
    (met_opening letters files moment event are opens.opening opens.listed)

-- the session over it
pub open_in : {X : Type 0} {Is : X → Type 0} (Has : Kind → Type 0) (session : Session)
    (trace : Trace X Is) (now : Seen) (folder : OpenFolder) → session.folder ≡ folder
    → IsOpen (letters_in trace) now.told folder → Has folder.known.kind
    → {said moment : ℤ} → folder.checked ≡ said → said ≡ moment → IsMoment moment
    → IsOpenIn Has session trace now
open_in Has session trace now folder same known has {said} {moment} checked at is = record {
  known = subst (λ (f : OpenFolder). IsOpen (letters_in trace) now.told f) (sym same) known;
  has = subst (λ (f : OpenFolder). Has f.known.kind) (sym same) has;
  checked = subst IsMoment
      (sym (ap (λ (f : OpenFolder). f.checked) same ∙ checked ∙ at)) is;
}

-- what happened was put behind the rest
pub put_opening : (old mid new : List Event) (event : Event)
    (pushed : Result (Unit {0}) NoMemory) → mid ≡ old → IsOk pushed
    → OnOk pushed (new ≡ mid ++ event ∷ [])
    → plain_events new ≡ plain_events old ++ plain_event event ∷ []
put_opening old mid new event pushed same is put =
    put_plain mid new event (plain_event event) (ok_given (new ≡ mid ++ event ∷ []) pushed is put)
    refl
    ∙ ap (λ (l : List Event). plain_events l ++ plain_event event ∷ []) same

-- A folder was looked for.
module _ {kept : List PlainJudged} (Has : Kind → Type 0) (given : Given) (letters : List Mail)
    (mails : take (length letters) given.mails ≡ letters) (keeps : Keeps kept given.verdicts)
    (first s : State) (moment : ℤ)
    (events mid events' : List Happening) (event : Happening)
    (answer : Result OpenFolder OpenFault) (before now next : Seen)
    (same : mid ≡ events) (puts : events' ≡ mid ++ event ∷ []) (stage : s.turn.stage ≡ Unopened)
    (read : s.turn.core.frames ≡ []) (none_met : s.met ≡ 0)
    (opens : OpensPath Has (standing_of s) (folder_path s.turn.core.rules.settings s.named) moment
    letters event answer now next)
    (sources : Sources kept first events s before now) where
  put : events' ≡ events ++ event ∷ []
  put = puts ∙ ap (λ (l : List Happening). l ++ event ∷ []) same

  look_answers : Answers s event
  look_answers =
      ap (λ (x : Stage). wish_at x s (moment_of event)) stage
      ∙ ap (λ (frames : List PlainFrame). file_wish frames
      (Open (folder_path s.turn.core.rules.settings s.named))) read
      ∙ sym opens.answers

  look_stands : Stands given first events' (after given s event) (shown given (after given s event))
  look_stands =
      subst (λ (l : List Happening). Stands given first l (after given s event)
      (shown given (after given s event))) (sym put)
      (stands_push given first s events event [] (sources.stands given keeps) look_answers)

  look_told : Witnessed Has given first events' before next
  look_told =
      subst (λ (l : List Happening). Witnessed Has given first l before next) (sym put)
      (witnessed_push Has given first s events event before now next
      (sources.stands given keeps).state_is
      (tells_more letters given.mails mails
      (opening_low letters moment s.met event none_met opens.opening opens.listed) opens.tells)
      (witnessed_files Driverless Has given first events before now sources.are
      (sources.told given keeps)))

  look_begins : BeginsRun Has given first moment (event ∷ []) events' before next
  look_begins = record {
    files = events;
    are_files = sources.are;
    opens = opens.opening;
    events_are = put;
    run = look_stands.run;
    told = look_told;
  }

  -- memory ran out behind the look
  pub fails_late : (notes : List (List ℕ))
      → Fails Has given first moment error.NoMemory notes events' before next
  fails_late notes = record {
    opening = event ∷ [];
    begins = look_begins;
    ends = tt;
    noted = tt;
  }

  starts_by : (t : State) (listing : List Listed) (e : Happening) → e ≡ event
      → IsOpening moment e → refusal_of e ≡ None → IsListedIn listing e
      → t ≡ arrived given s e → Starts Has given first moment events' t listing before next
  starts_by t listing (FolderOpened path kind late came marks) is at none lists arrives = record {
    path = path;
    kind = kind;
    came = came;
    marks = marks;
    begins =
        subst (λ (e : Happening). BeginsRun Has given first moment (e ∷ []) events' before next)
        (sym is ∙ ap (λ (m : ℤ). FolderOpened path kind m came marks) at) look_begins;
    stage = ap (λ (u : State). u.turn.stage) arrives;
    listed = lists;
    window = ap (λ (u : State). u.window) arrives ∙ sources.window;
    waits = record {
      run = look_stands.run;
      state_is = look_stands.state_is ∙ ap (after given s) (sym is)
          ∙ ap (pushed_on given) (sym arrives);
      screens_are = look_stands.screens_are
          ∙ ap (λ (e : Happening). shown given (after given s e)) (sym is)
          ∙ ap (λ (u : State). shown given (pushed_on given u)) (sym arrives);
    };
  }
  starts_by t listing (FolderRefused path why marks) is at none lists arrives =
      absurd (none-some why (sym none))
  starts_by t listing _ is at none lists arrives = absurd at

  -- the folder was opened
  pub starts : (t : State) (listing : List Listed) → refusal_of event ≡ None
      → IsListedIn listing event → t ≡ arrived given s event
      → Starts Has given first moment events' t listing before next
  starts t listing none lists arrives =
      starts_by t listing event refl opens.opening none lists arrives

  rose : Rose opens.tells.marks.faults_before opens.tells.marks.faults_after
      → Rose before.faults next.faults
  rose h =
      rose_wider before.faults opens.tells.marks.faults_before opens.tells.marks.faults_after
      next.faults
      (omega (arith, sources.faults, ap (λ (c : Counts). c.faults) opens.tells.before))
      (sym (ap (λ (c : Counts). c.faults) opens.tells.after)) h

  module _ (path : List ℕ) (marks : Marks) where
    refused : (why : OpenFault) → FolderRefused path why marks ≡ event
        → IsRefused why (event ∷ [])
    refused why is = record {
      path = path;
      marks = marks;
      is = ap (λ (e : Happening). e ∷ []) (sym is);
    }

    ends_by : (why : OpenFault) → FolderRefused path why marks ≡ event
        → HasCause Has (FolderRefused path why marks) opens.tells.marks
        → EndsStart (start_error why) (event ∷ []) before next
    ends_by Taken is cause = absurd cause
    ends_by (NoDriver kind) is cause = (refused (NoDriver kind) is, tt)
    ends_by (Folder scan.Fault) is cause = (refused (Folder scan.Fault) is, rose cause)
    ends_by (Folder scan.NoMemory) is cause = tt
    ends_by (Folder scan.ArchiveFull) is cause = absurd cause
    ends_by (Folder scan.Missing) is cause = (refused (Folder scan.Missing) is, tt)
    ends_by (Folder (scan.NotMailbox place)) is cause =
        (refused (Folder (scan.NotMailbox place)) is, tt)
    ends_by (Folder (scan.TooMany count)) is cause =
        (refused (Folder (scan.TooMany count)) is, tt)
    ends_by (Folder (scan.TooLarge size)) is cause =
        (refused (Folder (scan.TooLarge size)) is, tt)
    ends_by (Folder scan.Unfinished) is cause = (refused (Folder scan.Unfinished) is, tt)

  fails_by : (t : State) (why : OpenFault) (e : Happening) → e ≡ event → IsOpening moment e
      → refusal_of e ≡ Some why → t ≡ arrived given s e
      → Fails Has given first moment (start_error why) t.notes events' before next
  fails_by t why (FolderRefused path cause marks) is at some arrives =
      let event_is : FolderRefused path why marks ≡ event =
      ap (λ (w : OpenFault). FolderRefused path w marks) (sym (ap (cause_in cause) some)) ∙ is in
      record {
        opening = event ∷ [];
        begins = look_begins;
        ends = ends_by path marks why event_is
            (subst (λ (e : Happening). HasCause Has e opens.tells.marks) (sym event_is)
            opens.tells.cause);
        noted = noted_by (start_error why) (after_events given first events').notes t.notes
            (ap (λ (u : State). u.notes) (look_stands.state_is ∙ ap (after given s) (sym is)
            ∙ sym arrives));
      }
  fails_by t why (FolderOpened path kind late came marks) is at some arrives =
      absurd (none-some why some)
  fails_by t why _ is at some arrives = absurd at

  -- the folder was not opened
  pub fails : (t : State) (why : OpenFault) → refusal_of event ≡ Some why
      → t ≡ arrived given s event
      → Fails Has given first moment (start_error why) t.notes events' before next
  fails t why some arrives = fails_by t why event refl opens.opening some arrives

  -- by what the session became
  pub starts_over : (new : Session) (notes : Held (Held ℕ)) (folder : OpenFolder)
      → IsOpenAs letters next.told event (Ok folder) → new.folder ≡ folder
      → (said : ℤ) → said ≡ moment
      → plain_session new notes ≡ opened_by (given_of letters given.verdicts) folder.known.path
      folder.known.kind said folder.listing.items s
      → Starts Has given first moment events' (plain_session new notes) new.folder.known.listing
      before next
  starts_over new notes folder is_as same_folder said at arrives =
      starts (plain_session new notes) new.folder.known.listing
      (opened_as letters next.told event folder is_as)
      (subst (λ (f : OpenFolder). IsListedIn f.known.listing event) (sym same_folder)
      (listed_in letters next.told event folder is_as))
      (opening_arrives letters next.told given s (plain_session new notes) folder moment event
      mails none_met opens.opening opens.listed is_as
      (arrives ∙ ap (λ (m : ℤ). opened_by (given_of letters given.verdicts) folder.known.path
      folder.known.kind m folder.listing.items s) at))

  pub fails_over : (new : Session) (notes : Held (Held ℕ)) (why : OpenFault)
      → IsOpenAs letters next.told event (Err why) → plain_session new notes ≡ at_stage Over s
      → Fails Has given first moment (start_error why) (plain_session new notes).notes events'
      before next
  fails_over new notes why is_as arrives =
      fails (plain_session new notes) why (refused_as letters next.told event why is_as)
      (refusal_arrives letters next.told given s (plain_session new notes) event why is_as arrives)
