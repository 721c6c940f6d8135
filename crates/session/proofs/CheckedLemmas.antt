-- How a run goes on where a key is taken, by a check before it or by none.
use Rattle.std.proofs.Common.{◌≡◌, ◌<◌, ◌++◌, ◌∷◌, ◌∙◌, ℕ, ℤ, Bool, true, false, List, [], Option}
use Rattle.std.proofs.Common.{◌||◌, Result, Ok, Err, ap, arith, length, refl, subst, sym}
use Rattle.std.proofs.Common.{if◌then◌else◌}
use Rattle.std.specs.Prelude.{IsOk, OnOk}
use Rattle.std.proofs.lemmas.Bool.{and_parts}
use Rattle.std.proofs.lemmas.List.{append-nil}
use Rattle.mail_base.specs.Series.{Held}
use Rattle.mail_base.specs.declared.kind.Kind.{Kind}
use Rattle.disk_model.specs.Seen.{Seen}
use Rattle.folder_letters.specs.Letters.{Mail}
use Rattle.folder_letters.specs.declared.letter.Letter.{Letter}
use Rattle.keymap.specs.declared.key.Key.{Key}
use Rattle.keymap.specs.declared.menu.Menu.{Menu}
use Rattle.keymap.specs.declared.menu.Menu.TheVariants as menu
use Rattle.prompts.specs.Prompts.{PlainPrompt}
use Rattle.session_events.specs.Checking.{IsOpen, standing_over}
use Rattle.session_events.specs.Events.{Happening, CheckRefused, FolderChecked, IsCheck}
use Rattle.session_events.specs.Happened.{AllMet, AreNext, met_after}
use Rattle.session_events.specs.Telling.{Tells}
use Rattle.session_events.specs.Wishes.{Check, Press, answered, moment_of}
use Rattle.session_events.specs.declared.event.Trace.{Trace}
use Rattle.session_events.specs.declared.open_folder.OpenFolder.{OpenFolder}
use Rattle.session_events.proofs.CheckLemmas.{tells_more}
use Rattle.session_events.proofs.MetLemmas.{met_append}
use Rattle.session_screen.specs.Checks.{is_over}
use Rattle.session_state.specs.Instants.{IsMoment}
use Rattle.session_state.specs.declared.stage.Stage.{Stage}
use Rattle.session_state.specs.declared.stage.Stage.TheVariants.{Idle, Ready}
use Rattle.session.specs.Calls.{Checks, IsGivenIn, IsOpenIn, events_in, letters_in, state_in}
use Rattle.session.specs.Checking.{IsIndexShown, is_due, is_free}
use Rattle.session.specs.Core.{CoreState, plain_core, shown_menu}
use Rattle.session.specs.Fitting.{Fits, FitsRun}
use Rattle.session.specs.Given.{Given}
use Rattle.session.specs.Looking.{LooksAgain}
use Rattle.session.specs.Runs.{State, after, arrived, arrived_by, looked_at, looked_by}
use Rattle.session.specs.Runs.{plain_session, shown, stage_screens, taken, taken_at}
use Rattle.session.specs.Runs.{wish, wish_at}
use Rattle.session.specs.Steps.{Stands}
use Rattle.session.specs.Telling.{Witnessed, kind_in, purges_in, standing_of}
use Rattle.session.specs.declared.session_type.Session.{Session}
use Rattle.session.proofs.StepsLemmas.{arrives_on, stands_push}
use Rattle.session.proofs.TellingLemmas.{witnessed_push}

-- what holds of an answer that is Ok
pub ok_given : {A B : Type 0} (P : Type 0) (r : Result A B) → IsOk r → OnOk r P → P
ok_given P (Ok x) is h = h
ok_given P (Err e) is h = absurd (cc)

-- Where a check is due the index is shown.

free_index : (shown : Menu) (prompt : Option PlainPrompt) (begun : List Key)
    → is_free shown prompt begun ≡ true → shown ≡ menu.Index
free_index menu.Index prompt begun free = refl
free_index _ prompt begun free = absurd (cc)

due_index : (refused : Bool) (checked : ℤ) (c : CoreState) (moment : ℤ)
    → is_due refused checked c moment ≡ true → IsIndexShown c
due_index refused checked c moment due =
    free_index (shown_menu c) c.desk.prompt c.rules.keymap.begun
    (and_parts (is_free (shown_menu c) c.desk.prompt c.rules.keymap.begun)
    (refused || is_over c.rules.settings checked moment) due).0

-- it is due by what was answered
pub due_at : (refused : Bool) (checked : ℤ) (c : CoreState) (said moment : ℤ) (due : Bool)
    → said ≡ moment → due ≡ is_due refused checked c said → is_due refused checked c moment ≡ due
due_at refused checked c said moment due same is =
    ap (is_due refused checked c) (sym same) ∙ sym is

-- and so it was looked
pub looks_at : {Has : Kind → Type 0} {quiet : Bool} {said moment : ℤ} {old new : Session}
    {archive archive' : List Letter} {event : Happening} {before after : Seen} → said ≡ moment
    → LooksAgain Has quiet said old new archive archive' event before after
    → LooksAgain Has quiet moment old new archive archive' event before after
looks_at {Has} {quiet} {said} {moment} {old} {new} {archive} {archive'} {event} {before} {after}
    same looks =
    subst (λ (m : ℤ). LooksAgain Has quiet m old new archive archive' event before after) same looks

taken_shown : (stage : Stage) (s : State) → IsIndexShown s.turn.core
    → IsIndexShown (taken_at stage s).turn.core
taken_shown Idle s is = is
taken_shown _ s is = is

taken_owner : (stage : Stage) (s : State) → (taken_at stage s).owner ≡ s.owner
taken_owner Idle s = refl
taken_owner _ s = refl

pub taken_index : (old mid : Session) (moment : ℤ) (notes : Held (Held ℕ))
    → plain_session mid notes ≡ taken (plain_session old notes)
    → is_due old.folder.refused old.folder.checked (plain_core old.core) moment ≡ true
    → IsIndexShown (plain_core mid.core)
taken_index old mid moment notes is due =
    let s : State = plain_session old notes in
    subst (λ (t : State). IsIndexShown t.turn.core) (sym is)
    (taken_shown s.turn.stage s
    (due_index old.folder.refused old.folder.checked (plain_core old.core) moment due))

-- the kind of the folder has a driver still
pub has_on : {X : Type 0} {Is : X → Type 0} (Has : Kind → Type 0) (old mid : Session)
    (was : Trace X Is) (now : Seen) → IsOpenIn Has old was now → mid.folder ≡ old.folder
    → Has mid.folder.known.kind
has_on Has old mid was now known same =
    subst (λ (f : OpenFolder). Has f.known.kind) (sym same) known.has

-- What the event of a check is.

still_at : (s : State) → s.turn.stage ≡ Ready → taken s ≡ s
still_at s ready = ap (λ (stage : Stage). taken_at stage s) ready

pub check_after : (given : Given) (s : State) (event : Happening) → IsCheck event
    → after given s event ≡ arrived given s event
check_after given s (FolderChecked moment found marks) is = refl
check_after given s (CheckRefused moment why marks) is = refl
check_after given s _ is = absurd is

-- before a key it is a check of what was taken
check_taken : (given : Given) (s t : State) (event : Happening) → IsCheck event → t ≡ taken s
    → s.turn.stage ≡ Idle → looked_by false given.mails t event ≡ arrived_by given s event
check_taken given s t (FolderChecked at found marks) is same idle =
    ap (λ (u : State). looked_by false given.mails u (FolderChecked at found marks)) same
    ∙ ap (λ (stage : Stage). looked_at stage given s (FolderChecked at found marks)) (sym idle)
check_taken given s t (CheckRefused at why marks) is same idle =
    ap (λ (u : State). looked_by false given.mails u (CheckRefused at why marks)) same
    ∙ ap (λ (stage : Stage). looked_at stage given s (CheckRefused at why marks)) (sym idle)
check_taken given s t _ is same idle = absurd is

pub check_moment : (event : Happening) (moment : ℤ) → IsCheck event → answered event ≡ Check moment
    → moment_of event ≡ moment
check_moment (FolderChecked at found marks) moment is answers = cc
check_moment (CheckRefused at why marks) moment is answers = cc
check_moment _ moment is answers = absurd is

module _ {X : Type 0} {Is : X → Type 0} (Has : Kind → Type 0) (moment : ℤ) (old mid : Session)
    (was : Trace X Is) (before : Seen) (idle : old.stage ≡ Idle)
    (fits : FitsRun (letters_in was) old) (known : IsOpenIn Has old was before)
    (taken_is : (notes : Held (Held ℕ)) → plain_session mid notes
    ≡ taken (plain_session old notes))
    (fits_mid : (mails : List Mail) → Fits mails old → Fits mails mid)
    (folder : mid.folder ≡ old.folder) (ready : mid.stage ≡ Ready) where
  abbrev s : State
  s = state_in old was

  wish_is : (due : Bool) → is_due old.folder.refused old.folder.checked (plain_core old.core) moment
      ≡ due
      → wish s moment ≡ (if due then Check moment else Press moment)
  wish_is due is = ap (λ (stage : Stage). wish_at stage s moment) idle
      ∙ ap (λ (b : Bool). if b then Check moment else Press moment) is

  -- no check is due
  pub checks_none : 1 < was.events.room
      → is_due old.folder.refused old.folder.checked (plain_core old.core) moment ≡ false
      → Checks Has moment old mid was was before before
  checks_none room due = record {
    taken = λ given is first screens stands. record {
      before = s;
      stands = stands;
      wishes = wish_is false due;
      taken_is = sym (taken_is was.notes);
    };
    adds = record { checks = []; are = tt; added = sym (append-nil (events_in was)) };
    told = λ given is first at seen w. w;
    met = λ all. all;
    ready = ready;
    notes = refl;
    fits = record {
      fits = fits_mid (letters_in was) fits.fits;
      met = ap (λ (f : OpenFolder). f.met) folder ∙ fits.met;
    };
    known = record {
      known = subst (λ (f : OpenFolder). IsOpen
          (letters_in was) before.told f) (sym folder) known.known;
      has = subst (λ (f : OpenFolder). Has f.known.kind) (sym folder) known.has;
      checked = subst (λ (f : OpenFolder). IsMoment f.checked) (sym folder) known.checked;
    };
    room = omega (arith, room);
  }

  -- A check was made.
  module _ (new : Session) (now : Trace X Is) (event : Happening) (later : Seen)
      (is_moment : IsMoment moment)
      (due : is_due old.folder.refused old.folder.checked (plain_core old.core) moment ≡ true)
      (looks : LooksAgain Has false moment mid new was.archive.items now.archive.items event before
      later)
      (put : events_in now ≡ events_in was ++ event ∷ []) (notes : now.notes ≡ was.notes) where
    met_is : met_after old.folder.met event ≡ length (letters_in now)
    met_is = ap (λ (f : OpenFolder). met_after f.met event) (sym folder) ∙ sym looks.met

    new_ready : new.stage ≡ Ready
    new_ready = looks.stage ∙ ready

    answers : wish s (moment_of event) ≡ answered event
    answers = ap (wish s) (check_moment event moment looks.check looks.answers)
        ∙ wish_is true due ∙ sym looks.answers

    comes : (given : Given) → IsGivenIn now given → state_in new now ≡ arrived given s event
    comes = arrives_on s (state_in new now) event met_is (λ given is.
        ap (plain_session new) notes ∙ looks.arrives was.notes
        ∙ ap (λ (l : List Mail). looked_by false l (plain_session mid was.notes) event)
        (sym is.mails_are)
        ∙ check_taken given s (plain_session mid was.notes) event looks.check (taken_is was.notes)
        idle)

    leads : (given : Given) → IsGivenIn now given → after given s event ≡ state_in new now
    leads given is = check_after given s event looks.check ∙ sym (comes given is)

    none_shown : (given : Given) → shown given (state_in new now) ≡ []
    none_shown given =
        ap (λ (stage : Stage). stage_screens given stage (state_in new now)) new_ready

    stood : (given : Given) → IsGivenIn now given → (first : State)
        → (screens : List (List (List ℕ))) → Stands given first (events_in was) s screens
        → Stands given first (events_in now) (state_in new now) screens
    stood given is first screens stands =
        subst (λ (l : List (List (List ℕ))).
        Stands given first (events_in now) (state_in new now) l)
        (ap (λ (l : List (List (List ℕ))). screens ++ l) (none_shown given) ∙ append-nil screens)
        (subst (λ (t : State). Stands given first (events_in now) t (screens ++ shown given t))
        (leads given is)
        (subst (λ (l : List Happening). Stands given first l (after given s event)
        (screens ++ shown given (after given s event))) (sym put)
        (stands_push given first s (events_in was) event screens stands answers)))

    tells : (given : Given) → IsGivenIn now given
        → Tells Has (standing_of s) given.mails event before later
    tells given is =
        tells_more (letters_in now) given.mails is.first (omega (arith, met_is))
        (subst (λ (f : OpenFolder). Tells Has (standing_over (kind_in s) s.owner (purges_in s) f)
        (letters_in now) event before later) folder
        (subst (λ (o : List ℕ). Tells Has (standing_over (kind_in s) o (purges_in s) mid.folder)
        (letters_in now) event before later)
        (ap (λ (t : State). t.owner) (taken_is was.notes) ∙ taken_owner s.turn.stage s)
        (looks.tells (kind_in s) (purges_in s))))

    next_is : AreNext (length (letters_in was)) event
    next_is = subst (λ (n : ℕ). AreNext n event)
        (ap (λ (f : OpenFolder). f.met) folder ∙ fits.met) looks.next

    met_on : AllMet (length (letters_in was)) 0 (events_in was)
        → AllMet (length (letters_in now)) 0 (events_in now)
    met_on all =
        subst (λ (l : List Happening). AllMet (length (letters_in now)) 0 l) (sym put)
        (met_append (length (letters_in now)) (length (letters_in was)) 0 (events_in was)
        (event ∷ []) all
        (next_is, sym met_is ∙ ap (λ (n : ℕ). met_after n event) fits.met))

    pub checks_made : 0 < now.events.room → Checks Has moment old new was now before later
    checks_made room = record {
      taken = λ given is first screens stands. record {
        before = state_in new now;
        stands = stood given is first screens stands;
        wishes = ap (λ (stage : Stage). wish_at stage (state_in new now) moment) new_ready;
        taken_is = still_at (state_in new now) new_ready;
      };
      adds = record { checks = event ∷ []; are = (looks.check, tt); added = put };
      told = λ given is first at seen w.
          subst (λ (l : List Happening). Witnessed Has given first l seen later) (sym put)
          (witnessed_push Has given first s (events_in was) event seen before later at
          (tells given is) w);
      met = met_on;
      ready = new_ready;
      notes = notes;
      fits = record { fits = looks.fits; met = looks.known.met };
      known = record {
        known = looks.known;
        has = subst Has (sym (looks.kind ∙ ap (λ (f : OpenFolder). f.known.kind) folder)) known.has;
        checked = subst IsMoment (sym looks.checked) is_moment;
      };
      room = room;
    }
