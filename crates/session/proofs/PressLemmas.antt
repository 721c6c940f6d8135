-- What keys come to, with the files of commands and the syncs behind them.
use Rattle.std.proofs.Common.{◌≡◌, ◌<◌, ◌++◌, ◌∷◌, ◌∙◌, [], ℤ, List, ap, append_assoc, length, refl}
use Rattle.std.proofs.Common.{subst, sym, ℕ}
use Rattle.mail_base.specs.Series.{plain_texts}
use Rattle.mail_base.specs.declared.kind.Kind.{Kind}
use Rattle.disk_model.specs.Seen.{Seen}
use Rattle.disk_model.proofs.Looking.{looks_same}
use Rattle.folder_letters.specs.Letters.{Mail}
use Rattle.keymap.specs.declared.key.Key.{Key}
use Rattle.patterns.specs.Causes.{Keeps}
use Rattle.session_events.specs.Events.{Happening, KeyPressed}
use Rattle.session_events.specs.Happened.{AllMet}
use Rattle.session_events.specs.declared.event.Trace.{Trace}
use Rattle.session_events.specs.declared.setup.Next.{Next}
use Rattle.session_events.proofs.MetLemmas.{met_append}
use Rattle.session_state.specs.Frames.{plain_frames}
use Rattle.session_state.specs.declared.stage.Stage.TheVariants.{Ready}
use Rattle.session.specs.Calls.{IsGivenIn, IsOpenIn, Presses, PressesWhole, Pushes, PushesWhole}
use Rattle.session.specs.Calls.{Works, WorksWhole, events_in, letters_in, state_in}
use Rattle.session.specs.Given.{Given}
use Rattle.session.specs.Runs.{State, arrived, pushed_on, shown}
use Rattle.session.specs.Steps.{AddsWorks, GoesOn, IsDone, IsNext, IsSettled, IsTaken, PressesKey}
use Rattle.session.specs.Steps.{Stands, StaysMet, Waits, next_of}
use Rattle.session.specs.declared.session_type.Session.{Session}
use Rattle.session.proofs.BeginningLemmas.{waits_on, waits_then}
use Rattle.session.proofs.CallsLemmas.{known_on, same_letters}
use Rattle.session.proofs.GivenLemmas.{given_then, keeps_on, keeps_still}
use Rattle.session.proofs.SettlingLemmas.{next_is}
use Rattle.session.proofs.StepsLemmas.{goes_from, goes_same, key_goes, key_notes, key_settles}
use Rattle.session.proofs.StepsLemmas.{key_stands, key_told, pushed_settles, run_same, told_same}
use Rattle.session.proofs.WorksLemmas.{adds_same, met_same}

-- the stage tells whether the run goes on
next_at : (session : Session) (next : Next) → next ≡ next_of session.stage
    → IsNext (next_of session.stage) session.stage → IsNext next session.stage
next_at session next is h = subst (λ (n : Next). IsNext n session.stage) (sym is) h

-- Keys that commands have put.
module _ {X : Type 0} {Is : X → Type 0} (Has : Kind → Type 0) (old mid : Session)
    (was then : Trace X Is) (before : Seen) (open_is : IsOpenIn Has old was before)
    (events : events_in then ≡ events_in was)
    (notes : plain_texts then.notes ≡ plain_texts was.notes)
    (archive : then.archive ≡ was.archive) (kept : Keeps was.verdicts.kept then.verdicts.kept)
    (folder : mid.folder ≡ old.folder)
  where
    -- they were broken off
    pub pushes_off : Pushes Has old mid was then before before
    pushes_off = record {
      on = λ given is first waits. goes_same events (waits_on waits);
      adds = adds_same (events_in was) (events_in then) events;
      told = λ given is first waits start h. told_same events h;
      met = met_same (letters_in was) (letters_in then) (events_in was) (events_in then)
          (same_letters was then archive) events;
      known = known_on Has old mid was then before before folder archive (looks_same before.told)
          open_is;
      given = keeps_still was then archive kept;
    }

    -- they acted, and more was done that they came to
    module _ (new : Session) (now : Trace X Is) (after : Seen)
        (acts : (given : Given) → IsGivenIn then given
        → state_in mid then ≡ pushed_on given (state_in old was))
        (works : Works Has mid new then now before after) where
      stood : (given : Given) → IsGivenIn now given → (first : State)
          → Waits given first (events_in was) (state_in old was)
          → Stands given first (events_in then) (state_in mid then)
          (shown given (state_in mid then))
      stood given is first waits =
          waits_then given first (state_in old was) (state_in mid then) (events_in then)
          (acts given (given_then works.given is))
          (subst (λ (l : List Happening). Waits given first l (state_in old was)) (sym events)
          waits)

      pub pushes : Pushes Has old new was now before after
      pushes = record {
        on = λ given is first waits.
            subst (λ (n : List (List ℕ)). GoesOn given first (events_in now) [] n) notes
            (works.on given is first [] (stood given is first waits));
        adds = subst (λ (l : List Happening). AddsWorks l (events_in now)) events works.adds;
        told = λ given is first waits start h.
            works.told given is first (stood given is first waits).state_is start
            (told_same events h);
        met = λ all. works.met (met_same (letters_in was) (letters_in then) (events_in was)
            (events_in then) (same_letters was then archive) events all);
        known = works.known;
        given = keeps_on (keeps_still was then archive kept) works.given;
      }

      pub pushes_whole : WorksWhole mid new then now → (next : Next) → next ≡ next_of new.stage
          → (IsSettled mid.stage (plain_frames mid.core.frames)
          → IsSettled new.stage (plain_frames new.core.frames))
          → IsDone new.stage (plain_frames new.core.frames) → PushesWhole old new was now next
      pushes_whole whole next is settled done = record {
        to = λ given lent first waits.
            whole.to given lent first (stood given lent first waits).state_is;
        next_is = next_at new next is (next_is _ _
            (settled (pushed_settles (state_in old was) (state_in mid then) acts)) done);
        fits = whole.fits;
      }

-- a key meets no letter
met_pressed : (mails mails' : List Mail) (key : Key) (moment : ℤ) (a b : List Happening)
    → mails' ≡ mails → b ≡ a ++ KeyPressed key moment ∷ [] → StaysMet mails a mails' b
met_pressed mails mails' key moment a b letters put all =
    subst (λ (l : List Mail). AllMet (length l) 0 b) (sym letters)
    (subst (λ (l : List Happening). AllMet (length mails) 0 l) (sym put)
    (met_append (length mails) (length mails) 0 a (KeyPressed key moment ∷ []) all (tt, refl)))

-- A typed key.
module _ {X : Type 0} {Is : X → Type 0} (Has : Kind → Type 0) (key : Key) (moment : ℤ)
    (old mid : Session) (was then : Trace X Is) (before : Seen)
    (open_is : IsOpenIn Has old was before)
    (archive : then.archive ≡ was.archive) (kept : Keeps was.verdicts.kept then.verdicts.kept)
    (folder : mid.folder ≡ old.folder) where
  letters : letters_in then ≡ letters_in was
  letters = same_letters was then archive

  known : IsOpenIn Has mid then before
  known = known_on Has old mid was then before before folder archive (looks_same before.told)
      open_is

  -- there was no room for it
  pub presses_none : (0 < was.events.room → ⊥) → events_in then ≡ events_in was
      → Presses Has key moment old mid was then before before
  presses_none full events = record {
    run = λ given is first screens taken. run_same given first events taken.stands.run;
    on = λ room. absurd (full room);
    pressed = λ room. absurd (full room);
    told = λ given is first screens taken start h. told_same events h;
    met = met_same (letters_in was) (letters_in then) (events_in was) (events_in then) letters
        events;
    known = known;
    given = keeps_still was then archive kept;
  }

  module _ (ready : old.stage ≡ Ready)
      (put : events_in then ≡ events_in was ++ KeyPressed key moment ∷ []) where
    -- it was broken off
    pub presses_off : Presses Has key moment old mid was then before before
    presses_off = record {
      run = λ given is first screens taken. (key_goes key moment (state_in old was) _ _ put ready
          given first screens taken).run;
      on = λ room given is first screens taken. key_goes key moment (state_in old was) _ _ put
          ready given first screens taken;
      pressed = λ room. record { works = []; are = tt; pressed = put };
      told = λ given is first screens taken start h.
          key_told Has key moment _ _ before put given first start h;
      met = met_pressed (letters_in was) (letters_in then) key moment _ _ letters put;
      known = known;
      given = keeps_still was then archive kept;
    }

    -- it acted, and more was done that it came to
    module _ (new : Session) (now : Trace X Is) (after : Seen)
        (acts : (given : Given) → IsGivenIn then given
        → state_in mid then ≡ arrived given (state_in old was) (KeyPressed key moment))
        (works : Works Has mid new then now before after) where
      module _ (given : Given) (is : IsGivenIn now given) (first : State)
          (screens : List (List (List ℕ)))
          (taken : IsTaken given first (events_in was) (state_in old was) moment screens) where
        came : state_in mid then ≡ arrived given (state_in old was) (KeyPressed key moment)
        came = acts given (given_then works.given is)

        stands : Stands given first (events_in then) (state_in mid then)
            (screens ++ shown given (state_in mid then))
        stands = key_stands key moment (state_in old was) _ _ put ready given first screens taken
            (state_in mid then) came

        goes : GoesOn given first (events_in now) screens (plain_texts was.notes)
        goes = goes_from _ [] _ (key_notes key moment (state_in old was) _ _ put ready given
            (state_in mid then) came)
            (works.on given is first screens stands)

      presses_key : PressesKey key moment (events_in was) (events_in now)
      presses_key = record {
        works = works.adds.works;
        are = works.adds.are;
        pressed = works.adds.added
            ∙ ap (λ (l : List Happening). l ++ works.adds.works) put
            ∙ append_assoc (events_in was) (KeyPressed key moment ∷ []) works.adds.works;
      }

      pub presses : Presses Has key moment old new was now before after
      presses = record {
        run = λ given is first screens taken. (goes given is first screens taken).run;
        on = λ room. goes;
        pressed = λ room. presses_key;
        told = λ given is first screens taken start h.
            works.told given is first (stands given is first screens taken).state_is start
            (key_told Has key moment _ _ before put given first start h);
        met = λ all. works.met
            (met_pressed (letters_in was) (letters_in then) key moment _ _ letters put all);
        known = works.known;
        given = keeps_on (keeps_still was then archive kept) works.given;
      }

      pub presses_whole : WorksWhole mid new then now → (next : Next) → next ≡ next_of new.stage
          → (IsSettled mid.stage (plain_frames mid.core.frames)
          → IsSettled new.stage (plain_frames new.core.frames))
          → IsDone new.stage (plain_frames new.core.frames)
          → PressesWhole key moment old new was now next
      presses_whole whole next is settled done = record {
        on = goes;
        pressed = presses_key;
        to = λ given lent first screens taken. whole.to given lent first
            (stands given lent first screens taken).state_is;
        next_is = next_at new next is (next_is _ _ (settled (key_settles key moment
            (state_in old was) (state_in mid then) (KeyPressed key moment) refl acts)) done);
        fits = whole.fits;
      }
