-- How a run goes on by files of commands and syncs, one behind the other.
use Rattle.std.proofs.Common.{◌≡◌, ◌≤◌, ◌++◌, ◌∷◌, ◌∙◌, ℕ, List, [], ap, append_assoc, arith}
use Rattle.std.proofs.Common.{length}
use Rattle.std.proofs.Common.{map, refl, subst, sym}
use Rattle.std.proofs.lemmas.List.{append-nil}
use Rattle.mail_base.specs.Series.{Held, plain_texts}
use Rattle.mail_base.specs.declared.kind.Kind.{Kind}
use Rattle.disk_model.specs.Seen.{Seen}
use Rattle.folder_letters.specs.Letters.{Mail, plain_letter}
use Rattle.folder_letters.specs.declared.letter.Letter.{Letter}
use Rattle.patterns.specs.Causes.{Keeps}
use Rattle.session_events.specs.Events.{AreFiles, AreWorks, Happening, FileRead, FileRefused}
use Rattle.session_events.specs.Events.{IsFile, IsWork}
use Rattle.session_events.specs.Happened.{AllMet, AreNext, met_after}
use Rattle.session_events.specs.Telling.{Tells}
use Rattle.session_events.specs.Wishes.{answered, moment_of}
use Rattle.session_events.specs.declared.event.Trace.{Trace}
use Rattle.session_events.proofs.MetLemmas.{met_append, met_files}
use Rattle.session.specs.Calls.{IsGivenIn, IsOpenIn, KeepsGiven, Reads, ReadsWhole, Works}
use Rattle.session.specs.Calls.{WorksWhole, events_in, letters_in, state_in}
use Rattle.session.specs.Fitting.{FitsRun}
use Rattle.session.specs.Given.{Given}
use Rattle.session.specs.Runs.{State, after, after_events, shown, wish}
use Rattle.session.specs.Steps.{AddsWorks, GoesOn, ReadsFiles, Stands, StaysMet}
use Rattle.session.specs.Telling.{Witnessed, standing_of}
use Rattle.session.specs.declared.session_type.Session.{Session}
use Rattle.session.proofs.CallsLemmas.{known_on, same_letters}
use Rattle.session.proofs.GivenLemmas.{given_then, keeps_on, keeps_still, lent_given}
use Rattle.session.proofs.StepsLemmas.{after-append, files_told, goes_same, goes_then, stands_goes}
use Rattle.session.proofs.StepsLemmas.{stands_push, to_same, told_same}
use Rattle.session.proofs.TellingLemmas.{each_are, files_looks, witnessed_push}
use Rattle.disk_model.proofs.Looking.{looks_same}

-- Events of works.

file_work : (event : Happening) → IsFile event → IsWork event
file_work (FileRead path text marks) is = tt
file_work (FileRefused path why marks) is = tt
file_work _ is = absurd is

files_work : (files : List Happening) → AreFiles files → AreWorks files
files_work [] are = tt
files_work (event ∷ files) are = (file_work event are.0, files_work files are.1)

works_more : (works more : List Happening) → AreWorks works → AreWorks more
    → AreWorks (works ++ more)
works_more [] more are rest = rest
works_more (event ∷ works) more are rest = (are.0, works_more works more are.1 rest)

pub adds_same : (a b : List Happening) → b ≡ a → AddsWorks a b
adds_same a b same = record { works = []; are = tt; added = same ∙ sym (append-nil a) }

adds_then : (a b c : List Happening) → AddsWorks a b → AddsWorks b c → AddsWorks a c
adds_then a b c first next = record {
  works = first.works ++ next.works;
  are = works_more first.works next.works first.are next.are;
  added = next.added ∙ ap (λ (l : List Happening). l ++ next.works) first.added
      ∙ append_assoc a first.works next.works;
}

files_add : (a b : List Happening) (now next : Seen) → ReadsFiles a b now next → AddsWorks a b
files_add a b now next reads = record {
  works = reads.files;
  are = files_work reads.files (each_are reads.files now next reads.each);
  added = reads.added;
}

-- Letters.

pub met_same : (mails mails' : List Mail) (events events' : List Happening) → mails' ≡ mails
    → events' ≡ events → StaysMet mails events mails' events'
met_same mails mails' events events' letters same all =
    subst (λ (l : List Mail). AllMet (length l) 0 events') (sym letters)
    (subst (λ (l : List Happening). AllMet (length mails) 0 l) (sym same) all)

met_read : (mails mails' : List Mail) (a b : List Happening) (now next : Seen) → mails' ≡ mails
    → ReadsFiles a b now next → StaysMet mails a mails' b
met_read mails mails' a b now next letters reads all =
    subst (λ (l : List Mail). AllMet (length l) 0 b) (sym letters)
    (subst (λ (l : List Happening). AllMet (length mails) 0 l) (sym reads.added)
    (met_append (length mails) (length mails) 0 a reads.files all
    (met_files (length mails) reads.files (each_are reads.files now next reads.each))))

-- Nothing was done.
module _ {X : Type 0} {Is : X → Type 0} (Has : Kind → Type 0) (s : Session) (was now : Trace X Is)
    (before after : Seen) (events : events_in now ≡ events_in was)
    (archive : now.archive ≡ was.archive) where
  pub works_still : Keeps was.verdicts.kept now.verdicts.kept → after ≡ before
      → IsOpenIn Has s was before → Works Has s s was now before after
  works_still kept same known = record {
    on = λ given is first screens stands.
        goes_same events (stands_goes [] (sym (append-nil _)) stands);
    adds = adds_same (events_in was) (events_in now) events;
    told = λ given is first at seen w.
        subst (λ (n : Seen). Witnessed Has given first (events_in now) seen n) (sym same)
        (told_same events w);
    met = met_same (letters_in was) (letters_in now) (events_in was) (events_in now)
        (same_letters was now archive) events;
    known = subst (λ (n : Seen). IsOpenIn Has s now n) (sym same)
        (known_on Has s s was now before before refl archive (looks_same before.told) known);
    window = refl;
    given = keeps_still was now archive kept;
  }

pub whole_still : {X : Type 0} {Is : X → Type 0} (s : Session) (was now : Trace X Is)
    → events_in now ≡ events_in was → now.archive ≡ was.archive → state_in s now ≡ state_in s was
    → FitsRun (letters_in was) s → WorksWhole s s was now
whole_still {X} {Is} s was now events archive state fits = record {
  to = λ given is first at. to_same given first events at ∙ sym state;
  fits = subst (λ (letters : List Mail). FitsRun letters s)
      (sym (same_letters was now archive)) fits;
}

-- Files of commands were read.
module _ {X : Type 0} {Is : X → Type 0} (Has : Kind → Type 0) (old new : Session)
    (was now : Trace X Is) (before after : Seen) (reads : Reads old new was now before after) where
  pub works_read : IsOpenIn Has old was before → Works Has old new was now before after
  works_read known = record {
    on = λ given is. reads.on given (lent_given old.stage is);
    adds = files_add _ _ _ _ reads.files;
    told = λ given is first at. files_told Has _ _ _ _ reads.files given first;
    met = met_read (letters_in was) (letters_in now) _ _ _ _
        (same_letters was now reads.archive) reads.files;
    known = known_on Has old new was now before after reads.folder reads.archive
        (files_looks _ _ _ _ reads.files) known;
    window = reads.window;
    given = keeps_still was now reads.archive reads.kept;
  }

pub whole_read : {X : Type 0} {Is : X → Type 0} {old new : Session} {was now : Trace X Is}
    → ReadsWhole old new was now → WorksWhole old new was now
whole_read {X} {Is} {old} {new} {was} {now} whole = record {
  to = λ given is. whole.to given (lent_given old.stage is);
  fits = whole.fits;
}

-- Something was done, and then more.
module _ {X : Type 0} {Is : X → Type 0} {Has : Kind → Type 0} {old mid new : Session}
    {was then now : Trace X Is} {before between after : Seen}
    (first_works : Works Has old mid was then before between) (whole : WorksWhole old mid was then)
    (next : Works Has mid new then now between after) where
  pub works_then : Works Has old new was now before after
  works_then = record {
    on = λ given is first screens stands.
        goes_then (first_works.on given (given_then next.given is) first screens stands)
        (whole.to given (given_then next.given is) first stands.state_is)
        (next.on given is first screens);
    adds = adds_then _ _ _ first_works.adds next.adds;
    told = λ given is first at seen w.
        next.told given is first (whole.to given (given_then next.given is) first at) seen
        (first_works.told given (given_then next.given is) first at seen w);
    met = λ all. next.met (first_works.met all);
    known = next.known;
    window = next.window ∙ first_works.window;
    given = keeps_on first_works.given next.given;
  }

  pub whole_then : WorksWhole mid new then now → WorksWhole old new was now
  whole_then ends = record {
    to = λ given is first at.
        ends.to given is first (whole.to given (given_then next.given is) first at);
    fits = ends.fits;
  }

-- One event was put.
module _ {X : Type 0} {Is : X → Type 0} (Has : Kind → Type 0) (old new : Session)
    (was now : Trace X Is) (event : Happening) (before later : Seen) (work : IsWork event)
    (put : events_in now ≡ events_in was ++ event ∷ [])
    (silent : (given : Given) → shown given (state_in old was) ≡ [])
    (noted : (given : Given) → (after given (state_in old was) event).notes
    ≡ plain_texts was.notes)
    (answers : wish (state_in old was) (moment_of event) ≡ answered event)
    (tells : (given : Given) → IsGivenIn now given
    → Tells Has (standing_of (state_in old was)) given.mails event before later)
    (next : AreNext (length (letters_in was)) event)
    (met : length (letters_in now) ≡ met_after (length (letters_in was)) event)
    (known : IsOpenIn Has new now later) (window : new.window ≡ old.window)
    (grows : KeepsGiven was now) where
  abbrev s : State
  s = state_in old was

  stood : (given : Given) (first : State) (screens : List (List (List ℕ)))
      → Stands given first (events_in was) s (screens ++ shown given s)
      → Stands given first (events_in now) (after given s event)
      (screens ++ shown given (after given s event))
  stood given first screens stands =
      subst (λ (l : List Happening). Stands given first l (after given s event)
      (screens ++ shown given (after given s event))) (sym put)
      (stands_push given first s (events_in was) event screens
      (subst (λ (l : List (List (List ℕ))). Stands given first (events_in was) s l)
      (ap (λ (l : List (List (List ℕ))). screens ++ l) (silent given) ∙ append-nil screens)
      stands) answers)

  pub works_event : Works Has old new was now before later
  works_event = record {
    on = λ given is first screens stands. stands_goes []
        (noted given ∙ sym (append-nil (plain_texts was.notes)))
        (stood given first screens stands);
    adds = record { works = event ∷ []; are = (work, tt); added = put };
    told = λ given is first at seen w.
        subst (λ (l : List Happening). Witnessed Has given first l seen later) (sym put)
        (witnessed_push Has given first s (events_in was) event seen before later at
        (tells given is) w);
    met = λ all. subst (λ (l : List Happening). AllMet (length (letters_in now)) 0 l) (sym put)
        (met_append (length (letters_in now)) (length (letters_in was)) 0 (events_in was)
        (event ∷ []) all (next, met));
    known = known;
    window = window;
    given = grows;
  }

  pub whole_event : ((given : Given) → IsGivenIn now given
      → after given s event ≡ state_in new now) → FitsRun (letters_in now) new
      → WorksWhole old new was now
  whole_event leads fits = record {
    to = λ given is first at.
        ap (after_events given first) put
        ∙ (stood_at given first at) ∙ leads given is;
    fits = fits;
  }
    where
      stood_at : (given : Given) (first : State) → after_events given first (events_in was) ≡ s
          → after_events given first (events_in was ++ event ∷ []) ≡ after given s event
      stood_at given first at = after-append given first (events_in was) (event ∷ [])
          ∙ ap (λ (t : State). after given t event) at
