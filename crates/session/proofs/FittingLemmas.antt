-- What events need of an index, and what they leave.
use Rattle.std.proofs.Common.{◌≡◌, ◌≤◌, ◌∙◌, ℕ, ℤ, List, [], ap, arith, refl, sym}
use Rattle.std.proofs.Common.{subst}
use Rattle.disk_model.specs.Seen.{Seen}
use Rattle.folder_letters.specs.Letters.{Mail}
use Rattle.index_view.specs.View.{IsOf}
use Rattle.keymap.specs.Queue.{most_replacements}
use Rattle.keymap.specs.declared.key.Key.{Key}
use Rattle.session_events.specs.Events.{Happening, FileRead, FileRefused, KeyPressed}
use Rattle.session_events.specs.Telling.{HasFileCause, TellsFile}
use Rattle.session_events.specs.declared.event.Marks.{Marks}
use Rattle.message_text.specs.Weeding.{PlainWeeding}
use Rattle.keymap.specs.Queue.{PlainQueue}
use Rattle.session_pager.specs.Opening.{reader_again, shown_again}
use Rattle.keymap.specs.declared.menu.Menu.TheVariants as menu
use Rattle.session_pager.specs.Reader.{PlainReader, PlainShowing, Index, Text, Parts, menu_for}
use Rattle.session.specs.Checking.{IsIndexShown}
use Rattle.session_pager.specs.Reads.{FullReader, IsShown, plain_reader, plain_showing}
use Rattle.session_pager.specs.declared.showing.Showing.{Showing}
use Rattle.session_pager.specs.declared.showing.Showing.TheVariants as kept
use Rattle.session_state.specs.Frames.{PlainFrame}
use Rattle.session_state.specs.Rules.{weeding_of}
use Rattle.session_state.specs.declared.stage.Stage.{Stage}
use Rattle.session_state.specs.declared.stage.Stage.TheVariants.{Unopened}
use Rattle.session.specs.Core.{CoreState, Ground, IsEmpty, IsOver, Reads, plain_core}
use Rattle.session.specs.Keys.{TurnState, settled, turn_of}
use Rattle.session.specs.Steps.{IsSettled}
use Rattle.session.proofs.SettlingLemmas.{turn_settles}
use Rattle.session_screen.specs.Window.{IsWindow}
use Rattle.session_state.specs.Instants.{IsMoment}
use Rattle.session.specs.Fitting.{CanAct, CanLearn, CanRead, CanTake, Fits, IsClosedAt}
use Rattle.session.specs.Fitting.{IsLeft}
use Rattle.session.specs.Fitting.{IsReadIn, ReadsAt, StaysUnopened}
use Rattle.session_state.specs.declared.instant.Moment.{Moment}
use Rattle.session.specs.Runs.{State, plain_session}
use Rattle.session.specs.Starting.{PlainSetup, first_state}
use Rattle.session.specs.declared.session_type.Session.{Session}

-- What holds at a stage.

-- a reader that shows the index has nothing to be worked out
index_read : (mails : List Mail) (cols : ℕ) (weeding : PlainWeeding) (showing : Showing)
    → plain_showing showing ≡ Index → IsShown mails cols weeding showing
index_read mails cols weeding kept.Index is = tt
index_read mails cols weeding (kept.Text text) is = absurd (cc)
index_read mails cols weeding (kept.Parts parts) is = absurd (cc)

over_at : (stage : Stage) (mails : List Mail) (session : Session) → ReadsAt stage mails session
    → Reads mails session.window session.core
over_at Unopened mails session reads = index_read mails session.window.cols
    (weeding_of session.core.rules) session.core.reader.showing reads
over_at _ mails session reads = reads

pub fits_over : (mails : List Mail) (session : Session) → Fits mails session
    → IsOver mails session.window session.core
fits_over mails session fits = record {
  is_of = fits.is_of;
  reads = over_at session.stage mails session fits.reads;
}

pub fits_act : (mails : List Mail) (session : Session) → Fits mails session → CanAct mails session
fits_act mails session fits = record { over = fits_over mails session fits; can = fits.can }

closed_at : (stage : Stage) (mails : List Mail) (session : Session) → ReadsAt stage mails session
    → IsClosedAt stage (plain_reader session.core.reader)
closed_at Unopened mails session reads = reads
closed_at _ mails session reads = tt

pub fits_learn : (mails : List Mail) (session : Session) → Fits mails session
    → CanLearn mails session
fits_learn mails session fits = record {
  is_of = fits.is_of;
  closed = closed_at session.stage mails session fits.reads;
  can = fits.can;
}

reads_at : (stage : Stage) (mails : List Mail) (session : Session)
    → IsClosedAt stage (plain_reader session.core.reader)
    → Reads mails session.window session.core → ReadsAt stage mails session
reads_at Unopened mails session closed reads = closed
reads_at _ mails session closed reads = reads

-- where keys can act
pub act_fits : (mails : List Mail) (session : Session)
    → IsClosedAt session.stage (plain_reader session.core.reader) → CanAct mails session
    → Fits mails session
act_fits mails session closed act = record {
  is_of = act.over.is_of;
  reads = reads_at session.stage mails session closed act.over.reads;
  can = act.can;
}

begun_at : (stage : Stage) (reader : PlainReader) → ¬ (stage ≡ Unopened) → IsClosedAt stage reader
begun_at Unopened reader some = absurd (some refl)
begun_at _ reader some = tt

-- the same once a folder is open
pub open_fits : (mails : List Mail) (session : Session) → ¬ (session.stage ≡ Unopened)
    → CanAct mails session → Fits mails session
open_fits mails session some act =
    act_fits mails session (begun_at session.stage (plain_reader session.core.reader) some) act

-- keys that have acted leave a folder open
settled_open : (stage : Stage) (frames : List PlainFrame) → IsSettled stage frames
    → ¬ (stage ≡ Unopened)
settled_open Unopened frames settled = absurd settled
settled_open _ frames settled = λ is. absurd (cc)

pub turn_open : (g : Ground) (stage : Stage) (c last : CoreState) (queue queue' : PlainQueue)
    → turn_of stage last queue' ≡ settled g c queue → ¬ (stage ≡ Unopened)
turn_open g stage c last queue queue' acts = settled_open stage last.frames
    (subst (λ (t : TurnState). IsSettled t.stage t.core.frames) (sym acts)
    (turn_settles g (turn_of stage c queue)))

-- What is shown is made anew.

again_closed : (stage : Stage) (mails : List Mail) (cols : ℕ) (weeding : PlainWeeding)
    (r : PlainReader) → IsClosedAt stage r → IsClosedAt stage (reader_again mails cols weeding r)
again_closed Unopened mails cols weeding r closed =
    ap (λ (s : PlainShowing). shown_again mails cols weeding s) closed
again_closed _ mails cols weeding r closed = tt

-- the index has learnt, and what is shown was made anew
pub learnt_fits : (mails : List Mail) (old new : Session) (cols : ℕ) (weeding : PlainWeeding)
    → CanLearn mails old → new.stage ≡ old.stage
    → plain_reader new.core.reader
    ≡ reader_again mails cols weeding (plain_reader old.core.reader)
    → CanAct mails new → Fits mails new
learnt_fits mails old new cols weeding learn stage again act = act_fits mails new
    (subst (λ (s : Stage). IsClosedAt s (plain_reader new.core.reader)) (sym stage)
    (subst (IsClosedAt old.stage) (sym again)
    (again_closed old.stage mails cols weeding (plain_reader old.core.reader) learn.closed))) act

-- Commands were run.

pub can_in : (old new : Session) → IsReadIn old new → CanRead old → CanRead new
can_in old new same can = record {
  window = subst IsWindow (sym same.window) can.window;
  moment = subst (λ (m : Moment). IsMoment m.0) (sym same.moment) can.moment;
  few = subst (λ (n : ℕ). n ≤ most_replacements) (sym same.replaced) can.few;
}

pub learn_in : (mails : List Mail) (old new : Session) → IsReadIn old new → CanLearn mails old
    → CanLearn mails new
learn_in mails old new same learn = record {
  is_of = subst (IsOf mails) (sym same.view) learn.is_of;
  closed = subst (λ (stage : Stage). IsClosedAt stage (plain_reader new.core.reader))
      (sym same.stage)
      (subst (λ (r : FullReader). IsClosedAt old.stage (plain_reader r)) (sym same.reader)
      learn.closed);
  can = can_in old new same learn.can;
}

first_closed : (stage : Stage) (reader : PlainReader) → reader.showing ≡ Index
    → IsClosedAt stage reader
first_closed Unopened reader is = is
first_closed _ reader is = tt

-- the first state, whose index is empty
pub first_fits : (mails : List Mail) (session : Session) (setup : PlainSetup) (moment : ℤ)
    → IsEmpty session.core.desk.view
    → plain_session session (record { items = []; room = 0 }) ≡ first_state setup moment
    → IsWindow setup.window → IsMoment moment → Fits mails session
first_fits mails session setup moment empty is window now = act_fits mails session
    (first_closed session.stage (plain_reader session.core.reader)
    (ap (λ (s : State). s.turn.core.reader.showing) is)) (record {
      over = record {
        is_of = empty.is_of mails;
        reads = index_read mails session.window.cols (weeding_of session.core.rules)
            session.core.reader.showing (ap (λ (s : State). s.turn.core.reader.showing) is);
      };
      can = record {
        window = subst IsWindow (sym (ap (λ (s : State). s.window) is)) window;
        moment = subst IsMoment (sym (ap (λ (s : State). s.moment) is)) now;
        few = subst (λ (n : ℕ). n ≤ most_replacements)
            (sym (ap (λ (s : State). s.turn.replaced) is)) (omega arith);
      };
    })

-- Files of commands.

file_needs : (mails : List Mail) (session : Session) (event : Happening) (marks : Marks)
    → HasFileCause event marks → CanLearn mails session → CanTake mails session event
file_needs mails session (FileRead path text kept) marks cause learn = learn
file_needs mails session (FileRefused path why kept) marks cause learn = learn
file_needs mails session _ marks cause learn = absurd cause

pub file_taken : (mails : List Mail) (session : Session) (event : Happening) (now next : Seen)
    → TellsFile event now next → Fits mails session → CanTake mails session event
file_taken mails session event now next tells fits =
    file_needs mails session event tells.marks tells.cause (fits_learn mails session fits)

file_keeps : (mails : List Mail) (old new : Session) (event : Happening) (marks : Marks)
    → HasFileCause event marks → IsLeft mails old new event
    → Fits mails new × StaysUnopened old new
file_keeps mails old new (FileRead path text kept) marks cause left = left
file_keeps mails old new (FileRefused path why kept) marks cause left = left
file_keeps mails old new _ marks cause left = absurd cause

pub file_left : (mails : List Mail) (old new : Session) (event : Happening) (now next : Seen)
    → TellsFile event now next → IsLeft mails old new event → StaysUnopened old new
file_left mails old new event now next tells left =
    (file_keeps mails old new event tells.marks tells.cause left).1

pub file_fits : (mails : List Mail) (old new : Session) (event : Happening) (now next : Seen)
    → TellsFile event now next → IsLeft mails old new event → Fits mails new
file_fits mails old new event now next tells left =
    (file_keeps mails old new event tells.marks tells.cause left).0

-- Keys.

pub key_taken : (mails : List Mail) (session : Session) (key : Key) (moment : ℤ)
    (event : Happening) → event ≡ KeyPressed key moment → Fits mails session → IsMoment moment
    → CanTake mails session event
key_taken mails session key moment event is fits now =
    subst (CanTake mails session) (sym is) (fits_over mails session fits, now)

pub key_fits : (mails : List Mail) (old new : Session) (key : Key) (moment : ℤ)
    (event : Happening) → event ≡ KeyPressed key moment → IsLeft mails old new event
    → Fits mails new
key_fits mails old new key moment event is left = subst (IsLeft mails old new) is left

-- Checks.

shown_index : (showing : PlainShowing) → menu_for showing ≡ menu.Index → showing ≡ Index
shown_index Index is = refl
shown_index (Text id part top hidden) is = absurd (cc)
shown_index (Parts id cursor) is = absurd (cc)

-- where the index is shown, another index, another folder and another stage are all that is to fit
pub shown_fits : (mails : List Mail) (old new : Session)
    → new ≡ record old { core = new.core; folder = new.folder; stage = new.stage }
    → IsOf mails new.core.desk.view → (plain_reader new.core.reader).showing ≡ Index
    → CanRead old → Fits mails new
shown_fits mails old new same of showing can =
    act_fits mails new (first_closed new.stage (plain_reader new.core.reader) showing) (record {
      over = record {
        is_of = of;
        reads = index_read mails new.window.cols (weeding_of new.core.rules)
            new.core.reader.showing showing;
      };
      can = record {
        window = subst (λ (s : Session). IsWindow s.window) (sym same) can.window;
        moment = subst (λ (s : Session). IsMoment s.moment.0) (sym same) can.moment;
        few = subst (λ (s : Session). s.queue.replaced ≤ most_replacements) (sym same) can.few;
      };
    })

-- the same where the index was shown
pub index_fits : (mails : List Mail) (old new : Session)
    → new ≡ record old { core = new.core; folder = new.folder }
    → IsOf mails new.core.desk.view
    → plain_reader new.core.reader ≡ plain_reader old.core.reader
    → IsIndexShown (plain_core old.core) → CanRead old → Fits mails new
index_fits mails old new same of reader shown can =
    shown_fits mails old new
    (same ∙ (λ i. let s : Session = record old {
      core = new.core;
      folder = new.folder;
      stage = (ap (λ (s : Session). s.stage) (sym same)) i;
    } in s)) of
    (ap (λ (r : PlainReader). r.showing) reader
    ∙ shown_index (plain_reader old.core.reader).showing shown) can
