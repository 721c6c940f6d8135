-- What keys act on, and what they are lent.
use Rattle.std.specs.Prelude.{◌≡◌, ◌++◌, ℕ, ℤ, Bool, false, List, [], Option, None, option_map}
use Rattle.folder_letters.specs.Letters.{Mail}
use Rattle.mail_base.specs.declared.kind.Kind.{Kind}
use Rattle.mail_base.specs.declared.kind.Kind.TheVariants.{Mbox}
use Rattle.index_view.specs.View.{IsOf, PlainView, first_view}
use Rattle.keymap.specs.declared.menu.Menu.{Menu}
use Rattle.people.specs.People.{no_people}
use Rattle.people.specs.Judged.{PlainJudged}
use Rattle.session_index.specs.Desk.{PlainDesk, Unasked, plain_desk}
use Rattle.session_index.specs.Index.{index_of}
use Rattle.session_index.specs.Effects.{said as said_on}
use Rattle.index_functions.specs.declared.notice.Notice.{Notice}
use Rattle.session_pager.specs.Reader.{PlainReader, menu_of, no_reader}
use Rattle.session_pager.specs.Reads.{IsRead, plain_reader}
use Rattle.session_state.specs.Frames.{PlainFrame, plain_frames}
use Rattle.session_state.specs.Rules.{PlainRules, first_rules, weeding_of}
use Rattle.session_screen.specs.Tuning.{options_of}
use Rattle.session.specs.Given.{Given, given_of}
use Rattle.session.specs.declared.core_state.Core.{Core}
use Rattle.session_screen.specs.declared.window.Window.{Window}
use Rattle.session_state.specs.declared.instant.Instant.{Instant}

-- what muttrc has set, what the index shows, the text of its limit, what is shown in its place, the
-- kind of the open folder, and the files of commands that are not at their ends
pub record CoreState : Type 0 where
  pub rules : PlainRules
  pub desk : PlainDesk
  pub limit : Option (List ℕ)
  pub reader : PlainReader
  pub kind : Kind
  pub frames : List PlainFrame

-- what keys act on, as contracts see it
abbrev pub plain_core : Core → CoreState
plain_core core = record {
  rules = core.rules;
  desk = plain_desk core.desk;
  limit = option_map (λ text. text.items) core.limit;
  reader = plain_reader core.reader;
  kind = core.kind;
  frames = plain_frames core.frames;
}

-- the menu that is shown, whose bindings keys are looked up in
abbrev pub shown_menu : CoreState → Menu
shown_menu c = menu_of c.reader

-- before these files of commands are read and a folder is open
abbrev pub first_core : Bool → List PlainFrame → CoreState
first_core read_only frames = record {
  rules = first_rules;
  desk = record {
    index = index_of (first_view (options_of first_rules.settings) no_people []);
    message = [];
    prompt = None;
    search = None;
    prefix = false;
    read_only = read_only;
    wanted = Unasked;
  };
  limit = None;
  reader = no_reader;
  kind = Mbox;
  frames = frames;
}

-- a core that is this one, over these letters
pub record Stands (mails : List Mail) (wanted : CoreState) (core : Core) : Type 0 where
  pub is_of : IsOf mails core.desk.view
  pub same : plain_core core ≡ wanted

-- what is kept of the message that is shown is what is worked out from scratch
abbrev pub Reads : List Mail → Window → Core → Type 0
Reads mails window core = IsRead mails window.cols (weeding_of core.rules) core.reader

-- what is kept of the index and of what is shown in its place is what is worked out from scratch
pub record IsOver (mails : List Mail) (window : Window) (core : Core) : Type 0 where
  pub is_of : IsOf mails core.desk.view
  pub reads : Reads mails window core

-- an index without messages, which is of all letters
pub record IsEmpty (view : PlainView) : Type 0 where
  pub none : view.items ≡ []
  pub is_of : (mails : List Mail) → IsOf mails view

-- what keys are lent: letters and verdicts, the window, and the moment at which they act
pub record Ground : Type 0 where
  pub given : Given
  pub window : Window
  pub moment : ℤ

-- the same with another desk
abbrev pub with_desk : PlainDesk → CoreState → CoreState
with_desk d c = record c { desk = d }

-- the same with another reader
abbrev pub with_reader : PlainReader → CoreState → CoreState
with_reader r c = record c { reader = r }

-- the last line says this
abbrev pub said : Notice → CoreState → CoreState
said notice c = with_desk (said_on notice c.desk) c

-- the last line tells what a text is not
abbrev pub refused : List ℕ → List ℕ → CoreState → CoreState
refused front text c = with_desk (record c.desk { message = front ++ text }) c

-- a moment, with the reader's offset from UTC
abbrev pub instant_of : Window → ℤ → Instant
instant_of window moment = record { seconds = moment; offset = window.offset }

-- what keys are given beside what they act on
abbrev pub ground_of : List Mail → List PlainJudged → Window → ℤ → Ground
ground_of mails verdicts window moment = record {
  given = given_of mails verdicts;
  window = window;
  moment = moment;
}
