-- The screen: the page of the index that holds the cursor, of the message that is shown, or of the
-- list of its parts; the status line and the last line. All is computed from scratch from the
-- letters and the state (Mutt's manual, "index_format", "pager_format", "status_format").
use Rattle.std.specs.Prelude.{◌∷◌, ◌++◌, ℕ, List, [], Option, Some, None}
use Rattle.folder_letters.specs.Letters.{Mail}
use Rattle.index_view.specs.View.{PlainView}
use Rattle.keymap.specs.declared.menu.Menu.{Menu}
use Rattle.keymap.specs.declared.menu.Menu.TheVariants as menu
use Rattle.mail_base.specs.declared.kind.Id.{Id}
use Rattle.mail_base.specs.declared.kind.Kind.{Kind}
use Rattle.session_index.specs.Index.{PlainIndex, answers_of}
use Rattle.session_index.specs.LastLine.{last_line as line_of_desk}
use Rattle.session_pager.specs.Lines.{page_lines as text_lines, part_lines}
use Rattle.session_pager.specs.Reader.{shown_id}
use Rattle.session_screen.specs.PagerStatus.{pager_line}
use Rattle.session_screen.specs.Screen.{page_lines as lines_of_page}
use Rattle.session_screen.specs.Status.{PlainBanner, status_line as line_of_status}
use Rattle.session_screen.specs.Window.{page_rows}
use Rattle.session_state.specs.Rules.{weeding_of}
use Rattle.session.specs.Core.{CoreState, shown_menu}
use Rattle.session_screen.specs.declared.status.Place.{Place}
use Rattle.session_screen.specs.declared.window.Window.{Window}

-- the folder that is open
pub record Folder : Type 0 where
  pub path : List ℕ
  pub kind : Kind

-- what a view of the index answers from scratch; its lines look at that and the cursor alone
abbrev pub view_over : List Mail → PlainIndex → PlainView
view_over mails i = record {
  options = i.facts.options;
  items = i.facts.items;
  people = i.facts.people;
  scores = [];
  limit = None;
  heads = [];
  answers = answers_of mails i;
  cursor = i.cursor;
  aliases = i.aliases;
}

-- Lines.

-- the lines of the page, in a menu
abbrev pub lines_in : List Mail → Window → Menu → CoreState → List (List ℕ)
lines_in mails window menu.Pager c =
    text_lines (page_rows window) mails window.cols (weeding_of c.rules) c.reader
lines_in mails window menu.Attach c =
    part_lines (page_rows window) window.cols mails window.cols (weeding_of c.rules) c.reader
lines_in mails window _ c =
    lines_of_page mails c.rules.settings window (view_over mails c.desk.index)

-- the lines of the page
abbrev pub page_lines : List Mail → Window → CoreState → List (List ℕ)
page_lines mails window c = lines_in mails window (shown_menu c) c

-- what the status line shows beside the index and the variables
abbrev pub banner_of : Folder → CoreState → PlainBanner
banner_of folder c = record {
  path = folder.path;
  kind = folder.kind;
  read_only = c.desk.read_only;
  limit = c.limit;
}

-- the status line of a screen: that of a message where one is shown
abbrev pub status_in : List Mail → Window → Folder → Option Id → CoreState → List ℕ
status_in mails window folder None c = line_of_status window c.rules.settings (banner_of folder c)
    (view_over mails c.desk.index)
status_in mails window folder (Some id) c =
    pager_line mails c.rules.settings window (view_over mails c.desk.index) id

-- the status line of a screen
abbrev pub status_line : List Mail → Window → Folder → CoreState → List ℕ
status_line mails window folder c = status_in mails window folder (shown_id c.reader) c

-- the last line of a screen: the prompt that stands, or the message
abbrev pub last_line : Window → CoreState → List ℕ
last_line window c = line_of_desk window.cols c.desk

-- the lines of the screen
unfoldable pub screen : List Mail → Window → Folder → CoreState → List (List ℕ)
screen mails window folder c =
    page_lines mails window c ++ status_line mails window folder c ∷ last_line window c ∷ []

-- the open folder as contracts see it
abbrev pub plain_place : Place → Folder
plain_place place = record { path = place.path.now; kind = place.kind }
