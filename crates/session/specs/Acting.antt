-- What is done about an answer of keys, and about a key at a prompt, by the menu that is shown.
use Rattle.std.specs.Prelude.{◌==◌, Bool, true, false, List, Option, None, Some, codes}
use Rattle.std.specs.Prelude.{if◌then◌else◌}
use Rattle.folder_letters.specs.Letters.{Mail}
use Rattle.keymap.specs.declared.function.Function.{Function}
use Rattle.keymap.specs.declared.function.Function.TheVariants as f
use Rattle.keymap.specs.declared.key.Key.{Key}
use Rattle.keymap.specs.declared.menu.Menu.{Menu}
use Rattle.keymap.specs.declared.menu.Menu.TheVariants as menu
use Rattle.keymap.specs.declared.press.Press.{Press}
use Rattle.keymap.specs.declared.press.Press.TheVariants as press
use Rattle.mail_base.specs.declared.kind.Id.{Id}
use Rattle.rc_lang.specs.Settings.{outcome}
use Rattle.session_index.specs.Desk.{PlainWanted, ToDisplay, ToList}
use Rattle.session_index.specs.Effects.{performed}
use Rattle.session_index.specs.Typing.{typed}
use Rattle.session_index.specs.Viewing.{allows, gone_on, leads, way_on}
use Rattle.index_functions.specs.declared.notice.Notice.TheVariants as notice
use Rattle.index_functions.specs.declared.rule.Rule.{Rule}
use Rattle.session_pager.specs.Deeds.{attach_deed, pager_deed}
use Rattle.session_pager.specs.declared.attach_functions.AttachDeed.{AttachDeed}
use Rattle.session_pager.specs.declared.attach_functions.AttachDeed.TheVariants as attach
use Rattle.session_pager.specs.declared.pager_functions.PagerDeed.{PagerDeed}
use Rattle.session_pager.specs.declared.pager_functions.PagerDeed.TheVariants as pager
use Rattle.session_pager.specs.Opening.{part_opened}
use Rattle.session_pager.specs.Stepping.{cursor_stepped, step_of}
use Rattle.session_pager.specs.Turning.{page_turned}
use Rattle.session_pager.specs.declared.stepped.Stepped.{Stepped}
use Rattle.session_pager.specs.declared.stepped.Stepped.TheVariants as step
use Rattle.session_pager.specs.declared.turn.Turn.{Turn}
use Rattle.session_state.specs.Rules.{weeding_of}
use Rattle.session.specs.Answers.{granted, heeded, with_settings}
use Rattle.session.specs.Core.{CoreState, Ground, said, shown_menu, with_desk, with_reader}
use Rattle.session.specs.Reading.{asking_search, left, refreshed, searched_again}
use Rattle.session.specs.Rules.{rule_of}
use Rattle.session.specs.Showing.{displaying_cursor, listing_cursor}
use Rattle.session_screen.specs.Toggling.{toggle_words}
use Rattle.session_screen.specs.Window.{page_rows}
use Rattle.session_screen.specs.declared.window.Window.{Window}

-- a function that turns a variable over does so, and what is shown is made anew by it (Mutt's
-- manual, "display-toggle-weed")
abbrev pub turned_over : List Mail → Window → Function → CoreState → CoreState
turned_over mails window f.DisplayToggleWeed c = refreshed mails window
    (with_settings (outcome c.rules.settings (toggle_words (codes "weed"))).values c)
turned_over mails window _ c = c

-- The index.

-- a function does what it does to the index, by a rule
abbrev pub performed_by : Rule → List Mail → Function → CoreState → CoreState
performed_by rule mails function c = with_desk (performed rule mails function c.desk) c

-- by what the settings and the window say
abbrev pub performed_in : Window → List Mail → Function → CoreState → CoreState
performed_in window mails function c =
    performed_by (rule_of c.rules.settings c.kind window) mails function c

-- a function that leaves the index is done
abbrev pub served : Ground → PlainWanted → CoreState → CoreState
served g ToDisplay c = displaying_cursor g (granted c)
served g ToList c = listing_cursor g.given.mails (granted c)
served g _ c = c

-- what is wanted is served
abbrev pub serving : Ground → CoreState → CoreState
serving g c = served g c.desk.wanted c

-- what a function does in the index
abbrev pub in_index : Ground → Function → CoreState → CoreState
in_index g function c =
    serving g (performed_in g.window g.given.mails function
    (turned_over g.given.mails g.window function c))

-- The pager.

-- two cursors are on one message
abbrev pub is_at : Option Id → Option Id → Bool
is_at None None = true
is_at (Some id) (Some other) = id.0 == other.0
is_at _ _ = false

-- the message is shown to which the cursor came, unless it stayed
abbrev pub followed : Ground → Option Id → CoreState → CoreState
followed g was c =
    if is_at was c.desk.index.cursor then c else displaying_cursor g c

-- the same behind a function
abbrev pub following : Ground → Function → CoreState → CoreState
following g function c = followed g c.desk.index.cursor (in_index g function c)

-- the next message that is not deleted is shown, where there is one; else the index comes back
abbrev pub on_or_left : Ground → Rule → CoreState → CoreState
on_or_left g rule c = if leads (way_on rule g.given.mails c.desk)
    then displaying_cursor g (with_desk (gone_on rule g.given.mails c.desk) c)
    else left (with_desk (gone_on rule g.given.mails c.desk) c)

-- the rule without its way on, so that the cursor stays
abbrev pub still : Window → CoreState → Rule
still window c = record (rule_of c.rules.settings c.kind window) { resolves = false }

-- the cursor's message is deleted, and what comes behind it is shown, unless that is refused
abbrev pub deleting : Ground → Function → CoreState → CoreState
deleting g function c = if allows g.given.mails function c.desk
    then on_or_left g (still g.window c)
    (performed_by (still g.window c) g.given.mails function c)
    else performed_by (still g.window c) g.given.mails function c

-- the top of the page is moved, or quoted lines are hidden or shown
abbrev pub turning : List Mail → Window → Turn → CoreState → CoreState
turning mails window turn c = with_reader
    (page_turned turn (page_rows window) mails window.cols (weeding_of c.rules) c.reader) c

-- what is done to the pages alone
abbrev pub page_done : List Mail → Window → PagerDeed → CoreState → CoreState
page_done mails window pager.Leave c = left c
page_done mails window (pager.Turn turn) c = turning mails window turn c
page_done mails window pager.AskSearch c = asking_search c
page_done mails window pager.SearchAgain c = searched_again mails window c
page_done mails window _ c = said notice.NotBound c

-- what a function does in the pager
abbrev pub pager_done : Ground → Function → PagerDeed → CoreState → CoreState
pager_done g function pager.Follow c = following g function c
pager_done g function pager.AsInIndex c = in_index g function c
pager_done g function pager.DeleteOn c = deleting g function c
pager_done g function deed c = page_done g.given.mails g.window deed c

-- by the line of the function
abbrev pub in_pager : Ground → Function → CoreState → CoreState
in_pager g function c = pager_done g function (pager_deed function) c

-- The list of parts.

-- the last line tells that there is no further row
abbrev pub at_end : Stepped → CoreState → CoreState
at_end step.First c = said notice.OnFirst c
at_end step.Last c = said notice.OnLast c
at_end _ c = c

-- the cursor goes to the next row, or to the one before
abbrev pub stepping : List Mail → Window → Bool → CoreState → CoreState
stepping mails window down c =
    at_end (step_of down mails window.cols (weeding_of c.rules) c.reader)
    (with_reader (cursor_stepped down mails window.cols (weeding_of c.rules) c.reader) c)

-- what a function does in the list of parts
abbrev pub attach_done : List Mail → Window → AttachDeed → CoreState → CoreState
attach_done mails window attach.Down c = stepping mails window true c
attach_done mails window attach.Up c = stepping mails window false c
attach_done mails window attach.OpenPart c = with_reader (part_opened mails c.reader) c
attach_done mails window attach.Leave c = left c
attach_done mails window attach.NoDeed c = said notice.NotBound c

-- Menus.

-- what a function does in a menu
abbrev pub done_in : Ground → Menu → Function → CoreState → CoreState
done_in g menu.Pager function c = in_pager g function c
done_in g menu.Attach function c =
    attach_done g.given.mails g.window (attach_deed function) c
done_in g _ function c = in_index g function c

-- in the menu that is shown
abbrev pub in_menu : Ground → Function → CoreState → CoreState
in_menu g function c = done_in g (shown_menu c) function c

-- what is done about an answer of keys
unfoldable pub acted : Ground → Press → CoreState → CoreState
acted g press.Wait c = c
acted g press.Unbound c = said notice.NotBound c
acted g (press.Function function) c = in_menu g function c
acted g press.Loop c = said notice.MacroLoop c

-- a key is typed at a prompt, and what it answers is done
unfoldable pub prompted : Ground → Key → CoreState → CoreState
prompted g key c = heeded g (with_desk (typed key c.desk) c)
