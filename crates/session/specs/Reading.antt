-- What is shown in place of the index: a message on pages, one of its parts, or the list of them.
use Rattle.std.specs.Prelude.{ℕ, Bool, List, Option, None, Some, codes, if◌then◌else◌}
use Rattle.folder_letters.specs.Letters.{Mail}
use Rattle.mail_base.specs.Shown.{utf8_text}
use Rattle.patterns.specs.Causes.{is_good_on}
use Rattle.people.specs.Judged.{PlainJudged}
use Rattle.prompts.specs.declared.asking.Asking.TheVariants as asking
use Rattle.session_index.specs.Effects.{asked}
use Rattle.index_functions.specs.declared.notice.Notice.TheVariants.{NotFound}
use Rattle.session_pager.specs.Opening.{reader_again}
use Rattle.session_pager.specs.Reader.{index_shown}
use Rattle.session_pager.specs.Searching.{is_found, is_found_again}
use Rattle.session_pager.specs.Searching.{searched_again as reader_searched}
use Rattle.session_pager.specs.Searching.{searched_for as reader_searched_for}
use Rattle.session_state.specs.Rules.{weeding_of}
use Rattle.session_screen.specs.declared.window.Window.{Window}
use Rattle.session.specs.Core.{CoreState, refused, said, with_desk, with_reader}

-- the index comes back
abbrev pub left : CoreState → CoreState
left c = with_reader (index_shown c.reader) c

-- what is shown is made anew, by the variables as they are now
abbrev pub refreshed : List Mail → Window → CoreState → CoreState
refreshed mails window c =
    with_reader (reader_again mails window.cols (weeding_of c.rules) c.reader) c

-- the last line tells where nothing was found
abbrev pub told_found : Bool → CoreState → CoreState
told_found found c = if found then c else said NotFound c

-- a text is searched in the pager from the top on, and kept
abbrev pub searched_for : List Mail → Window → List ℕ → CoreState → CoreState
searched_for mails window text c =
    told_found (is_found text mails window.cols (weeding_of c.rules) c.reader)
    (with_reader (reader_searched_for text mails window.cols (weeding_of c.rules) c.reader) c)

-- a text is asked for
abbrev pub asking_search : CoreState → CoreState
asking_search c = with_desk (asked asking.Search c.desk) c

-- what was searched again was found or not, or a text is asked for
abbrev pub told_again : Option Bool → CoreState → CoreState
told_again None c = asking_search c
told_again (Some found) c = told_found found c

-- the search of the pager goes on, or one is asked for
abbrev pub searched_again : List Mail → Window → CoreState → CoreState
searched_again mails window c =
    told_again (is_found_again mails window.cols (weeding_of c.rules) c.reader)
    (with_reader (reader_searched mails window.cols (weeding_of c.rules) c.reader) c)

-- a text is read as an expression by these verdicts, and searched
abbrev pub expression_read : List PlainJudged → List Mail → Window → List ℕ → CoreState → CoreState
expression_read verdicts mails window text c = if is_good_on verdicts (utf8_text text)
    then searched_for mails window (utf8_text text) c
    else refused (codes "bad expression: ") text c
