-- Searches among the messages that are seen.
use Rattle.std.specs.Prelude.{ℕ, List, Option, None, Some}
use Rattle.folder_letters.specs.Letters.{Mail}
use Rattle.mail_base.specs.declared.kind.Id.{Id}
use Rattle.index_listed.specs.Places.{place_in}
use Rattle.index_view.specs.Answers.{PlainAnswers}
use Rattle.index_view.specs.Searching.{found_from}
use Rattle.patterns_match.specs.Pattern.{PlainPattern}
use Rattle.index_view.specs.View.{PlainView, facts_of, messages_over}
use Rattle.patterns_match.specs.Listings.{Message}
use Rattle.people.specs.People.{PlainPeople}
use Rattle.index_functions.specs.Ways.{way_or}
use Rattle.session_index.specs.Shown.{seen}
use Rattle.index_functions.specs.declared.notice.Notice.TheVariants as notice
use Rattle.index_functions.specs.declared.way.Way.{Way}
use Rattle.index_functions.specs.declared.way.Way.TheVariants.{Stays}

-- where a search leads from a place, if the cursor has one
abbrev pub way_found : PlainPeople → PlainPattern → List Message → PlainAnswers → Option ℕ → Way
way_found people pattern messages a None = Stays notice.NoMessages
way_found people pattern messages a (Some p) =
    way_or notice.NotFound (found_from people pattern messages a p)

-- the place of the cursor in what is seen
abbrev pub place_of : List Id → Option Id → Option ℕ
place_of ids None = None
place_of ids (Some id) = place_in ids id

-- where a search leads
abbrev pub search_way : List Mail → PlainPattern → PlainView → Way
search_way mails pattern v = way_found v.people pattern (messages_over mails (facts_of v))
    v.answers (place_of (seen v.answers) v.cursor)
