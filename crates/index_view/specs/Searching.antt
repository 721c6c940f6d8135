-- Searches among the messages that are seen.
use Rattle.std.specs.Prelude.{◌+◌, ◌++◌, ℕ, List, Option, drop, find, take}
use Rattle.mail_base.specs.declared.kind.Id.{Id}
use Rattle.index_listed.specs.Seen.{visible_ids}
use Rattle.patterns_match.specs.Listings.{Message}
use Rattle.patterns_match.specs.Pattern.{PlainPattern}
use Rattle.people.specs.People.{PlainPeople}
use Rattle.index_view.specs.Answers.{PlainAnswers, id_passes}

-- the ids from the one behind a place on, going round to the one at the place
abbrev pub round : ℕ → List Id → List Id
round p ids = drop (p + 1) ids ++ take (p + 1) ids

-- the next message that satisfies a pattern, from the one behind a place on, going round
abbrev pub found_from : PlainPeople → PlainPattern → List Message → PlainAnswers → ℕ → Option Id
found_from people pattern messages a p =
    find (id_passes people pattern messages a) (round p (visible_ids a.sight))
