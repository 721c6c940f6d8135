-- What is shown of messages, by their ids.
use Rattle.std.specs.Prelude.{Bool, false, not, List}
use Rattle.std.specs.Option.{option_map_or}
use Rattle.mail_base.specs.Flags as flags
use Rattle.mail_base.specs.declared.kind.Id.{Id}
use Rattle.index_view.specs.Answers.{PlainAnswers, row}
use Rattle.index_listed.specs.Seen.{visible_ids}
use Rattle.patterns_match.specs.declared.row.Row.{Row}
use Rattle.session_index.specs.declared.sought.Sought.{Sought}
use Rattle.session_index.specs.declared.sought.Sought.TheVariants.{Undeleted, Deleted, New, Old}
use Rattle.session_index.specs.declared.sought.Sought.TheVariants.{Unread, Flagged, Tagged}
use Rattle.session_index.specs.declared.sought.Sought.TheVariants.{Collapsed}

-- the ids that are seen, in order
abbrev pub seen : PlainAnswers → List Id
seen a = visible_ids a.sight

-- a message is as it is sought; an unread one is new or old
abbrev pub is_so : Sought → Row → Bool
is_so Undeleted r = not r.deleted
is_so Deleted r = r.deleted
is_so New r = flags.is_new r.flags
is_so Old r = flags.is_old r.flags
is_so Unread r = not r.flags.seen
is_so Flagged r = r.flags.flagged
is_so Tagged r = r.tagged
is_so Collapsed r = r.collapsed

-- the message with an id is as it is sought
abbrev pub shows : Sought → PlainAnswers → Id → Bool
shows sought a id = option_map_or (is_so sought) (row a id) false
