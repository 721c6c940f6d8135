-- Where motions of the cursor lead: a line each.
use Rattle.std.specs.Prelude.{◌+◌, ◌-◌, ℕ, true, false, List, Option, None}
use Rattle.std.specs.Prelude.{Some, drop, find, length, reverse, slice_get, take}
use Rattle.std.specs.Prelude.{if◌then◌else◌}
use Rattle.std.specs.Option.{option_or}
use Rattle.mail_base.specs.declared.kind.Id.{Id}
use Rattle.index_listed.specs.Places.{place_in}
use Rattle.index_view.specs.Answers.{PlainAnswers, parent_of}
use Rattle.index_view.specs.Searching.{round}
use Rattle.index_listed.specs.Cursor.{is_seen}
use Rattle.index_view.specs.View.{PlainView, moved_to}
use Rattle.threads.specs.declared.options.Parent.{Parent}
use Rattle.index_functions.specs.Places.{page_before, page_behind}
use Rattle.index_functions.specs.Ways.{way_or}
use Rattle.session_index.specs.Shown.{seen, shows}
use Rattle.session_index.specs.Neighbours.{root_of, thread_beside}
use Rattle.index_functions.specs.declared.motion.Motion.{Motion}
use Rattle.index_functions.specs.declared.motion.Motion.TheVariants.{NextUndeleted}
use Rattle.index_functions.specs.declared.motion.Motion.TheVariants.{PreviousUndeleted, Next}
use Rattle.index_functions.specs.declared.motion.Motion.TheVariants.{Previous, First, Last}
use Rattle.index_functions.specs.declared.motion.Motion.TheVariants.{NextPage, PreviousPage}
use Rattle.index_functions.specs.declared.motion.Motion.TheVariants.{NextUnread, NextThread}
use Rattle.index_functions.specs.declared.motion.Motion.TheVariants.{PreviousThread, ToParent}
use Rattle.index_functions.specs.declared.notice.Notice.{Notice}
use Rattle.index_functions.specs.declared.notice.Notice.TheVariants as notice
use Rattle.session_index.specs.declared.sought.Sought.TheVariants as sought
use Rattle.index_functions.specs.declared.way.Way.{Way}
use Rattle.index_functions.specs.declared.way.Way.TheVariants.{To, Stays}

-- the ids before a place, the nearest first
abbrev pub back : ℕ → List Id → List Id
back p ids = reverse (take p ids)

-- the next new message, or else the next unread one
abbrev pub next_unread : PlainAnswers → List Id → Option Id
next_unread a ids =
    option_or (find (shows sought.New a) ids) (find (shows sought.Unread a) ids)

-- to the parent, where it is seen
abbrev pub way_to_parent : List Id → Option Parent → Way
way_to_parent ids None = Stays notice.NoParent
way_to_parent ids (Some parent) =
    if is_seen ids parent.id then To parent.id else Stays notice.ParentHidden

-- among these messages, from this place and this id on
abbrev pub way_from : Motion → ℕ → PlainAnswers → List Id → ℕ → Id → Way
way_from NextUndeleted size a ids p id =
    way_or notice.NoUndeleted (find (shows sought.Undeleted a) (drop (p + 1) ids))
way_from PreviousUndeleted size a ids p id =
    way_or notice.NoUndeleted (find (shows sought.Undeleted a) (back p ids))
way_from Next size a ids p id = way_or notice.OnLast (slice_get ids (p + 1))
way_from Previous size a ids p id = way_or notice.OnFirst (slice_get (back p ids) 0)
way_from First size a ids p id = way_or notice.NoMessages (slice_get ids 0)
way_from Last size a ids p id = way_or notice.NoMessages (slice_get ids (length ids - 1))
way_from NextPage size a ids p id = way_or notice.OnLast (page_behind size p ids)
way_from PreviousPage size a ids p id = way_or notice.OnFirst (page_before size p ids)
way_from NextUnread size a ids p id = way_or notice.NoUnread (next_unread a (round p ids))
way_from NextThread size a ids p id =
    way_or notice.NoThread (thread_beside false (root_of a) ids id)
way_from PreviousThread size a ids p id =
    way_or notice.NoThread (thread_beside true (root_of a) ids id)
way_from ToParent size a ids p id = way_to_parent ids (parent_of a id)

-- where a motion leads from a place, if the cursor has one
abbrev pub way_at : Motion → ℕ → PlainAnswers → Id → Option ℕ → Way
way_at motion size a id None = Stays notice.NoMessages
way_at motion size a id (Some p) = way_from motion size a (seen a) p id

-- where a motion leads from where the cursor stands, where pages have this size
abbrev pub way : Motion → ℕ → PlainAnswers → Option Id → Way
way motion size a None = Stays notice.NoMessages
way motion size a (Some id) = way_at motion size a id (place_in (seen a) id)

-- a view whose cursor went there
abbrev pub gone : Way → PlainView → PlainView
gone (To id) v = moved_to v id
gone (Stays text) v = v

-- what is said where the cursor stays
abbrev pub notice_of : Way → Option Notice
notice_of (To id) = None
notice_of (Stays text) = Some text
