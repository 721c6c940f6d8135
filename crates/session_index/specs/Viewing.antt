-- What a pager makes of the index, and asks of it.
use Rattle.std.specs.Prelude.{◌&&◌, ◌==◌, [], ◌∷◌, Bool, true, false, not, List, length}
use Rattle.std.specs.Prelude.{if◌then◌else◌}
use Rattle.folder_letters.specs.Letters.{Mail}
use Rattle.keymap.specs.declared.function.Function.{Function}
use Rattle.mail_base.specs.declared.kind.Id.{Id}
use Rattle.index_listed.specs.Cursor.{is_seen}
use Rattle.patterns_match.specs.Pattern.{PlainPattern}
use Rattle.session_index.specs.Answering.{matching}
use Rattle.session_index.specs.Desk.{PlainDesk}
use Rattle.session_index.specs.Effects.{done_to, way_of, went_quietly}
use Rattle.index_functions.specs.Functions.{needs_message, writes}
use Rattle.session_index.specs.Index.{answers_of, seen_of}
use Rattle.session_index.specs.Shown.{shows}
use Rattle.index_items.specs.declared.act.Act.TheVariants.{Clear}
use Rattle.index_items.specs.declared.act.Mark.TheVariants.{New}
use Rattle.index_functions.specs.declared.motion.Motion.TheVariants.{NextUndeleted}
use Rattle.index_functions.specs.declared.rule.Rule.{Rule}
use Rattle.session_index.specs.declared.sought.Sought.TheVariants.{Unread}
use Rattle.index_functions.specs.declared.way.Way.{Way}
use Rattle.index_functions.specs.declared.way.Way.TheVariants.{To, Stays}

-- an unread message was viewed: it becomes seen, where the folder may be written
abbrev pub viewed : List Mail → Id → PlainDesk → PlainDesk
viewed mails id d =
    if not d.read_only && shows Unread (answers_of mails d.index) id
    then done_to mails (Clear New) (id ∷ []) d else d

-- a function is not refused
abbrev pub allows : List Mail → Function → PlainDesk → Bool
allows mails function d =
    not (needs_message function && (length (seen_of mails d.index) == 0))
    && not (writes function && d.read_only)

-- the cursor goes somewhere
abbrev pub leads : Way → Bool
leads (To id) = true
leads (Stays notice) = false

-- where the next message is that is not deleted
abbrev pub way_on : Rule → List Mail → PlainDesk → Way
way_on rule mails d = way_of rule mails NextUndeleted d

-- the cursor is on the next message that is not deleted, where there is one
abbrev pub gone_on : Rule → List Mail → PlainDesk → PlainDesk
gone_on rule mails d = went_quietly mails (way_on rule mails d) d

-- the message with an id is seen and satisfies a pattern
abbrev pub matches : List Mail → PlainPattern → Id → PlainDesk → Bool
matches mails pattern id d = is_seen (matching mails pattern d.index) id
