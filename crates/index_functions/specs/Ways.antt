-- Where motions lead, or why the cursor stays.
use Rattle.std.specs.Prelude.{Option, None, Some}
use Rattle.mail_base.specs.declared.kind.Id.{Id}
use Rattle.index_functions.specs.declared.notice.Notice.{Notice}
use Rattle.index_functions.specs.declared.way.Way.{Way}
use Rattle.index_functions.specs.declared.way.Way.TheVariants.{To, Stays}

-- to a message, or a text why not
abbrev pub way_or : Notice → Option Id → Way
way_or text None = Stays text
way_or text (Some id) = To id
