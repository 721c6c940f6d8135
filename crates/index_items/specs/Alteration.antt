-- What a call changes of a message.
use Rattle.std.specs.Prelude.{Bool, List, Option, map, nat_eq, if◌then◌else◌}
use Rattle.mail_base.specs.declared.flags.Flags.{Flags}
use Rattle.mail_base.specs.declared.kind.Id.{Id}
use Rattle.index_items.specs.Items.{PlainItem}
use Rattle.index_items.specs.Pending.{changed}
use Rattle.index_items.specs.declared.alteration.Alteration.{Alteration}
use Rattle.index_items.specs.declared.alteration.Alteration.TheVariants.{Pending, Tag, Shut}

-- a message with a further change of its flags and its mark of deletion
abbrev pub altered : Flags → Flags → Option Bool → PlainItem → PlainItem
altered added cleared deleted i = record i { pending = changed added cleared deleted i.pending }

-- a message with or without its tag
abbrev pub tagged : Bool → PlainItem → PlainItem
tagged mark i = record i { tagged = mark }

-- a message whose thread is shut or open
abbrev pub shut : Bool → PlainItem → PlainItem
shut mark i = record i { shut = mark }

-- a message is changed where it has this id
abbrev pub altered_where : Id → (PlainItem → PlainItem) → PlainItem → PlainItem
altered_where id change i = if nat_eq id.0 i.id.0 then change i else i

-- what a call changes of the message with this id
abbrev pub alter_at : Id → (PlainItem → PlainItem) → List PlainItem → List PlainItem
alter_at id change items = map (altered_where id change) items

-- For the code alone.

-- a message behind an alteration
abbrev pub altered_by : Alteration → PlainItem → PlainItem
altered_by (Pending delta deleted) i = altered delta.added delta.cleared deleted i
altered_by (Tag mark) i = tagged mark i
altered_by (Shut mark) i = shut mark i
