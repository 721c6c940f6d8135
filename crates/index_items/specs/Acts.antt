-- What is done to messages.
use Rattle.std.specs.Prelude.{◌||◌, Bool, true, false, not, List, [], ◌∷◌, Option, None, Some}
use Rattle.std.specs.Prelude.{if◌then◌else◌}
use Rattle.mail_base.specs.declared.flags.Flags.{Flags}
use Rattle.mail_base.specs.declared.kind.Id.{Id}
use Rattle.index_items.specs.Alteration.{alter_at, altered, shut, tagged}
use Rattle.index_items.specs.Items.{PlainItem, shown_flags}
use Rattle.index_items.specs.Pending.{no_flags}
use Rattle.index_items.specs.declared.act.Act.{Act}
use Rattle.index_items.specs.declared.act.Act.TheVariants.{Set, Clear, TurnFlagged, TurnNew}
use Rattle.index_items.specs.declared.act.Act.TheVariants.{Age, TurnTag}
use Rattle.index_items.specs.declared.act.Mark.{Mark}
use Rattle.index_items.specs.declared.act.Mark.TheVariants.{Deleted, New, Old, Replied, Tagged}
use Rattle.index_items.specs.declared.act.Mark.TheVariants.{Flagged}
use Rattle.index_items.specs.declared.alteration.Alteration.{Alteration}
use Rattle.index_items.specs.declared.alteration.Alteration.TheVariants.{Pending, Tag, Shut}

-- the flag of what was seen
abbrev pub seen_flag : Flags
seen_flag = record no_flags { seen = true }

-- the flag of what was met before
abbrev pub aged_flag : Flags
aged_flag = record no_flags { aged = true }

-- both flags of what is not new
abbrev pub seen_and_aged : Flags
seen_and_aged = record no_flags { seen = true; aged = true }

-- the flag of what was answered
abbrev pub replied_flag : Flags
replied_flag = record no_flags { replied = true }

-- the flag of what is important
abbrev pub flagged_flag : Flags
flagged_flag = record no_flags { flagged = true }

-- what is changed of a message: flags that are added and cleared, and its mark of deletion; its
-- tag; whether the thread of which it is the root is shut
pub data PlainAlteration : Type 0 where
  Changes : (added cleared : Flags) → (deleted : Option Bool) → PlainAlteration
  Tags : (mark : Bool) → PlainAlteration
  Shuts : (mark : Bool) → PlainAlteration

-- flags are added and cleared
abbrev pub flags : Flags → Flags → PlainAlteration
flags added cleared = Changes added cleared None

-- the mark of deletion is set or taken away
abbrev pub deletion : Bool → PlainAlteration
deletion deleted = Changes no_flags no_flags (Some deleted)

-- a mark is set
abbrev pub setting : Mark → PlainAlteration
setting Deleted = deletion true
setting New = flags no_flags seen_and_aged
setting Old = flags aged_flag seen_flag
setting Replied = flags replied_flag no_flags
setting Tagged = Tags true
setting Flagged = flags flagged_flag no_flags

-- a mark is cleared, by the flags that are shown; a message that is seen is not made less old
abbrev pub clearing : Mark → Flags → PlainAlteration
clearing Deleted shown = deletion false
clearing New shown = flags seen_flag no_flags
clearing Old shown = if shown.seen then flags no_flags no_flags else flags no_flags aged_flag
clearing Replied shown = flags no_flags replied_flag
clearing Tagged shown = Tags false
clearing Flagged shown = flags no_flags flagged_flag

-- what is done to a message, by the flags that are shown of it and its tag
abbrev pub alteration : Act → Flags → Bool → PlainAlteration
alteration (Set mark) shown tag = setting mark
alteration (Clear mark) shown tag = clearing mark shown
alteration TurnFlagged shown tag =
    if shown.flagged then clearing Flagged shown else setting Flagged
alteration TurnNew shown tag =
    if shown.seen || shown.aged then setting New else clearing New shown
alteration TurnTag shown tag = Tags (not tag)
alteration Age shown tag =
    if shown.seen || shown.aged then flags no_flags no_flags else flags aged_flag no_flags

-- a message with a change
abbrev pub changed_by : PlainAlteration → PlainItem → PlainItem
changed_by (Changes added cleared deleted) i = altered added cleared deleted i
changed_by (Tags mark) i = tagged mark i
changed_by (Shuts mark) i = shut mark i

-- a message to which this is done
abbrev pub acted : Act → PlainItem → PlainItem
acted act i = changed_by (alteration act (shown_flags i) i.tagged) i

-- the same is done to the messages with these ids, one after the other
abbrev pub acted_all : Act → List Id → List PlainItem → List PlainItem
acted_all act [] items = items
acted_all act (id ∷ ids) items = acted_all act ids (alter_at id (acted act) items)

-- For the code alone.

-- an alteration as contracts see it
abbrev pub plain_alteration : Alteration → PlainAlteration
plain_alteration (Pending delta deleted) = Changes delta.added delta.cleared deleted
plain_alteration (Tag mark) = Tags mark
plain_alteration (Shut mark) = Shuts mark
