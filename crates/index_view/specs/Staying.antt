-- What of the index hangs on no flag, no mark of deletion and no tag that an act can change.
use Rattle.std.specs.Prelude.{◌&&◌, Bool, true, false, not, List, Option, Some, None}
use Rattle.std.specs.List.{list_all}
use Rattle.patterns_match.specs.Leaves.{every}
use Rattle.patterns_match.specs.Scores.{PlainEntry}
use Rattle.patterns_match.specs.Trees.{Leaf, Tells, Searches, Dated, Counts, Tree}
use Rattle.patterns_match.specs.declared.letter.Mark.{Mark}
use Rattle.patterns_match.specs.declared.letter.Mark.TheVariants as mark
use Rattle.index_items.specs.declared.act.Act.{Act}
use Rattle.index_items.specs.declared.act.Act.TheVariants.{Set, Clear}
use Rattle.index_items.specs.declared.act.Act.TheVariants.{TurnTag}
use Rattle.index_items.specs.declared.act.Mark.{Mark as ActMark}
use Rattle.index_items.specs.declared.act.Mark.TheVariants as act_mark
use Rattle.index_view.specs.Answers.{Facts}
use Rattle.patterns_match.specs.Pattern.{PlainPattern}

-- what an act can change of a message
pub record Touched : Type 0 where
  pub flags : Bool
  pub deleted : Bool
  pub tagged : Bool

-- its flags, its mark of deletion and its tag
abbrev pub everything : Touched
everything = record { flags = true; deleted = true; tagged = true }

-- its flags alone
abbrev pub flags_alone : Touched
flags_alone = record { flags = true; deleted = false; tagged = false }

-- what setting or clearing a mark can change
abbrev pub touched_by : ActMark → Touched
touched_by act_mark.Deleted = record { flags = false; deleted = true; tagged = false }
touched_by act_mark.Tagged = record { flags = false; deleted = false; tagged = true }
touched_by _ = flags_alone

-- what an act can change
abbrev pub touched : Act → Touched
touched (Set m) = touched_by m
touched (Clear m) = touched_by m
touched TurnTag = touched_by act_mark.Tagged
touched _ = flags_alone

-- a term without an argument does not hang on what is touched
abbrev pub mark_stays : Touched → Mark → Bool
mark_stays t mark.Deleted = not t.deleted
mark_stays t mark.Flagged = not t.flags
mark_stays t mark.New = not t.flags
mark_stays t mark.Old = not t.flags
mark_stays t mark.Replied = not t.flags
mark_stays t mark.Read = not t.flags
mark_stays t mark.Tagged = not t.tagged
mark_stays t mark.Unread = not t.flags
mark_stays t _ = true

-- a term does not hang on what is touched
abbrev pub leaf_stays : Touched → Leaf → Bool
leaf_stays t (Tells mark) = mark_stays t mark
leaf_stays t (Searches field plain text) = true
leaf_stays t (Dated day days) = true
leaf_stays t (Counts number range) = true

-- no term of a pattern looks at it
abbrev pub stays : Touched → Tree → Bool
stays t tree = every (leaf_stays t) true tree

-- the limit does not hang on what is touched
abbrev pub limit_stays : Touched → Option PlainPattern → Bool
limit_stays t None = true
limit_stays t (Some limit) = stays t limit.tree

-- scores do not hang on flags and tags
abbrev pub entries_stay : List PlainEntry → Bool
entries_stay entries = list_all (λ e. stays everything e.tree) entries

-- no entry of scores hangs on flags and tags, and the limit on nothing that is touched
abbrev pub is_still : Touched → Facts → Bool
is_still t f = entries_stay f.scores && limit_stays t f.limit
