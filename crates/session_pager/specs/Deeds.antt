-- What functions do in the pager and in the list of parts: a line each.
use Rattle.std.specs.Prelude.{Bool, true, false}
use Rattle.keymap.specs.declared.function.Function.{Function}
use Rattle.keymap.specs.declared.function.Function.TheVariants as f
use Rattle.session_pager.specs.declared.attach_functions.AttachDeed.{AttachDeed}
use Rattle.session_pager.specs.declared.attach_functions.AttachDeed.TheVariants as attach
use Rattle.session_pager.specs.declared.pager_functions.PagerDeed.{PagerDeed}
use Rattle.session_pager.specs.declared.pager_functions.PagerDeed.TheVariants as pager
use Rattle.session_pager.specs.declared.turn.Turn.TheVariants as turn

-- what a function does in the pager
abbrev pub pager_deed : Function → PagerDeed
pager_deed f.Exit = pager.Leave
pager_deed f.NextLine = pager.Turn turn.NextLine
pager_deed f.PreviousLine = pager.Turn turn.PreviousLine
pager_deed f.NextPage = pager.Turn turn.NextPage
pager_deed f.PreviousPage = pager.Turn turn.PreviousPage
pager_deed f.Top = pager.Turn turn.Top
pager_deed f.Bottom = pager.Turn turn.Bottom
pager_deed f.ToggleQuoted = pager.Turn turn.ToggleQuoted
pager_deed f.NextUndeleted = pager.Follow
pager_deed f.PreviousUndeleted = pager.Follow
pager_deed f.NextEntry = pager.Follow
pager_deed f.PreviousEntry = pager.Follow
pager_deed f.Search = pager.AskSearch
pager_deed f.SearchNext = pager.SearchAgain
pager_deed f.DisplayToggleWeed = pager.AsInIndex
pager_deed f.UndeleteMessage = pager.AsInIndex
pager_deed f.FlagMessage = pager.AsInIndex
pager_deed f.ViewAttachments = pager.AsInIndex
pager_deed f.EnterCommand = pager.AsInIndex
pager_deed f.DeleteMessage = pager.DeleteOn
pager_deed _ = pager.NoDeed

-- what a function does in the list of parts
abbrev pub attach_deed : Function → AttachDeed
attach_deed f.NextEntry = attach.Down
attach_deed f.PreviousEntry = attach.Up
attach_deed f.DisplayMessage = attach.OpenPart
attach_deed f.Exit = attach.Leave
attach_deed _ = attach.NoDeed

-- the pager does something
abbrev pub acts_in_pager : PagerDeed → Bool
acts_in_pager pager.NoDeed = false
acts_in_pager _ = true

-- the list of parts does something
abbrev pub acts_on_parts : AttachDeed → Bool
acts_on_parts attach.NoDeed = false
acts_on_parts _ = true
