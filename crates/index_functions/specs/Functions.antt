-- What functions of the index do: a line each (Mutt's manual, "Functions").
use Rattle.std.specs.Prelude.{List, [], ◌∷◌, Bool, true, false}
use Rattle.keymap.specs.declared.function.Function.{Function}
use Rattle.keymap.specs.declared.function.Function.TheVariants as f
use Rattle.index_items.specs.declared.act.Act.TheVariants.{Set, Clear, TurnFlagged, TurnNew}
use Rattle.index_items.specs.declared.act.Act.TheVariants.{TurnTag}
use Rattle.index_items.specs.declared.act.Mark.TheVariants.{Deleted}
use Rattle.prompts.specs.declared.asking.Asking.TheVariants as asking
use Rattle.index_functions.specs.declared.effect.Effect.{Effect}
use Rattle.index_functions.specs.declared.effect.Effect.TheVariants.{Move, Do, TagThread, Fold}
use Rattle.index_functions.specs.declared.effect.Effect.TheVariants.{FoldAll, Resolve, StepOn}
use Rattle.index_functions.specs.declared.effect.Effect.TheVariants.{SearchAgain, BeginPrefix}
use Rattle.index_functions.specs.declared.effect.Effect.TheVariants.{DropPrefix, TurnWriting, Ask}
use Rattle.index_functions.specs.declared.effect.Effect.TheVariants.{Say, End, Display, ListParts}
use Rattle.index_functions.specs.declared.effect.Effect.TheVariants.{Sync, Quit}
use Rattle.index_functions.specs.declared.effect.Scope.TheVariants.{Meant, Cursor, Thread}
use Rattle.index_functions.specs.declared.motion.Motion.TheVariants as motion
use Rattle.index_functions.specs.declared.notice.Notice.TheVariants as notice

-- the basic effects of a function; the others do not act yet
abbrev pub effects_of : Function → List Effect
effects_of f.NextUndeleted = Move motion.NextUndeleted ∷ DropPrefix ∷ []
effects_of f.PreviousUndeleted = Move motion.PreviousUndeleted ∷ DropPrefix ∷ []
effects_of f.NextEntry = Move motion.Next ∷ DropPrefix ∷ []
effects_of f.PreviousEntry = Move motion.Previous ∷ DropPrefix ∷ []
effects_of f.FirstEntry = Move motion.First ∷ DropPrefix ∷ []
effects_of f.LastEntry = Move motion.Last ∷ DropPrefix ∷ []
effects_of f.NextPage = Move motion.NextPage ∷ DropPrefix ∷ []
effects_of f.PreviousPage = Move motion.PreviousPage ∷ DropPrefix ∷ []
effects_of f.NextNewThenUnread = Move motion.NextUnread ∷ DropPrefix ∷ []
effects_of f.NextThread = Move motion.NextThread ∷ DropPrefix ∷ []
effects_of f.PreviousThread = Move motion.PreviousThread ∷ DropPrefix ∷ []
effects_of f.ParentMessage = Move motion.ToParent ∷ DropPrefix ∷ []
effects_of f.DeleteMessage = Do (Set Deleted) Meant ∷ Resolve ∷ DropPrefix ∷ []
effects_of f.UndeleteMessage = Do (Clear Deleted) Meant ∷ StepOn ∷ DropPrefix ∷ []
effects_of f.DeleteThread = Do (Set Deleted) Thread ∷ DropPrefix ∷ []
effects_of f.UndeleteThread = Do (Clear Deleted) Thread ∷ DropPrefix ∷ []
effects_of f.DeletePattern = DropPrefix ∷ Ask asking.Delete ∷ []
effects_of f.UndeletePattern = DropPrefix ∷ Ask asking.Undelete ∷ []
effects_of f.TagEntry = Do TurnTag Cursor ∷ StepOn ∷ DropPrefix ∷ []
effects_of f.TagPattern = DropPrefix ∷ Ask asking.Tag ∷ []
effects_of f.UntagPattern = DropPrefix ∷ Ask asking.Untag ∷ []
effects_of f.TagThread = TagThread ∷ DropPrefix ∷ []
effects_of f.TagPrefix = BeginPrefix ∷ []
effects_of f.Limit = DropPrefix ∷ Ask asking.Limit ∷ []
effects_of f.SortMailbox = DropPrefix ∷ Ask asking.Sort ∷ []
effects_of f.SortReverse = DropPrefix ∷ Ask asking.ReverseSort ∷ []
effects_of f.Search = DropPrefix ∷ Ask asking.Search ∷ []
effects_of f.SearchNext = SearchAgain ∷ DropPrefix ∷ []
effects_of f.FlagMessage = Do TurnFlagged Meant ∷ Resolve ∷ DropPrefix ∷ []
effects_of f.ToggleNew = Do TurnNew Meant ∷ Resolve ∷ DropPrefix ∷ []
effects_of f.SetFlag = Ask asking.SetFlag ∷ []
effects_of f.ClearFlag = Ask asking.ClearFlag ∷ []
effects_of f.CollapseThread = Fold ∷ DropPrefix ∷ []
effects_of f.CollapseAll = FoldAll ∷ DropPrefix ∷ []
effects_of f.DisplayMessage = DropPrefix ∷ Display ∷ []
effects_of f.ViewAttachments = DropPrefix ∷ ListParts ∷ []
effects_of f.EnterCommand = DropPrefix ∷ Ask asking.Command ∷ []
effects_of f.DisplayToggleWeed = DropPrefix ∷ []
effects_of f.ToggleWrite = TurnWriting ∷ DropPrefix ∷ []
effects_of f.SyncMailbox = DropPrefix ∷ Sync ∷ []
effects_of f.Quit = DropPrefix ∷ Quit ∷ []
effects_of f.Exit = End ∷ []
effects_of f.Noop = DropPrefix ∷ []
effects_of _ = Say notice.NotBound ∷ []

-- the function speaks of the message on which the cursor stands, or moves it
abbrev pub needs_message : Function → Bool
needs_message f.NextUndeleted = true
needs_message f.PreviousUndeleted = true
needs_message f.NextEntry = true
needs_message f.PreviousEntry = true
needs_message f.FirstEntry = true
needs_message f.LastEntry = true
needs_message f.NextPage = true
needs_message f.PreviousPage = true
needs_message f.NextNewThenUnread = true
needs_message f.NextThread = true
needs_message f.PreviousThread = true
needs_message f.ParentMessage = true
needs_message f.DeleteMessage = true
needs_message f.UndeleteMessage = true
needs_message f.DeleteThread = true
needs_message f.UndeleteThread = true
needs_message f.TagEntry = true
needs_message f.TagThread = true
needs_message f.Search = true
needs_message f.SearchNext = true
needs_message f.FlagMessage = true
needs_message f.ToggleNew = true
needs_message f.SetFlag = true
needs_message f.ClearFlag = true
needs_message f.CollapseThread = true
needs_message f.DisplayMessage = true
needs_message f.ViewAttachments = true
needs_message _ = false

-- the function changes what a folder holds
abbrev pub writes : Function → Bool
writes f.DeleteMessage = true
writes f.UndeleteMessage = true
writes f.DeleteThread = true
writes f.UndeleteThread = true
writes f.DeletePattern = true
writes f.UndeletePattern = true
writes f.FlagMessage = true
writes f.ToggleNew = true
writes f.SetFlag = true
writes f.ClearFlag = true
writes f.SyncMailbox = true
writes _ = false
