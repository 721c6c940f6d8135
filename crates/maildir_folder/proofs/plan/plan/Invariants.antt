use Rattle.std.proofs.Common.{◌++◌, List, length, map}
use Rattle.mail_base.specs.Ordered.{IsIn}
use Rattle.mail_base.specs.declared.kind.Id.{Id}
use Rattle.folder_letters.specs.Letters.{plain_letter}
use Rattle.index_items.specs.Changes.{AreBelow, plain_changes}
use Rattle.folder_changes.specs.Asked.{ids_changed}
use Rattle.maildir_folder.specs.Steps.{AreSteps, PlainStep, plain_step}
use Rattle.maildir_folder.proofs.plan.plan.Given as goal

-- the steps so far are those of the changes so far
abbrev pub invariant-loop-left : goal.invariant-loop-left
invariant-loop-left l = record {
  within : AreBelow (length l.archive) l.left;
  among : (id : Id) → IsIn id (ids_changed l.left) → IsIn id (ids_changed l.changes);
  finishes : (rest : List PlainStep)
      → AreSteps l.path (map plain_letter l.archive) (plain_changes l.left) rest
      → AreSteps l.path (map plain_letter l.archive) (plain_changes l.changes)
      (map plain_step l.steps.items ++ rest);
}

abbrev pub decreases-loop-left : goal.decreases-loop-left
decreases-loop-left l = length l.left
