use Rattle.std.proofs.Common.{ℕ, List, Ok, length, map}
use Rattle.folder_letters.specs.Letters.{Mail}
use Rattle.index_items.specs.Changes.{Changed}
use Rattle.maildir_folder.specs.Steps.{AreSteps, plain_step}
use Rattle.folder_changes.specs.Asked.{AreApart, discarded}
use Rattle.folder_changes.specs.Serving.{Serves}
use Rattle.maildir_folder.proofs.StepLemmas.{SoFar}
use Rattle.maildir_folder.proofs.StopLemmas.{HeldSoFar}
use Rattle.maildir_folder.proofs.steps.take_steps.Given as goal

abbrev pub invariant-loop-left : goal.invariant-loop-left
invariant-loop-left g l = record {
  serves : Serves {A = Unit {0}} (Ok tt)
      ((goal.Disk-dyn g l.initial.disk.now).seen l.initial.disk.now.1)
      ((goal.Disk-dyn g l.disk.now).seen l.disk.now.1);
  does : (path : List ℕ) → (mails : List Mail) → (changes : List Changed)
      → AreApart mails changes
      → AreSteps path mails changes (map plain_step l.steps)
      → SoFar path mails changes (map plain_step l.left)
      ((goal.Disk-dyn g l.initial.disk.now).seen l.initial.disk.now.1).told
      ((goal.Disk-dyn g l.disk.now).seen l.disk.now.1).told;
  holds : (path : List ℕ) → (mails : List Mail) → (changes : List Changed)
      → AreSteps path mails changes (map plain_step l.steps)
      → HeldSoFar path (discarded mails changes) mails (map plain_step l.left)
      ((goal.Disk-dyn g l.initial.disk.now).seen l.initial.disk.now.1).told
      ((goal.Disk-dyn g l.disk.now).seen l.disk.now.1).told;
}

abbrev pub decreases-loop-left : goal.decreases-loop-left
decreases-loop-left g l = length l.left
