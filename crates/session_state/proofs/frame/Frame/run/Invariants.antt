use Rattle.std.proofs.Common.{◌≡◌, ◌-◌, List, length}
use Rattle.patterns.specs.Causes.{Keeps}
use Rattle.people.specs.Judged.{PlainJudged}
use Rattle.session_state.specs.Frames.{commands_left, file_run, place_of}
use Rattle.session_state.specs.Told.{plain_told}
use Rattle.session_state.proofs.frame.Frame.run.Given as goal

abbrev pub invariant-loop-self : goal.invariant-loop-self
invariant-loop-self g l = record {
  keeps : Keeps l.initial.verdicts.kept l.verdicts.kept;
  went : (later : List PlainJudged) → Keeps l.verdicts.kept later
      → file_run l.time later (place_of l.self) (commands_left l.self) l.rules (plain_told l.told)
      ≡ file_run l.time later (place_of l.initial.self) (commands_left l.initial.self)
      l.initial.rules
      (plain_told l.initial.told);
  file : l.self.file ≡ l.initial.self.file;
  origin : l.self.origin ≡ l.initial.self.origin;
  depth : l.self.depth ≡ l.initial.self.depth;
  read : l.self.is_read ≡ l.initial.self.is_read;
  commands : l.self.commands ≡ l.initial.self.commands;
}

abbrev pub decreases-loop-self : goal.decreases-loop-self
decreases-loop-self g l = length l.self.commands.items - l.self.next
