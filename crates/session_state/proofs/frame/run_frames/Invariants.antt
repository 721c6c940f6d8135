use Rattle.std.proofs.Common.{◌≡◌, List, length}
use Rattle.patterns.specs.Causes.{Keeps}
use Rattle.people.specs.Judged.{PlainJudged}
use Rattle.session_state.specs.Frames.{frames_run, plain_frames}
use Rattle.session_state.specs.Told.{plain_told}
use Rattle.session_state.proofs.frame.run_frames.Given as goal

abbrev pub invariant-loop-frame : goal.invariant-loop-frame
invariant-loop-frame g l = record {
  keeps : Keeps l.initial.verdicts.kept l.verdicts.kept;
  went : (later : List PlainJudged) → Keeps l.verdicts.kept later
      → frames_run l.time later (plain_frames l.frames) l.rules (plain_told l.told)
      ≡ frames_run l.time later (plain_frames l.initial.frames) l.initial.rules
      (plain_told l.initial.told);
}

abbrev pub decreases-loop-frame : goal.decreases-loop-frame
decreases-loop-frame g l = length l.frames.items
