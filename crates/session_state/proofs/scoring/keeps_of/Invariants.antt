use Rattle.std.proofs.Common.{◌≡◌, ◌++◌, length}
use Rattle.rc_lang.specs.Settings.{plain_names}
use Rattle.session_state.specs.Scoring.{keeps_of}
use Rattle.session_state.proofs.scoring.keeps_of.Given as goal

abbrev pub invariant-loop-text : goal.invariant-loop-text
invariant-loop-text l = l.keeps.items ++ keeps_of (plain_names l.words) (plain_names l.left)
    ≡ keeps_of (plain_names l.words) (plain_names l.texts)

abbrev pub decreases-loop-text : goal.decreases-loop-text
decreases-loop-text l = length l.left
