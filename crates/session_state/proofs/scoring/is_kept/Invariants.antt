use Rattle.std.proofs.Common.{◌≡◌, length}
use Rattle.rc_lang.specs.Settings.{plain_names}
use Rattle.session_state.specs.Scoring.{is_kept}
use Rattle.session_state.proofs.scoring.is_kept.Given as goal

abbrev pub invariant-loop-word : goal.invariant-loop-word
invariant-loop-word l = is_kept (plain_names l.left) l.text ≡ is_kept (plain_names l.words) l.text

abbrev pub decreases-loop-word : goal.decreases-loop-word
decreases-loop-word l = length l.left
