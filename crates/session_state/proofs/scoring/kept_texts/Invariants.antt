use Rattle.std.proofs.Common.{◌≡◌, ◌++◌, length}
use Rattle.rc_lang.specs.Settings.{plain_names}
use Rattle.session_state.specs.Scoring.{kept_texts}
use Rattle.session_state.proofs.scoring.kept_texts.Given as goal

abbrev pub invariant-loop-text : goal.invariant-loop-text
invariant-loop-text l =
    plain_names l.kept.items ++ kept_texts (plain_names l.words) (plain_names l.left)
    ≡ kept_texts (plain_names l.words) (plain_names l.texts)

abbrev pub decreases-loop-text : goal.decreases-loop-text
decreases-loop-text l = length l.left
