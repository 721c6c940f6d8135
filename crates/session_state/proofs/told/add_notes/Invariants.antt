use Rattle.std.proofs.Common.{◌≡◌, ◌++◌, length, map}
use Rattle.mail_base.specs.Series.{plain_texts}
use Rattle.session_state.proofs.told.add_notes.Given as goal

abbrev pub invariant-loop-note : goal.invariant-loop-note
invariant-loop-note l =
    plain_texts l.notes ++ map (λ line. line.items) l.left
    ≡ plain_texts l.initial.notes ++ plain_texts l.came

abbrev pub decreases-loop-note : goal.decreases-loop-note
decreases-loop-note l = length l.left
