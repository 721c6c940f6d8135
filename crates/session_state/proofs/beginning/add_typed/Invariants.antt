use Rattle.std.proofs.Common.{◌≡◌, ◌++◌, length, map}
use Rattle.session_state.specs.Frames.{plain_frames}
use Rattle.session_state.specs.Beginning.{typed_frame}
use Rattle.session_state.proofs.beginning.add_typed.Given as goal

abbrev pub invariant-loop-text : goal.invariant-loop-text
invariant-loop-text l =
    plain_frames l.frames ++ map typed_frame (map (λ text. text.items) l.left)
    ≡ plain_frames l.initial.frames ++ map typed_frame (map (λ text. text.items) l.texts)

abbrev pub decreases-loop-text : goal.decreases-loop-text
decreases-loop-text l = length l.left
