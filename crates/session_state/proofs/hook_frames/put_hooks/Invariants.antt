use Rattle.std.proofs.Common.{◌≡◌, ◌++◌, length, map}
use Rattle.hooks.specs.Hooks.{plain_command}
use Rattle.session_state.specs.Frames.{hook_frame, plain_frames}
use Rattle.session_state.proofs.hook_frames.put_hooks.Given as goal

-- what is left to be put, and then what stands, is all
abbrev pub invariant-loop-hook : goal.invariant-loop-hook
invariant-loop-hook l =
    map hook_frame (map plain_command l.left) ++ plain_frames l.frames
    ≡ map hook_frame (map plain_command l.commands) ++ plain_frames l.initial.frames

abbrev pub decreases-loop-hook : goal.decreases-loop-hook
decreases-loop-hook l = length l.left
