use Rattle.std.proofs.Common.{◌≡◌, ◌++◌, length, map}
use Rattle.rc_lang.specs.Settings.{plain_names}
use Rattle.session_state.specs.Frames.{plain_frames, prompt_frame}
use Rattle.session_state.proofs.hook_frames.put_texts.Given as goal

-- what is left to be put, and then what stands, is all
abbrev pub invariant-loop-text : goal.invariant-loop-text
invariant-loop-text l =
    map prompt_frame (plain_names l.left) ++ plain_frames l.frames
    ≡ map prompt_frame (plain_names l.texts) ++ plain_frames l.initial.frames

abbrev pub decreases-loop-text : goal.decreases-loop-text
decreases-loop-text l = length l.left
