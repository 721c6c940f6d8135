-- What one command makes of what is left of a file.
use Rattle.std.proofs.Common.{◌≡◌, ◌∙◌, List, ◌∷◌, Option, Some, ap, sym}
use Rattle.std.specs.Prelude.{Result}
use Rattle.hook_requests.specs.Places.{CommandPlace}
use Rattle.people.specs.Judged.{PlainJudged}
use Rattle.rc_lang_words.specs.Faults.{Fault}
use Rattle.rc_lang_words.specs.Words.{PlainLine}
use Rattle.session_state.specs.Commands.{PlainAnswer, Ran}
use Rattle.session_state.specs.Frames.{Half, Place, PlainFrame, behind_line, command_place}
use Rattle.session_state.specs.Frames.{file_run, frame_run, frames_run, judged, ran_line, with_half}
use Rattle.session_state.specs.Rules.{PlainRules}
use Rattle.session_state.specs.Told.{PlainTold}
use Rattle.session_state.specs.declared.instant.Instant.{Instant}

module _ (time : Instant) (verdicts : List PlainJudged) (place : Place) (line : PlainLine)
    (lines : List PlainLine) (old new : PlainRules) (answer : Result PlainAnswer Fault)
    (at : CommandPlace) (is_at : at ≡ command_place place line.line)
    (ran : (let r : Ran = record { rules = new; answer = answer } in r)
    ≡ ran_line time verdicts at line old) where
  pub file_step : (told : PlainTold) (came : Result PlainAnswer Fault)
      → came ≡ judged place.depth answer
      → behind_line place line.line lines (file_run time verdicts place lines) new told came
      ≡ file_run time verdicts place (line ∷ lines) old told
  file_step told came is =
      ap (behind_line place line.line lines (file_run time verdicts place lines) new told) is
      ∙ ap (λ (r : Ran). behind_line place line.line lines (file_run time verdicts place lines)
      r.rules
      told (judged place.depth r.answer))
      (ran ∙ ap (λ (p : CommandPlace). ran_line time verdicts p line old) is_at)

-- a file was run up to here
pub frames_step : (time : Instant) (verdicts : List PlainJudged) (frame : PlainFrame)
    (lines : List PlainLine)
    (frames : List PlainFrame) (old : PlainRules) (told : PlainTold) (half : Half)
    → half ≡ file_run time verdicts frame.place lines old told → frame.left ≡ Some lines
    → with_half frame.place frames (frames_run time verdicts frames) half
    ≡ frames_run time verdicts (frame ∷ frames) old told
frames_step time verdicts frame lines frames old told half is left =
    ap (with_half frame.place frames (frames_run time verdicts frames)) is
    ∙ sym (ap (λ (l : Option (List PlainLine)). frame_run time verdicts frame frames
    (frames_run time verdicts frames) l old told) left)
