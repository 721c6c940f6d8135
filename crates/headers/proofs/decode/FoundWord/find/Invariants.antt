use Rattle.std.proofs.Common.{◌≡◌, ◌≤◌, ◌-◌, length, take, drop, option_map}
use Rattle.headers.specs.Decode.{first_word, with_text}
use Rattle.headers.proofs.decode.FoundWord.find.Given as goal

abbrev pub invariant-loop-step : goal.invariant-loop-step
invariant-loop-step l = record {
  within : l.at ≤ length l.text;
  same : option_map (with_text (take l.at l.text)) (first_word (drop l.at l.text))
      ≡ first_word l.text;
}

abbrev pub decreases-loop-step : goal.decreases-loop-step
decreases-loop-step l = length l.text - l.at
