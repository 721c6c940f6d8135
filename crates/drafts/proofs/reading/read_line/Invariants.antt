use Rattle.std.proofs.Common.{◌≡◌, take, drop}
use Rattle.drafts.specs.Reading.{◌>>=◌, read_line}
use Rattle.drafts.proofs.LoopLemmas.{with_front}
use Rattle.drafts.proofs.reading.read_line.Given as goal

abbrev pub invariant-loop-at : goal.invariant-loop-at
invariant-loop-at l =
    (read_line l.state (drop l.at l.text) >>= with_front (take l.at l.text))
    ≡ read_line l.fn.start l.text
