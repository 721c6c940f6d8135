use Rattle.std.proofs.Common.{◌≡◌}
use Rattle.people.proofs.JudgedLemmas.{judged_from}
use Rattle.people.proofs.verdicts.Kept.verdict.Given as goal

-- the text is among what is still to come, where it is there at all
abbrev pub invariant-loop-judged : goal.invariant-loop-judged
invariant-loop-judged l = judged_from l.judged-items l.judged-index l.text
    ≡ judged_from l.judged-items 0 l.text
