use Rattle.std.proofs.Common.{◌≡◌, ◌++◌, [], replicate}
use Rattle.mail_base.specs.Series.{plain_texts}
use Rattle.session_pager.proofs.lines.put_empty.Given as goal

abbrev pub invariant-loop-turn : goal.invariant-loop-turn
invariant-loop-turn l =
    plain_texts l.lines ≡ plain_texts l.initial.lines ++ replicate l._turn []
