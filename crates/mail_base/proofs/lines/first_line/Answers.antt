use Rattle.std.proofs.Common.{length, arith, sym}
use Rattle.mail_base.proofs.LinesLemmas.{length_left, shorter_left}
use Rattle.mail_base.proofs.lines.first_line.Goals as goal

pub returns-in-Some-clause-shorter : goal.returns-in-Some-clause-shorter
returns-in-Some-clause-shorter c =
    let whole =
    length_left c.args.text.now c.lines_with_terminator.result
    (sym c.lines_with_terminator.ensures.value) in
    let left =
    shorter_left c.in-Some.line.now c.next.new.self c.lines_with_terminator.result
    (length c.args.text.now)
    c.in-Some.ensures.steps (omega (arith, whole)) in
    omega (arith, left)
