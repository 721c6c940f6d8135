use Rattle.std.proofs.Common.{length, sym, ap, ◌∙◌, arith}
use Rattle.mail_base.proofs.LinesLemmas.{length_left, shorter_left}
use Rattle.std.specs.List.{concat}
use Rattle.mail_base.specs.Lines.{behind_first}
use Rattle.bstr.proofs.lemmas.RestLemmas.{concat-lines_of}
use Rattle.mail_base.proofs.lines.behind_line.Goals as goal

pub returns-in-Some-clause-value : goal.returns-in-Some-clause-value
returns-in-Some-clause-value c =
    sym (concat-lines_of c.as_bytes.result.now)
    ∙ ap concat c.as_bytes.ensures
    ∙ ap (λ l. concat (behind_first l))
    (sym c.in-Some.ensures.steps ∙ c.lines_with_terminator-lines.ensures.value)

pub returns-in-Some-clause-shorter : goal.returns-in-Some-clause-shorter
returns-in-Some-clause-shorter c =
    let rest = length_left c.as_bytes.result.now c.next.new.self c.as_bytes.ensures in
    let whole =
    length_left c.args.text.now c.lines_with_terminator-lines.result
    (sym c.lines_with_terminator-lines.ensures.value) in
    let left =
    shorter_left c.in-Some.field-0.now c.next.new.self c.lines_with_terminator-lines.result
    (length c.args.text.now)
    c.in-Some.ensures.steps (omega (arith, whole)) in
    omega (arith, rest, left)
