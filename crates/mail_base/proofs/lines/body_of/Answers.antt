use Rattle.std.proofs.Common.{drop, length-drop, take_all, ap, ◌∙◌, arith}
use Rattle.mail_base.specs.Lines.{behind_line}
use Rattle.mail_base.proofs.lines.body_of.Goals as goal

pub returns-clause-value : goal.returns-clause-value
returns-clause-value c =
    let text = c.args.text.now in
    c.behind_line.ensures.value
    ∙ ap behind_line (take_all _ _ (omega (arith, length-drop c.body_at.result text)))
    ∙ ap (λ n. behind_line (drop n text)) c.body_at.ensures.value
