use Rattle.std.proofs.Common.{drop, length, ap, ◌∙◌}
use Rattle.bstr.specs.Text.{lines_of}
use Rattle.mail_base.specs.Lines.{behind_line}
use Rattle.mail_base.proofs.LinesLemmas.{lines-body_of}
use Rattle.headers.proofs.body_lines.body_lines.Goals as goal

pub returns : goal.returns
returns c =
    let raw = c.args.raw.now in
    c.line_count.ensures
    ∙ ap (λ s. length (lines_of s)) c.behind_line.ensures.value
    ∙ ap (λ s. length (lines_of (behind_line s))) c.split_at.ensures.back
    ∙ ap (λ n. length (lines_of (behind_line (drop n raw)))) c.requires.place
    ∙ ap length (lines-body_of raw)
