use Rattle.std.proofs.Common.{◌≡◌, ◌+◌, ◌-◌, length, sym, ap, ◌∙◌, arith}
use Rattle.bstr.specs.Text.{lines_of}
use Rattle.mail_base.specs.Lines.{body_of}
use Rattle.mime_tree.specs.DashLines.{dash_starts, starts_from}
use Rattle.mime_tree.proofs.EntityLemmas.{body_starts}
use Rattle.mime_tree.proofs.entity.body_in.Goals as goal

pub invariant_of-result : goal.invariant_of-result
invariant_of-result c =
    let s = c.args.section in
    let start = s.start in
    let text = s.text.now in
    let body = c.body_of-body.result.now in
    let same : body ≡ body_of text = c.body_of-body.ensures.value in
    let place = start + (length text - length body) in
    record {
      fits = omega (arith, s.fits, c.body_of-body.ensures.shorter);
      marked =
          c.starts_from.ensures
          ∙ ap (starts_from place) s.marked
          ∙ ap (λ b. starts_from (start + (length text - length b))
          (dash_starts start (lines_of text))) same
          ∙ body_starts start text
          ∙ ap (λ b. dash_starts (start + (length text - length b)) (lines_of b)) (sym same);
    }
