use Rattle.std.proofs.Common.{◌++◌, ap, sym, ◌∙◌}
use Rattle.mail_base.specs.Blanks.{without_blanks}
use Rattle.headers.specs.FoldedField.{continued}
use Rattle.headers.proofs.FoldedFieldLemmas.{front_stays, has_bytes, without_blanks_front}
use Rattle.headers.proofs.FoldedFieldLemmas.{without_blanks_twice}
use Rattle.headers.proofs.folded_field.skip_blanks.Goals as goal

pub loop-first-init : goal.loop-first-init
loop-first-init c =
    let value = c.without_blanks-first.ensures.value in
    let more = continued c.args.lines.now in
    record {
      text = ap (λ s. without_blanks (s ++ more)) value ∙ without_blanks_front c.args.text.now more;
      front = ap without_blanks value ∙ without_blanks_twice c.args.text.now ∙ sym value;
    }

pub returns : goal.returns
returns c =
    sym (front_stays c.loop-first.first.now (continued c.loop-first.left.now)
    c.loop-first.invariant.front
    (has_bytes _ (sym c.is_empty.ensures ∙ c.loop-first-test.false)))
    ∙ c.loop-first.invariant.text
