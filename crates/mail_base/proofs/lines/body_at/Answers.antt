use Rattle.std.proofs.Common.{length, ap, ◌∙◌, arith, zero-add}
use Rattle.std.specs.List.{concat}
use Rattle.bstr.proofs.lemmas.RestLemmas.{concat-lines_of}
use Rattle.mail_base.specs.Lines.{header_block}
use Rattle.mail_base.proofs.lines.body_at.Goals as goal

pub loop-line-init : goal.loop-line-init
loop-line-init c =
    let value =
    c.into_iter-line-iterator.ensures.into_iter_gives
    ∙ c.lines_with_terminator-line-items.ensures.value in
    record {
      within = omega (arith, ap length (ap concat value ∙ concat-lines_of c.args.text.now));
      block = zero-add _ ∙ ap (λ lines. length (concat (header_block lines))) value;
    }
