use Rattle.std.proofs.Common.{length, ap, ◌∙◌, arith}
use Rattle.std.specs.List.{concat}
use Rattle.bstr.proofs.lemmas.RestLemmas.{concat-lines_of}
use Rattle.mail_base.specs.Lines.{fields_of, header_block}
use Rattle.headers.proofs.FoldedFieldLemmas.{behind_is_shorter, field_has_bytes}
use Rattle.headers.proofs.folded_field.FoldedField.next.Goals as goal

pub loop-line-init : goal.loop-line-init
loop-line-init c =
    let value = c.lines_with_terminator-lines.ensures.value in
    record {
      fields = ap (λ lines. fields_of (header_block lines)) value;
      within = omega (arith, ap length (ap concat value ∙ concat-lines_of c.args.text.now));
    }

pub returns-in-Some-colon_of-clause-shorter : goal.returns-in-Some-colon_of-clause-shorter
returns-in-Some-colon_of-clause-shorter c =
    behind_is_shorter _ _ c.in-Some.line.now c.loop-line.lines _ c.loop-line.invariant.within
    c.in-Some.ensures.steps c.as_bytes-behind.ensures
    (field_has_bytes _ _ c.in-Some-colon_of.ensures.within)
