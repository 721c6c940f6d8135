use Rattle.std.proofs.Common.{length, ap, sym, ◌∙◌, arith}
use Rattle.std.specs.List.{concat}
use Rattle.bstr.proofs.lemmas.RestLemmas.{concat-lines_of}
use Rattle.mail_base.specs.Blanks.{without_blanks}
use Rattle.mail_base.specs.Lines.{continuations, header_block}
use Rattle.headers.proofs.FoldedFieldLemmas.{behind_is_shorter, continuation_has_bytes}
use Rattle.headers.proofs.FoldedFieldLemmas.{without_blanks_twice}
use Rattle.headers.proofs.folded_field.next_continuation.Goals as goal

pub loop-line-init : goal.loop-line-init
loop-line-init c =
    let value = c.lines_with_terminator-lines.ensures.value in
    record {
      more = ap (λ lines. continuations (header_block lines)) value;
      within = omega (arith, ap length (ap concat value ∙ concat-lines_of c.args.text.now));
    }

pub returns-then-is_continuation-clause-front : goal.returns-then-is_continuation-clause-front
returns-then-is_continuation-clause-front c =
    let value = c.without_blanks-more.ensures.value in
    ap without_blanks value ∙ without_blanks_twice c.without_line_end.result.now ∙ sym value

pub returns-then-is_continuation-clause-shorter : goal.returns-then-is_continuation-clause-shorter
returns-then-is_continuation-clause-shorter c =
    behind_is_shorter _ _ c.in-Some.line.now c.loop-line.lines _ c.loop-line.invariant.within
    c.in-Some.ensures.steps c.as_bytes.ensures
    (continuation_has_bytes _ (sym c.is_continuation.ensures ∙ c.if-is_continuation.true))
