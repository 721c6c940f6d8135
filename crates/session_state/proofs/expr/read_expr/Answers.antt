use Rattle.std.proofs.Common.{Ok, Err, ap, sym, ◌∙◌, inl, inr}
use Rattle.mail_base.specs.Shown.{utf8_text}
use Rattle.session_state.proofs.ExprLemmas.{expr_bad, expr_good, reads_good, reads_keeps}
use Rattle.session_state.proofs.ExprLemmas.{reads_size, reads_syntax}
use Rattle.session_state.proofs.expr.read_expr.Goals as goal

pub returns-in-Ok-clause-keeps : goal.returns-in-Ok-clause-keeps
returns-in-Ok-clause-keeps g c =
    reads_keeps (utf8_text c.args.text.now) _ _ _ _ c.read.result c.read.ensures.reads

pub returns-in-Ok-clause-value : goal.returns-in-Ok-clause-value
returns-in-Ok-clause-value g c = λ later keeps.
    expr_good later c.args.text.now c.args.word.now
    (reads_good (utf8_text c.args.text.now) _ _ _ _ later keeps _ c.in-Ok.ensures.reads)
    ∙ ap Ok (sym c.in-Ok.ensures.value)

pub returns-in-Err-Syntax-clause-keeps : goal.returns-in-Err-Syntax-clause-keeps
returns-in-Err-Syntax-clause-keeps g c =
    reads_keeps (utf8_text c.args.text.now) _ _ _ _ c.read.result c.read.ensures.reads

pub returns-in-Err-Syntax-clause-value : goal.returns-in-Err-Syntax-clause-value
returns-in-Err-Syntax-clause-value g c = λ later keeps.
    elim c.new.ensures [
      | inl at ↦ inl (expr_bad later c.args.text.now c.args.word.now
          (reads_syntax (utf8_text c.args.text.now) _ _ _ _ later keeps
          (rw c.in-Err-Syntax.field-0-is at c.in-Err-Syntax.ensures.reads)) ∙ ap Err (sym at))
      | inr at ↦ inr at
    ]

pub returns-in-Err-Size-clause-keeps : goal.returns-in-Err-Size-clause-keeps
returns-in-Err-Size-clause-keeps g c =
    reads_keeps (utf8_text c.args.text.now) _ _ _ _ c.read.result c.read.ensures.reads

pub returns-in-Err-Size-clause-value : goal.returns-in-Err-Size-clause-value
returns-in-Err-Size-clause-value g c = λ later keeps.
    elim c.new-in-Err-Size.ensures [
      | inl at ↦ inl (expr_bad later c.args.text.now c.args.word.now
          (reads_size (utf8_text c.args.text.now) _ _ _ _ later keeps
          (rw c.in-Err-Size.field-0-is at c.in-Err-Size.ensures.reads)) ∙ ap Err (sym at))
      | inr at ↦ inr at
    ]
