use Rattle.std.proofs.Common.{◌≡◌, ◌∙◌, ◌++◌, true, sym, ap}
use Rattle.std.specs.List.{concat}
use Rattle.bstr.proofs.lemmas.RestLemmas.{concat-lines_of}
use Rattle.mail_base.specs.Lines.{is_empty_line}
use Rattle.mbox_text.specs.MessageCore.{kept_from}
use Rattle.mbox_text.specs.Status.{drops}
use Rattle.mbox_text.proofs.WithStatusLemmas.{from_empty}
use Rattle.mbox_text.proofs.status_fields.kept_lines.Goals as goal

pub returns-then-is_empty_line : goal.returns-then-is_empty_line
returns-then-is_empty_line c =
    let at = c.loop-line in
    let line = c.in-Some.line.now in
    let empty : is_empty_line line ≡ true =
    sym c.is_empty_line.ensures ∙ c.if-is_empty_line.true in
    c.in_ok-append-2.ensures.ok
    ∙ ap (λ l. at.text.items ++ l)
    (sym (concat-lines_of at.left.now) ∙ ap concat (at.invariant.left ∙ c.in-Some.ensures.steps
    ∙ sym (from_empty (drops at.told) line _ empty)))
    ∙ ap (λ ls. at.text.items ++ concat (kept_from (drops at.told) ls))
    (sym c.in-Some.ensures.steps)
    ∙ at.invariant.text
