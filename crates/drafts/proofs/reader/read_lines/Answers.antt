use Rattle.std.proofs.Common.{◌≡◌, ◌<◌, List, ℕ, [], ◌∷◌, ◌++◌, ap, arith, length, sym, subst, ◌∙◌}
use Rattle.std.specs.List.{list_all}
use Rattle.std.proofs.lemmas.Bool.{eqb-true}
use Rattle.std.proofs.lemmas.Bool.Decides.{nat_tests}
use Rattle.std.proofs.lemmas.Result.{err_from_is_err_and}
use Rattle.mail_base.specs.Series.{plain_texts}
use Rattle.drafts.specs.PlainDraft.{is_text}
use Rattle.drafts.specs.Reading.{read_lines}
use Rattle.drafts.proofs.LoopLemmas.{Left, lines_end, lines_fail, lines_on, read_text, texts_on}
use Rattle.drafts.proofs.LoopLemmas.{texts_push}
use Rattle.drafts.proofs.reader.read_lines.Goals as goal

pub line_of-requires : goal.line_of-requires
line_of-requires c = read_text _ _ _ c.in_ok-line.ensures.value

pub returns-in_err-line-clause-value : goal.returns-in_err-line-clause-value
returns-in_err-line-clause-value c =
    let left = c.loop-left.left.now in
    let some : 0 < length left =
    grind (arith, nat_tests, c.is_empty.ensures, c.loop-left-test.true) in
    let p = err_from_is_err_and c.from_residual.result c.from_residual.ensures.1 in
    rw (p.1, p.2)
    (lines_fail left c.in_err-line.field-0.0 (plain_texts c.loop-left.lines) _ some
    c.in_err-line.ensures.value c.loop-left.invariant.left)

pub loop-left-preserved : goal.loop-left-preserved
loop-left-preserved c =
    let left = c.loop-left.left.now in
    let line = c.in_ok-line.line.now in
    let rest = c.in_ok-line.rest.now in
    let lines = plain_texts c.loop-left.lines in
    let some : 0 < length left =
    grind (arith, nat_tests, c.is_empty.ensures, c.loop-left-test.true) in
    let pushed : plain_texts c.push.new.self ≡ lines ++ line ∷ [] =
    texts_push c.loop-left.lines.items c.in_ok-line_of.field-0 line c.push.new.self.items
    c.in_ok-push.ensures.ok c.in_ok-line_of.ensures in record {
      left = subst (λ (l : List (List ℕ)). Left rest l (read_lines c.args.text.now)) (sym pushed)
          (lines_on left line rest lines (read_lines c.args.text.now) some
          c.in_ok-line.ensures.shorter c.in_ok-line.ensures.value c.loop-left.invariant.left);
      texts = ap (list_all is_text) pushed
          ∙ texts_on lines line c.loop-left.invariant.texts
          (read_text left line rest c.in_ok-line.ensures.value);
    }

pub returns-clause-value : goal.returns-clause-value
returns-clause-value c =
    let left = c.loop-left.left.now in
    let none : length left ≡ 0 =
    eqb-true (length left) 0 (sym c.is_empty.ensures ∙ c.loop-left-test.false) in
    lines_end left (plain_texts c.loop-left.lines) _ none c.loop-left.invariant.left
