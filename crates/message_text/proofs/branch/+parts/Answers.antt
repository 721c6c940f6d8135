use Rattle.std.proofs.Common.{◌≡◌, ◌∙◌, ◌+◌, ◌++◌, ap, drop, get_or, sym, subst, arith}
use Rattle.std.specs.Prelude.{OnOk}
use Rattle.std.proofs.lemmas.List.{append-nil}
use Rattle.mail_base.specs.Series.{plain_texts}
use Rattle.message_text.specs.Branch.{children, mark_before, mixed_lines}
use Rattle.message_text.specs.Look.{look_of}
use Rattle.message_text.specs.Source.{lines_of_branch, parts_of_source}
use Rattle.message_text.specs.Weeding.{plain_weeding}
use Rattle.message_text.proofs.PartsLemmas.{branch_none, lines_at, marked, next_lines}
use Rattle.message_text.proofs.branch.+parts.Goals as goal

pub add_children-loop-at-preserved : goal.add_children-loop-at-preserved
add_children-loop-at-preserved t c =
    let source = c.args.source.now in
    let lines = lines_of_branch c.args.levels source in
    let parts = parts_of_source source in
    let old = plain_texts c.loop-at.lines in
    let at = c.in-Some.at in
    record {
      lines = marked old (mark_before c.loop-at.before c.index-source-at.result.content.items)
          (lines (drop at parts))
          (mixed_lines lines (c.loop-at.before + 1)
          (children c.args.nesting (drop (at + 1) parts)))
          (plain_texts c.add_mark_before.new.lines) (plain_texts c.add_part.new.lines) _
          (c.in_ok-add_mark_before.ensures
          ∙ ap (λ l. old ++ mark_before c.loop-at.before l) c.as_slice.ensures
          ∙ ap (λ p. old ++ mark_before c.loop-at.before p.content.items)
          (sym c.index-source-at.is))
          c.in_ok-add_part.ensures
          (ap (λ l. old ++ l)
          (sym (next_lines lines source.parts.now c.args.nesting c.loop-at.from at
          c.loop-at.before c.index-source-at.result c.index-source-at.is
          c.in-Some.ensures.within c.in-Some.ensures.value))
          ∙ c.loop-at.invariant.lines);
      before = omega (arith, c.in-Some.ensures.from, c.loop-at.invariant.before);
    }

pub add_part-returns-then-levels-eq0 : goal.add_part-returns-then-levels-eq0
add_part-returns-then-levels-eq0 t c =
    let source = c.args.source.now in
    let lines = plain_texts c.args.lines.now in
    sym (ap (λ l. lines ++ l)
    (branch_none c.args.levels (plain_weeding source.weed.now) source.raw.now
    (drop c.args.at (parts_of_source source)) c.if-levels-eq0.true)
    ∙ append-nil lines)

pub add_part-returns : goal.add_part-returns
add_part-returns t c =
    let source = c.args.source.now in
    let parts = source.parts.now in
    let lines = plain_texts c.args.lines.now in
    let part = get_or parts c.args.at c.index-source-at.result in
    subst (λ l. OnOk c.add_looked.result (plain_texts c.add_looked.new.lines ≡ lines ++ l))
    (sym (lines_at c.args.levels (plain_weeding source.weed.now) source.raw.now parts c.args.at part
    c.of-look.result (omega (arith, c.if-levels-eq0.false))
    (ap (get_or parts c.args.at) c.index-source-at.is)
    c.requires (c.of-look.ensures ∙ ap look_of c.as_slice.ensures)))
    c.add_looked.ensures
