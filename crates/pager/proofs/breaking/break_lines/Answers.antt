use Rattle.std.proofs.Common.{◌≡◌, ◌++◌, ◌∙◌, ap, sym}
use Rattle.std.specs.List.{list_all}
use Rattle.pager.specs.Broken.{broken, is_shown}
use Rattle.pager.specs.Inner.{PlainBreaker, fresh, unquoted_at}
use Rattle.pager.proofs.PagerLemmas.{noted_turn, pieces_turn, shown_turn}
use Rattle.pager.proofs.breaking.break_lines.Goals as goal
use Rattle.std.specs.Prelude.{length}

pub loop-line-preserved : goal.loop-line-preserved
loop-line-preserved c =
    let cols = c.args.breaker.now.cols in
    let line = c.line-item.result in
    let breaker = c.loop-line.breaker in
    let before = c.loop-line.invariant in
    let after = c.in_ok-break_line.ensures in
    let same : breaker.cols ≡ cols = ap (λ (l : PlainBreaker). l.cols) before.fresh in
    let fresh_is = after.pieces
    ∙ ap (λ n. fresh n (breaker.done ++ broken n line.items)) same in
    let more = ap (λ (l : PlainBreaker). l.done) fresh_is in
    record {
      fresh = fresh_is ∙ ap (fresh cols) (sym more);
      shown = shown_turn cols breaker.done _ (broken cols line.items) more before.shown
          (ap (λ n. list_all (is_shown n) (broken n line.items)) (sym same) ∙ after.shown);
      pieces = pieces_turn cols breaker.done _ _ c.args.lines.now c.loop-line.line-index line
          c.loop-line-test.true c.line-item.is more before.pieces;
      places = noted_turn cols breaker.done _ c.loop-line.unquoted.items _ _ c.args.lines.now
          c.loop-line.line-index line c.loop-line-test.true c.line-item.is more
          (after.places ∙ ap (λ n. c.loop-line.unquoted.items
          ++ unquoted_at n (length breaker.done) line.items) same) before.places;
    }
