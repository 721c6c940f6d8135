use Rattle.std.proofs.Common.{◌≡◌, ◌∙◌, ◌<◌, ◌++◌, Bool, Some, None}
use Rattle.std.proofs.Common.{ap, arith, length, reverse, subst, sym}
use Rattle.index_listed.specs.Tree.{IsTree, column, columns, has_later, nearest}
use Rattle.index_listed.proofs.EntriesLemmas.{told_read}
use Rattle.index_listed.proofs.TreeLemmas.{columns_up, join_again, nearest_before}
use Rattle.index_listed.proofs.tree.Tree.put_columns.Goals as goal

pub has_later-requires : goal.has_later-requires
has_later-requires c =
    let es = c.args.self.now in
    let near = c.self.inside.nearest.items in
    let p = c.loop-above.place in
    let lt : p < length es = c.loop-above.invariant.within in
    let tree : IsTree es near c.self.inside.last.items =
    subst (λ l. IsTree l near c.self.inside.last.items) c.self.view_is c.self.invariant in
    let here : nearest es p ≡ Some c.in-Some.above =
    sym (told_read None (nearest es) (length es) near tree.the_nearest p lt c.index.result.now
    c.index.ensures) ∙ c.in-Some.is in
    let under : c.in-Some.above < p = nearest_before es tree.parents p c.in-Some.above here in
    omega (arith, lt, under)

pub loop-above-smaller : goal.loop-above-smaller
loop-above-smaller c =
    let es = c.args.self.now in
    let near = c.self.inside.nearest.items in
    let p = c.loop-above.place in
    let lt : p < length es = c.loop-above.invariant.within in
    let tree : IsTree es near c.self.inside.last.items =
    subst (λ l. IsTree l near c.self.inside.last.items) c.self.view_is c.self.invariant in
    let here : nearest es p ≡ Some c.in-Some.above =
    sym (told_read None (nearest es) (length es) near tree.the_nearest p lt c.index.result.now
    c.index.ensures) ∙ c.in-Some.is in
    let under : c.in-Some.above < p = nearest_before es tree.parents p c.in-Some.above here in
    under

pub loop-above-preserved : goal.loop-above-preserved
loop-above-preserved c =
    let es = c.args.self.now in
    let near = c.self.inside.nearest.items in
    let p = c.loop-above.place in
    let lt : p < length es = c.loop-above.invariant.within in
    let tree : IsTree es near c.self.inside.last.items =
    subst (λ l. IsTree l near c.self.inside.last.items) c.self.view_is c.self.invariant in
    let here : nearest es p ≡ Some c.in-Some.above =
    sym (told_read None (nearest es) (length es) near tree.the_nearest p lt c.index.result.now
    c.index.ensures) ∙ c.in-Some.is in
    let under : c.in-Some.above < p = nearest_before es tree.parents p c.in-Some.above here in
    let old = c.loop-above.bytes.items in
    let above = c.in-Some.above in record {
      within = omega (arith, lt, under);
      done = ap (λ l. l ++ reverse (columns es above)) (c.in_ok-put_column.ensures
          ∙ ap (λ (b : Bool). old ++ reverse (column b)) c.has_later.ensures)
          ∙ join_again old (reverse (column (has_later es above p))) (reverse (columns es above))
          ∙ ap (λ l. old ++ l) (sym (columns_up es tree.parents p above lt here))
          ∙ c.loop-above.invariant.done;
    }
