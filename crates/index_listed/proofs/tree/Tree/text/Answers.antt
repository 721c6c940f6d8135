use Rattle.std.proofs.Common.{◌≡◌, ◌∙◌, ◌<◌, Some, None, arith, length, subst, sym}
use Rattle.index_listed.specs.Tree.{IsTree, nearest}
use Rattle.index_listed.proofs.EntriesLemmas.{told_read}
use Rattle.index_listed.proofs.TreeLemmas.{nearest_before}
use Rattle.index_listed.proofs.tree.Tree.text.Goals as goal

pub has_later-requires : goal.has_later-requires
has_later-requires c =
    let es = c.args.self.now in
    let near = c.self.inside.nearest.items in
    let p = c.args.place in
    let lt : p < length es = c.requires in
    let tree : IsTree es near c.self.inside.last.items =
    subst (λ l. IsTree l near c.self.inside.last.items) c.self.view_is c.self.invariant in
    let here : nearest es p ≡ Some c.in-Some.above =
    sym (told_read None (nearest es) (length es) near tree.the_nearest p lt c.index.result.now
    c.index.ensures) ∙ c.in-Some.is in
    let under : c.in-Some.above < p = nearest_before es tree.parents p c.in-Some.above here in
    omega (arith, lt, under)

pub put_columns-requires : goal.put_columns-requires
put_columns-requires c =
    let es = c.args.self.now in
    let near = c.self.inside.nearest.items in
    let p = c.args.place in
    let lt : p < length es = c.requires in
    let tree : IsTree es near c.self.inside.last.items =
    subst (λ l. IsTree l near c.self.inside.last.items) c.self.view_is c.self.invariant in
    let here : nearest es p ≡ Some c.in-Some.above =
    sym (told_read None (nearest es) (length es) near tree.the_nearest p lt c.index.result.now
    c.index.ensures) ∙ c.in-Some.is in
    let under : c.in-Some.above < p = nearest_before es tree.parents p c.in-Some.above here in
    omega (arith, lt, under)
