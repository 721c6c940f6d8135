use Rattle.std.proofs.Common.{◌+◌, ◌∙◌, ◌<◌, Bool, ap, arith, subst, sym, slice_index_or, false}
use Rattle.index_listed.specs.Tree.{AreLast, nearest, with_last}
use Rattle.index_listed.proofs.TreeLemmas.{last_next, nearest_before}
use Rattle.index_listed.proofs.tree.last_of.Goals as goal

pub put_last-requires : goal.put_last-requires
put_last-requires c = λ a e.
    let es = c.args.entries.now in
    let n = c.loop-place.place in
    let lt = c.loop-place-test.true in
    let under : a < n = nearest_before es c.requires.parents n a
    (sym (c.requires.nearest.each n lt) ∙ e) in
    subst (λ k. a < k) (sym c.loop-place.invariant.long) (omega (arith, lt, under))

pub loop-place-preserved : goal.loop-place-preserved
loop-place-preserved c =
    let es = c.args.entries.now in
    let n = c.loop-place.place in
    let old = c.loop-place.last.items in
    let lt = c.loop-place-test.true in
    subst (AreLast es (n + 1))
    (sym (c.put_last.ensures
    ∙ ap (λ o. with_last old o (slice_index_or c.args.flags.now n false) n)
    (c.requires.nearest.each n lt)
    ∙ ap (λ (v : Bool). with_last old (nearest es n) v n) (c.requires.flags.each n lt)))
    (last_next es n old c.requires.parents lt c.loop-place.invariant)
