use Rattle.std.proofs.Common.{◌+◌, ◌∙◌, ◌<◌, None, false, ap, arith}
use Rattle.std.proofs.Common.{length, option_map, slice_index_or, subst, sym}
use Rattle.index_listed.specs.Entries.{Tells, parent}
use Rattle.index_listed.specs.Tree.{nearest, visible_or}
use Rattle.index_listed.specs.Visibility.{is_visible}
use Rattle.index_listed.specs.declared.entry.Above.{Above}
use Rattle.index_listed.proofs.EntriesLemmas.{tells_next}
use Rattle.index_listed.proofs.TreeLemmas.{nearest_step, visible_or_same}
use Rattle.index_listed.proofs.tree.nearest_of.Goals as goal

pub next_nearest-next-requires-clause-flags : goal.next_nearest-next-requires-clause-flags
next_nearest-next-requires-clause-flags c = λ a e.
    let n = c.loop-place.place in
    let lt : a.place < n =
    c.requires.parents n a.place (ap (option_map (λ (b : Above). b.place)) e) in
    omega (arith, lt, c.requires.flags.long, c.loop-place-test.true)

pub next_nearest-next-requires-clause-nearest : goal.next_nearest-next-requires-clause-nearest
next_nearest-next-requires-clause-nearest c = λ a e.
    let n = c.loop-place.place in
    let lt : a.place < n =
    c.requires.parents n a.place (ap (option_map (λ (b : Above). b.place)) e) in
    subst (λ l. a.place < length l) (sym c.deref.ensures.value)
    (subst (λ k. a.place < k) (sym c.loop-place.invariant.long) lt)

pub loop-place-preserved : goal.loop-place-preserved
loop-place-preserved c =
    let es = c.args.entries.now in
    let n = c.loop-place.place in
    let known = c.loop-place.nearest.items in
    let lt = c.loop-place-test.true in
    subst (Tells None (nearest es) (n + 1)) (sym c.in_ok-push.ensures.items)
    (tells_next None (nearest es) n known c.next_nearest-next.result c.loop-place.invariant
    (c.next_nearest-next.ensures
    ∙ ap (λ l. visible_or (λ p. slice_index_or c.args.flags.now p false)
    (λ p. slice_index_or l p None) (parent es n)) c.deref.ensures.value
    ∙ visible_or_same (λ p. slice_index_or c.args.flags.now p false) (is_visible es)
    (λ p. slice_index_or known p None) (nearest es) (parent es n)
    (λ q e. let under : q < n = c.requires.parents n q e in
    c.requires.flags.each q (omega (arith, lt, under)))
    (λ q e. c.loop-place.invariant.each q (c.requires.parents n q e))
    ∙ sym (nearest_step es c.requires.parents n lt)))
