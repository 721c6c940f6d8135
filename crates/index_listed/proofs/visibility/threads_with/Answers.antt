use Rattle.std.proofs.Common.{◌+◌, false}
use Rattle.std.proofs.Common.{subst, sym, slice_index_or}
use Rattle.index_listed.specs.Entries.{at}
use Rattle.index_listed.specs.Visibility.{AreThreadsWith}
use Rattle.index_listed.proofs.EntriesLemmas.{threads_next}
use Rattle.index_listed.proofs.visibility.threads_with.Goals as goal

pub loop-place-preserved : goal.loop-place-preserved
loop-place-preserved c =
    let es = c.args.entries.now in
    let n = c.loop-place.place in
    let old = c.loop-place.marks.items in
    let r = (at es n).root in
    subst (AreThreadsWith (λ p. slice_index_or c.args.passed.now p false) es (n + 1))
    (sym c.mark_where.ensures)
    (threads_next (λ p. slice_index_or c.args.passed.now p false) es n old
    c.loop-place.invariant (c.requires.within n c.loop-place-test.true))
