use Rattle.std.proofs.Common.{◌+◌, ◌&&◌, ◌||◌, ◌∙◌, Bool, not, false}
use Rattle.std.proofs.Common.{ap, subst, sym, slice_index_or, slice_set}
use Rattle.index_listed.specs.Entries.{at}
use Rattle.index_listed.specs.Visibility.{AreThreadsWith, is_hidden, satisfies}
use Rattle.index_listed.proofs.EntriesLemmas.{threads_next}
use Rattle.index_listed.proofs.visibility.threads_with_hidden.Goals as goal

pub loop-place-preserved : goal.loop-place-preserved
loop-place-preserved c =
    let es = c.args.entries.now in
    let n = c.loop-place.place in
    let old = c.loop-place.hidden.items in
    let r = (at es n).root in
    subst (AreThreadsWith (is_hidden es) es (n + 1))
    (sym (c.mark_where.ensures
    ∙ ap (λ (b : Bool). slice_set old r (slice_index_or old r false || b))
    (c.is_hidden.ensures
    ∙ ap (λ (b : Bool). satisfies es n && not b)
    (c.requires.flags.each n c.loop-place-test.true))))
    (threads_next (is_hidden es) es n old c.loop-place.invariant
    (c.requires.within n c.loop-place-test.true))
