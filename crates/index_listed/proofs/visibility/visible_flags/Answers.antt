use Rattle.std.proofs.Common.{◌+◌, ◌&&◌, ◌||◌, ◌∙◌, Bool, not, false, ap, subst, sym}
use Rattle.index_listed.specs.Entries.{Tells, at}
use Rattle.index_listed.specs.Visibility.{AreThreadsWith, is_visible, satisfies}
use Rattle.index_listed.proofs.EntriesLemmas.{threads_next, tells_next}
use Rattle.index_listed.proofs.visibility.visible_flags.Goals as goal

pub loop-place-preserved : goal.loop-place-preserved
loop-place-preserved c =
    let es = c.args.entries.now in
    let n = c.loop-place.place in
    let within = c.requires n c.loop-place-test.true in record {
      met = subst (AreThreadsWith (satisfies es) es (n + 1)) (sym c.next_is_visible.ensures.met)
          (threads_next (satisfies es) es n c.loop-place.met.items c.loop-place.invariant.met
          within);
      flags = subst (Tells false (is_visible es) (n + 1)) (sym c.in_ok-push.ensures.items)
          (tells_next false (is_visible es) n c.loop-place.flags.items c.next_is_visible.result
          c.loop-place.invariant.flags
          (c.next_is_visible.ensures.value
          ∙ ap (λ (b : Bool). satisfies es n && (not (at es n).is_shut || not b))
          (c.loop-place.invariant.met.marked (at es n).root within)));
    }
