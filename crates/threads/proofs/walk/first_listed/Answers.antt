use Rattle.std.proofs.Common.{◌≡◌, ◌∙◌, ◌+◌, ◌<◌, ℕ, Some, ap, false, length}
use Rattle.std.proofs.Common.{slice_index, subst, sym}
use Rattle.threads.specs.Message.{is_listed_before, plain_messages}
use Rattle.threads.proofs.OrderLemmas.{Each-at, first_kept, first_step, slice_get-index}
use Rattle.threads.proofs.walk.first_listed.Goals as goal
use Rattle.threads.proofs.walk.first_listed.Goals.{then-is_listed_before, else-is_listed_before}

pub loop-place-preserved : goal.loop-place-preserved
loop-place-preserved c =
    let ms = plain_messages c.args.messages.now in
    let places = c.args.places.now in
    let n = c.loop-place.place-index in
    let inv = c.loop-place.invariant in
    elim c.if-is_listed_before.branch [
      | then-is_listed_before w ↦ record {
        within = subst (λ f. f < length c.args.messages.now) (sym w.first-is)
            (Each-at (λ p. p < length c.args.messages.now) places n c.requires.within
            c.loop-place-test.true);
        among = (n, slice_get-index places n c.loop-place-test.true ∙ ap Some (sym w.first-is));
        least = subst (λ f. (i : ℕ) → i < n + 1
            → is_listed_before ms (slice_index places i) f ≡ false)
            (sym w.first-is) (first_step ms places n c.loop-place.first c.loop-place-test.true
            (sym c.is_listed_before.ensures ∙ w.if-is_listed_before.true) inv.least);
      }
      | else-is_listed_before w ↦ record {
        within = subst (λ f. f < length c.args.messages.now) (sym w.first-is) inv.within;
        among = (inv.among.0, inv.among.1 ∙ ap Some (sym w.first-is));
        least = subst (λ f. (i : ℕ) → i < n + 1
            → is_listed_before ms (slice_index places i) f ≡ false)
            (sym w.first-is) (first_kept ms places n c.loop-place.first
            (sym c.is_listed_before.ensures ∙ w.if-is_listed_before.false) inv.least);
      }
    ]
