use Rattle.std.proofs.Common.{◌≡◌, ◌∙◌, ℕ, ◌<◌, Bool, true, false, not, Some, reverse, sym}
use Rattle.std.proofs.Common.{subst, refl, ap, inr, ⊎_elim}
use Rattle.std.proofs.lemmas.Bool.{false≢true}
use Rattle.threads.specs.Walk.{IsWalk, KeepsSeen, LeadsTo, is_unseen, mark_at}
use Rattle.threads.proofs.WalkLemmas.{entered, mark-same, reverse_push, seen-mark}
use Rattle.threads.proofs.walk.follow.Goals as goal

true_from_not : (b r : Bool) → r ≡ not b → r ≡ false → b ≡ true
true_from_not true r e f = refl
true_from_not false r e f = absurd (false≢true (sym f ∙ e))

pub loop-next-preserved : goal.loop-next-preserved
loop-next-preserved c =
    let links = c.args.links.now in
    let marks = c.loop-next.marks in
    let way = c.loop-next.way.items in
    let place = c.in-Some.place in
    let inv = c.loop-next.invariant in
    let new : is_unseen (mark_at marks place) ≡ true =
    true_from_not (is_unseen (mark_at marks place)) c.is_seen.result c.is_seen.ensures
    c.if-is_seen.false in
    let lt = inv.within place c.in-Some.is in
    let there = subst (λ n. place < n) (sym (c.loop-next.auto.marks ∙ c.requires.long)) lt in
    let leads : LeadsTo links (reverse way) (Some place) =
    subst (LeadsTo links (reverse way)) c.in-Some.is inv.leads in
    let kept : KeepsSeen marks c.enter.new.marks =
    subst (KeepsSeen marks) (sym c.in_ok-next.ensures.marks) (seen-mark marks place _ there refl) in
    record {
      walk = λ is_before walk.
          subst (λ m. IsWalk is_before links m c.enter.new.way.items)
          (sym c.in_ok-next.ensures.marks)
          (subst (IsWalk is_before links _) (sym c.in_ok-next.ensures.way)
          (entered is_before links marks way place (inv.walk is_before walk) new there leads));
      leads = subst (λ w. LeadsTo links (reverse w) c.in_ok-next.next)
          (sym c.in_ok-next.ensures.way)
          (subst (λ r. LeadsTo links r c.in_ok-next.next) (sym (reverse_push way place))
          (sym c.in_ok-next.ensures.next));
      within = λ p e. c.requires.inside place p (sym c.in_ok-next.ensures.next ∙ e);
      start = inr (⊎_elim
          (λ is. subst (λ s. is_unseen (mark_at c.enter.new.marks s)
          ≡ false) (start_is place c.args.start
          (sym c.in-Some.is ∙ is))
          (ap (λ m. is_unseen (mark_at m place)) c.in_ok-next.ensures.marks
          ∙ ap is_unseen (mark-same marks place _ there)))
          (λ seen. kept c.args.start seen) inv.start);
      keeps = λ p s. kept p (inv.keeps p s);
    }
  where
    start_is : (a b : ℕ) → Some a ≡ Some b → a ≡ b
    start_is a b e = cc
