use Rattle.std.proofs.Common.{◌≡◌, ◌∙◌, ◌<◌, false, reverse, subst}
use Rattle.std.proofs.Common.{arith, ⊎_elim}
use Rattle.std.proofs.lemmas.Bool.{cases_lt}
use Rattle.std.proofs.lemmas.List.{length-map}
use Rattle.threads.specs.Message.{is_listed_before, plain_message, plain_messages}
use Rattle.threads.specs.Walk.{Each, IsOrder, is_unseen, mark_at}
use Rattle.threads.proofs.CloseLemmas.{walk_within, way_within}
use Rattle.threads.proofs.OrderLemmas.{listing_order}
use Rattle.threads.proofs.walk.end_from.Goals as goal

pub close-root-requires-clause-within : goal.close-root-requires-clause-within
close-root-requires-clause-within c =
    let before = is_listed_before (plain_messages c.args.messages.now) in
    let walk = c.in_ok-met.ensures.walk before c.requires.before.walk in
    subst (λ n. Each (λ p. p < n) c.follow.new.way.items)
    (walk.long ∙ c.requires.links.long ∙ length-map c.args.messages.now plain_message)
    (walk_within before c.args.links.now c.follow.new.marks c.follow.new.way.items walk)

pub close-root-requires-clause-only : goal.close-root-requires-clause-only
close-root-requires-clause-only c =
    (c.in_ok-met.ensures.walk (is_listed_before
    (plain_messages c.args.messages.now)) c.requires.before.walk).only

pub settle-requires : goal.settle-requires
settle-requires c =
    let ms = plain_messages c.args.messages.now in
    let size = length-map c.args.messages.now plain_message in
    let walk = c.in_ok-met.ensures.walk (is_listed_before ms) c.requires.before.walk in
    let closed = c.close-root.ensures.closed c.args.links.now
    (subst (IsOrder (is_listed_before ms)) size (listing_order ms c.requires.links.distinct))
    (c.requires.links.long ∙ size) walk c.in_ok-met.ensures.met.leads in
    record {
      within = way_within c.args.links.now c.close-root.new.marks
          (reverse c.close-root.new.way.items)
          closed.walk.chained;
    }

pub returns-clause-ended : goal.returns-clause-ended
returns-clause-ended c =
    let ms = plain_messages c.args.messages.now in
    let size = length-map c.args.messages.now plain_message in
    let walk = c.in_ok-met.ensures.walk (is_listed_before ms) c.requires.before.walk in
    let closed = c.close-root.ensures.closed c.args.links.now
    (subst (IsOrder (is_listed_before ms)) size (listing_order ms c.requires.links.distinct))
    (c.requires.links.long ∙ size) walk c.in_ok-met.ensures.met.leads in
    record {
      walk = c.settle.ensures.walk (is_listed_before ms) c.args.links.now closed;
      seen = λ p lt. ⊎_elim
          (λ low. c.settle.ensures.keeps p (c.close-root.ensures.keeps p
          (c.in_ok-met.ensures.keeps p (c.requires.before.seen p low))))
          (λ high. subst (λ q. is_unseen (mark_at c.settle.new.marks q) ≡ false) (omega arith)
          (c.settle.ensures.keeps c.args.start (c.close-root.ensures.keeps c.args.start
          c.in_ok-met.ensures.met.start_seen)))
          (cases_lt p c.args.start);
    }
