use Rattle.std.proofs.Common.{◌∙◌, ◌<◌, ap, length, subst, sym}
use Rattle.index_order.specs.Inner.{PlainStanding, link_at}
use Rattle.index_order.specs.Order.{key_place}
use Rattle.index_order.proofs.KeyLemmas.{key_read, key_within}
use Rattle.index_order.proofs.standing.Standing.key_place.Goals as goal

pub returns-clause-value : goal.returns-clause-value
returns-clause-value c =
    let s = c.self.inside in
    let kept = c.self.invariant in
    let lt = subst (λ (t : PlainStanding). c.args.top < length t.keys) (sym c.self.view_is)
    c.requires in
    c.unwrap_or.ensures
    ∙ key_read s.options s.keys.now s.above.items s.greatest.items kept.long kept.key_places
    c.args.top lt c.index.result.now c.index.ensures
    ∙ ap (λ (t : PlainStanding). key_place t.options t.keys (link_at t.above) c.args.top)
    c.self.view_is

pub returns-clause-within : goal.returns-clause-within
returns-clause-within c =
    let s = c.args.self.now in
    subst (λ k. k < length s.keys) (sym (returns-clause-value c))
    (key_within s.options s.keys (link_at s.above) c.args.top c.requires)
